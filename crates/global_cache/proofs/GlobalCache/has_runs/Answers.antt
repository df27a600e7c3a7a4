use Rattle.std.proofs.Common.{subst}
use Rattle.global_cache.specs.Below.{verdicts, AreRuns}
use Rattle.global_cache.proofs.GlobalCache.has_runs.Goals as goal

pub returns : goal.returns
returns g c =
    subst (λ v. AreRuns (verdicts g.D.Cx.Cx) (g.D.Delegate.script v.cx) v.nodes) c.self.view_is c.self.invariant.runs
