use Rattle.std.proofs.Common.{subst, sym}
use Rattle.global_cache.specs.Below.{verdicts}
use Rattle.global_cache.specs.Words.{AreSoundFindings}
use Rattle.global_cache.proofs.GlobalCache.over.Goals as goal

pub invariant_of-result : goal.invariant_of-result
invariant_of-result g c =
    subst (AreSoundFindings g.D.Cx.Input.PartialEq.eq (verdicts g.D.Cx.Cx) (g.D.Delegate.script c.args.cx))
    (sym c.findings.view_is) c.requires
