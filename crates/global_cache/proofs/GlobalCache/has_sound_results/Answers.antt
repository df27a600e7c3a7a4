use Rattle.std.proofs.Common.{subst}
use Rattle.global_cache.specs.Below.{verdicts}
use Rattle.global_cache.specs.Words.{AreSoundResults}
use Rattle.global_cache.proofs.GlobalCache.has_sound_results.Goals as goal

pub returns : goal.returns
returns g c = subst
    (λ v. AreSoundResults g.D.Cx.Input.PartialEq.eq (verdicts g.D.Cx.Cx) (g.D.Delegate.script v.cx) v.nodes v.results)
    c.self.view_is c.self.invariant.results
