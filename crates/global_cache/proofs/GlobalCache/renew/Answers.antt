use Rattle.global_cache.specs.Below.{verdicts}
use Rattle.global_cache.proofs.Sound.{AreSoundFindings-empty}
use Rattle.global_cache.proofs.GlobalCache.renew.Goals as goal

pub invariant_of-self : goal.invariant_of-self
invariant_of-self g c = AreSoundFindings-empty g.D.Cx.Input.PartialEq.eq (verdicts g.D.Cx.Cx)
    (g.D.Delegate.script c.args.cx) c.clear.new.self c.clear-2.new.self c.clear.ensures c.clear-2.ensures
