use Rattle.global_cache.specs.Below.{verdicts}
use Rattle.global_cache.proofs.Sound.{AreSoundFindings-empty}
use Rattle.global_cache.proofs.GlobalCache.new.Goals as goal

pub invariant_of-result : goal.invariant_of-result
invariant_of-result g c = AreSoundFindings-empty g.D.Cx.Input.PartialEq.eq (verdicts g.D.Cx.Cx)
    (g.D.Delegate.script c.args.cx) c.new.result c.new-2.result c.new.ensures c.new-2.ensures
