use Rattle.global_cache.specs.Below.{verdicts, with_root}
use Rattle.global_cache.proofs.Sound.{IsSoundCache-collected}
use Rattle.global_cache.proofs.GlobalCache.collect.Goals as goal

pub invariant_of-self : goal.invariant_of-self
invariant_of-self g c =
    IsSoundCache-collected g.D.Cx.Input.PartialEq.eq (verdicts g.D.Cx.Cx) g.D.Delegate.script c.self.inside.cx
    c.self.inside.nodes c.self.inside.results c.args.self.now c.self.view_is c.self.invariant
    c.collect.result c.collect.new.self c.args.first (with_root c.args.last c.args.roots.now) c.requires.rooted
    c.collect.ensures.collected c.collect.ensures.refused
