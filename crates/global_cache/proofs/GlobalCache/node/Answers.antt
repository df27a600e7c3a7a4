use Rattle.global_cache.proofs.Slots.{lent_is_run}
use Rattle.global_cache.proofs.GlobalCache.node.Goals as goal
use Rattle.global_cache.specs.Below.{verdicts}

pub returns-clause-is_run : goal.returns-clause-is_run
returns-clause-is_run g c =
    lent_is_run c.self.inside.cx c.self.inside.nodes c.self.inside.results c.args.self.now c.self.view_is
    (λ n. n.now) (verdicts g.D.Cx.Cx) g.D.Delegate.script c.args.node.0 c.finished.result
    c.self.invariant.runs c.finished.ensures
