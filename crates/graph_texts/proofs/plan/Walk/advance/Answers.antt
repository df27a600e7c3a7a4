use Rattle.std.proofs.Common.{ap}
use Rattle.graph_texts.proofs.Replay.{node_left}
use Rattle.graph_texts.proofs.plan.Walk.advance.Goals as goal

pub returns-in-None-clause-replayed : goal.returns-in-None-clause-replayed
returns-in-None-clause-replayed c =
    node_left c.args.nodes.now _ _ c.args.self.now.stack.items _ _ c.in-Some.newest c.requires.replayed
    c.in-Some.ensures.items c.in-None.ensures.cases (ap (λ v. v.items) c.leave.ensures.rest.0)
    (ap (λ v. v.items) c.leave.ensures.rest.1)
