use Rattle.std.proofs.lemmas.Result.{IfOk-weaker}
use Rattle.graph_check.specs.Below.{goal_nodes_of, ForcedAmbiguity}
use Rattle.graph_check.specs.Words.{IsBetween, IsGreater}
use Rattle.graph_check.proofs.ClosedWalks.{found_of, greater_from_next}
use Rattle.graph_check.proofs.cycles.has_greater_cycle.Goals as goal

pub returns-in-Some : goal.returns-in-Some
returns-in-Some g c =
    IfOk-weaker c.has_cycle.result _ _
    (found_of (goal_nodes_of c.args.nodes.now) (IsBetween c.in-Some.least ForcedAmbiguity) (IsGreater c.args.kind)
    (greater_from_next c.args.kind c.in-Some.least c.in-Some.ensures))
    c.has_cycle.ensures
