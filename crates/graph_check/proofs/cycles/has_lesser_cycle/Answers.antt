use Rattle.std.proofs.lemmas.Result.{IfOk-weaker}
use Rattle.graph_check.specs.Below.{goal_nodes_of, Inductive}
use Rattle.graph_check.specs.Words.{IsBetween, IsLesser}
use Rattle.graph_check.proofs.ClosedWalks.{found_of, lesser_to_last}
use Rattle.graph_check.proofs.cycles.has_lesser_cycle.Goals as goal

pub returns-in-Some : goal.returns-in-Some
returns-in-Some g c =
    IfOk-weaker c.has_cycle.result _ _
    (found_of (goal_nodes_of c.args.nodes.now) (IsBetween Inductive c.in-Some.most) (IsLesser c.args.kind)
    (lesser_to_last c.args.kind c.in-Some.most c.in-Some.ensures))
    c.has_cycle.ensures
