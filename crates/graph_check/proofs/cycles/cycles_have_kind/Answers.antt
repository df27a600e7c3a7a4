use Rattle.graph_check.specs.Below.{goal_nodes_of}
use Rattle.graph_check.proofs.ClosedWalks.{all_of_kind}
use Rattle.graph_check.proofs.cycles.cycles_have_kind.Goals as goal

pub returns-in_ok-has_lesser_cycle : goal.returns-in_ok-has_lesser_cycle
returns-in_ok-has_lesser_cycle g c =
    all_of_kind (goal_nodes_of c.args.nodes.now) c.args.kind
    c.in_ok-has_greater_cycle.field-0 c.in_ok-has_lesser_cycle.field-0
    c.in_ok-has_greater_cycle.ensures c.in_ok-has_lesser_cycle.ensures c.if-not-branch.true
