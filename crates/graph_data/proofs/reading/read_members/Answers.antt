use Rattle.graph_data.proofs.Left.{claim_end, claim_goal_left, nodes_left, verdict_left}
use Rattle.graph_data.proofs.Stops.{stops_before}
use Rattle.graph_data.proofs.reading.read_members.Goals as goal

pub returns-in_err-goal-clause-refused : goal.returns-in_err-goal-clause-refused
returns-in_err-goal-clause-refused c =
    stops_before _ _ (λ all. claim_goal_left _ all c.in_ok-begin_object.ensures.read)
    c.from_residual-in_err-goal.ensures.1 c.in_err-goal.ensures.refused

pub returns-in_err-outcome-clause-refused : goal.returns-in_err-outcome-clause-refused
returns-in_err-outcome-clause-refused c =
    stops_before _ _ (λ all. verdict_left _ all c.in_ok-begin_object.ensures.read
    _ c.in_ok-goal.ensures.spelled) c.from_residual-in_err-outcome.ensures.1 c.in_err-outcome.ensures.refused

pub returns-in_err-nodes-clause-refused : goal.returns-in_err-nodes-clause-refused
returns-in_err-nodes-clause-refused c =
    stops_before _ _ (λ all. nodes_left _ all c.in_ok-begin_object.ensures.read
    _ c.in_ok-goal.ensures.spelled _ c.in_ok-outcome.ensures.spelled)
    c.from_residual-in_err-nodes.ensures.1 c.in_err-nodes.ensures.refused

pub returns-in_err-end_object-clause-refused : goal.returns-in_err-end_object-clause-refused
returns-in_err-end_object-clause-refused c =
    stops_before _ _ (λ all. claim_end _ all c.in_ok-begin_object.ensures.read
    _ c.in_ok-goal.ensures.spelled _ c.in_ok-outcome.ensures.spelled _ c.in_ok-nodes.ensures.spelled)
    c.from_residual-in_err-end_object.ensures.1 c.in_err-end_object.ensures.refused
