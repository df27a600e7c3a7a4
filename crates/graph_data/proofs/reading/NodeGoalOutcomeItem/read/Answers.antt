use Rattle.graph_data.proofs.Left.{edges_left, node_end, node_goal_left, replies_left, result_left}
use Rattle.graph_data.proofs.Stops.{stops_before}
use Rattle.graph_data.proofs.reading.NodeGoalOutcomeItem.read.Goals as goal

pub returns-in_err-input-clause-refused : goal.returns-in_err-input-clause-refused
returns-in_err-input-clause-refused c =
    stops_before _ _ (λ all. node_goal_left _ all c.in_ok-begin_object.ensures.read)
    c.from_residual-in_err-input.ensures.1 c.in_err-input.ensures.refused

pub returns-in_err-replies-clause-refused : goal.returns-in_err-replies-clause-refused
returns-in_err-replies-clause-refused c =
    stops_before _ _ (λ all. replies_left _ all c.in_ok-begin_object.ensures.read
    _ c.in_ok-input.ensures.spelled) c.from_residual-in_err-replies.ensures.1 c.in_err-replies.ensures.refused

pub returns-in_err-result-clause-refused : goal.returns-in_err-result-clause-refused
returns-in_err-result-clause-refused c =
    stops_before _ _ (λ all. result_left _ all c.in_ok-begin_object.ensures.read
    _ c.in_ok-input.ensures.spelled _ c.in_ok-replies.ensures.spelled)
    c.from_residual-in_err-result.ensures.1 c.in_err-result.ensures.refused

pub returns-in_err-edges-clause-refused : goal.returns-in_err-edges-clause-refused
returns-in_err-edges-clause-refused c =
    stops_before _ _ (λ all. edges_left _ all c.in_ok-begin_object.ensures.read
    _ c.in_ok-input.ensures.spelled _ c.in_ok-replies.ensures.spelled _ c.in_ok-result.ensures.spelled)
    c.from_residual-in_err-edges.ensures.1 c.in_err-edges.ensures.refused

pub returns-in_err-end_object-clause-refused : goal.returns-in_err-end_object-clause-refused
returns-in_err-end_object-clause-refused c =
    stops_before _ _ (λ all. node_end _ all c.in_ok-begin_object.ensures.read
    _ c.in_ok-input.ensures.spelled _ c.in_ok-replies.ensures.spelled _ c.in_ok-result.ensures.spelled
    _ c.in_ok-edges.ensures.spelled) c.from_residual-in_err-end_object.ensures.1 c.in_err-end_object.ensures.refused
