use Rattle.graph_data.proofs.Left.{edge_end, input_left, kind_left, target_left}
use Rattle.graph_data.proofs.Stops.{stops_before}
use Rattle.graph_data.proofs.reading.EdgeGoalItem.read.Goals as goal

pub returns-in_err-kind-clause-refused : goal.returns-in_err-kind-clause-refused
returns-in_err-kind-clause-refused c =
    stops_before _ _ (λ all. kind_left _ all c.in_ok-begin_object.ensures.read)
    c.from_residual-in_err-kind.ensures.1 c.in_err-kind.ensures.refused

pub returns-in_err-input-clause-refused : goal.returns-in_err-input-clause-refused
returns-in_err-input-clause-refused c =
    stops_before _ _ (λ all. input_left _ all c.in_ok-begin_object.ensures.read
    _ c.in_ok-kind.ensures.spelled) c.from_residual-in_err-input.ensures.1 c.in_err-input.ensures.refused

pub returns-in_err-target-clause-refused : goal.returns-in_err-target-clause-refused
returns-in_err-target-clause-refused c =
    stops_before _ _ (λ all. target_left _ all c.in_ok-begin_object.ensures.read
    _ c.in_ok-kind.ensures.spelled _ c.in_ok-input.ensures.spelled)
    c.from_residual-in_err-target.ensures.1 c.in_err-target.ensures.refused

pub returns-in_err-end_object-clause-refused : goal.returns-in_err-end_object-clause-refused
returns-in_err-end_object-clause-refused c =
    stops_before _ _ (λ all. edge_end _ all c.in_ok-begin_object.ensures.read
    _ c.in_ok-kind.ensures.spelled _ c.in_ok-input.ensures.spelled _ c.in_ok-target.ensures.read)
    c.from_residual-in_err-end_object.ensures.1 c.in_err-end_object.ensures.refused
