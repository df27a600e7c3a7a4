use Rattle.graph_words.proofs.Readback.{edges_there}
use Rattle.graph_words.proofs.Stops.{stops_before}
use Rattle.graph_words.proofs.reading.read_node.Goals as goal

pub returns-in_err-edges-clause-refused : goal.returns-in_err-edges-clause-refused
returns-in_err-edges-clause-refused c =
    stops_before _ _ _ _ (edges_there _ _ _ _ _ _ _ c.in_ok-input.ensures.read c.in_ok-result.ensures.read
    c.in_ok-replies.ensures.read) c.from_residual-in_err-edges.ensures.1 c.in_err-edges.ensures.refused
