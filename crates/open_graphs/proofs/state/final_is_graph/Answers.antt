use Rattle.open_graphs.proofs.States.{final_is_graph}
use Rattle.open_graphs.proofs.state.final_is_graph.Goals as goal

pub returns : goal.returns
returns c = final_is_graph
