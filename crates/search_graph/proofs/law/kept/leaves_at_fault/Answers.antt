use Rattle.search_graph.proofs.called.Left.{run_leaves_told}
use Rattle.search_graph.proofs.law.kept.leaves_at_fault.Goals as goal

pub returns : goal.returns
returns g c = λ call ran. run_leaves_told ran
