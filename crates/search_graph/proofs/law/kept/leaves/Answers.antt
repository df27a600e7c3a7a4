use Rattle.search_graph.proofs.called.Left.{run_leaves_shown}
use Rattle.search_graph.proofs.law.kept.leaves.Goals as goal

pub returns : goal.returns
returns g c = λ call ran. run_leaves_shown ran
