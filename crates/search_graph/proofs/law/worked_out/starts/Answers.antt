use Rattle.search_graph.proofs.called.WorkedOut.{run_starts}
use Rattle.search_graph.proofs.law.worked_out.starts.Goals as goal

pub returns : goal.returns
returns g c = λ call ran. run_starts ran
