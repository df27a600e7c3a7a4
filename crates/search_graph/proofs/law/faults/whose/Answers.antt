use Rattle.search_graph.proofs.called.Faults.{run_fails}
use Rattle.search_graph.proofs.law.faults.whose.Goals as goal

pub returns : goal.returns
returns g c = λ call ran. run_fails ran
