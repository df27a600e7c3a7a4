use Rattle.search_graph.proofs.called.Deciding.{run_fails_for_good}
use Rattle.search_graph.proofs.law.deciding.faults.Goals as goal

pub returns : goal.returns
returns g c = λ call ran. run_fails_for_good ran
