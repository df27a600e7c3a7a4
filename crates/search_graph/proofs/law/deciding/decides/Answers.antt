use Rattle.search_graph.proofs.called.Deciding.{run_decides_it}
use Rattle.search_graph.proofs.law.deciding.decides.Goals as goal

pub returns : goal.returns
returns g c = λ call ran. run_decides_it ran
