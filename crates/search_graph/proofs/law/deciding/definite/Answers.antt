use Rattle.search_graph.proofs.called.Deciding.{run_is_decided}
use Rattle.search_graph.proofs.law.deciding.definite.Goals as goal

pub returns : goal.returns
returns g c = λ call ran. run_is_decided ran
