use Rattle.search_graph.proofs.called.Deciding.{run_stores_decided}
use Rattle.search_graph.proofs.law.deciding.stores.Goals as goal

pub returns : goal.returns
returns g c = λ call ran. run_stores_decided ran
