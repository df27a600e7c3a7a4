use Rattle.search_graph.proofs.called.Stored.{run_enclosed_is_remembered}
use Rattle.search_graph.proofs.law.enclosed.enclosed_remembered.Goals as goal

pub returns : goal.returns
returns g c = λ call ran. run_enclosed_is_remembered ran
