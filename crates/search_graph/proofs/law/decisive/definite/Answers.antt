use Rattle.search_graph.proofs.called.Decided.{run_is_definite}
use Rattle.search_graph.proofs.law.decisive.definite.Goals as goal

pub returns : goal.returns
returns g c = λ call ran. run_is_definite ran
