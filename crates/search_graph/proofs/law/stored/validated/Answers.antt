use Rattle.search_graph.proofs.called.Stored.{run_is_validated}
use Rattle.search_graph.proofs.law.stored.validated.Goals as goal

pub returns : goal.returns
returns g c = λ call ran. run_is_validated ran
