use Rattle.search_graph.proofs.called.Decided.{run_stores_definite}
use Rattle.search_graph.proofs.law.decisive.decisive_results.Goals as goal

pub returns : goal.returns
returns g c = λ call ran. run_stores_definite ran
