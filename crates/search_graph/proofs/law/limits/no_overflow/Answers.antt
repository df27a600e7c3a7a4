use Rattle.search_graph.proofs.called.Limits.{run_stores_none}
use Rattle.search_graph.proofs.law.limits.no_overflow.Goals as goal

pub returns : goal.returns
returns g c = λ call ran. run_stores_none ran
