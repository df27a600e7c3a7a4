use Rattle.search_graph.proofs.called.Stored.{run_requires_within}
use Rattle.search_graph.proofs.law.stored.within.Goals as goal

pub returns : goal.returns
returns g c = λ call ran. run_requires_within ran
