use Rattle.search_graph.proofs.called.Stored.{run_tells}
use Rattle.search_graph.proofs.law.stored.told.Goals as goal

pub returns : goal.returns
returns g c = λ call ran. run_tells ran
