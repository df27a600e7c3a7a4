use Rattle.search_graph.proofs.called.Stored.{run_spares}
use Rattle.search_graph.proofs.law.stored.spared.Goals as goal

pub returns : goal.returns
returns g c = λ call ran. run_spares ran
