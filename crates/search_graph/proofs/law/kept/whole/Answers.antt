use Rattle.search_graph.proofs.called.Calling.{run_is_whole}
use Rattle.search_graph.proofs.law.kept.whole.Goals as goal

pub returns : goal.returns
returns g c = λ call ran. run_is_whole ran
