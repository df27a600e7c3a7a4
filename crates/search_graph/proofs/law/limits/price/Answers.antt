use Rattle.search_graph.proofs.called.Limits.{run_pays}
use Rattle.search_graph.proofs.law.limits.price.Goals as goal

pub returns : goal.returns
returns g c = λ call ran. run_pays ran
