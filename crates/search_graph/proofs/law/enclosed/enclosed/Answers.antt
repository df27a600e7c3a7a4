use Rattle.search_graph.proofs.called.Limits.{run_refuses_none}
use Rattle.search_graph.proofs.law.enclosed.enclosed.Goals as goal

pub returns : goal.returns
returns g c = λ call ran. run_refuses_none ran
