use Rattle.search_graph.proofs.called.Limits.{run_meets_none}
use Rattle.search_graph.proofs.law.limits.plain_limits.Goals as goal

pub returns : goal.returns
returns g c = λ call ran. run_meets_none ran
