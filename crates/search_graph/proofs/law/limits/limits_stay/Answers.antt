use Rattle.search_graph.proofs.called.Limits.{run_limits_stay}
use Rattle.search_graph.proofs.law.limits.limits_stay.Goals as goal

pub returns : goal.returns
returns g c = λ call ran. run_limits_stay ran
