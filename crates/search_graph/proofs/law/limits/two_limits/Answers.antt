use Rattle.search_graph.proofs.called.LimitsMet.{run_tells_limits}
use Rattle.search_graph.proofs.law.limits.two_limits.Goals as goal

pub returns : goal.returns
returns g c = λ call ran. run_tells_limits ran
