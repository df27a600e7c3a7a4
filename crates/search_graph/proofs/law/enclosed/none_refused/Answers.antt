use Rattle.search_graph.proofs.called.LimitsMet.{run_never_refuses}
use Rattle.search_graph.proofs.law.enclosed.none_refused.Goals as goal

pub returns : goal.returns
returns g c = λ call ran. run_never_refuses ran
