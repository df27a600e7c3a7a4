use Rattle.search_graph.proofs.called.Lists.{all_have_limits}
use Rattle.search_graph.proofs.law.lists.limits_of_all.Goals as goal

pub returns : goal.returns
returns g c = λ list ran. all_have_limits ran
