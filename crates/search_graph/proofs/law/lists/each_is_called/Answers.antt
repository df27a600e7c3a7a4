use Rattle.search_graph.proofs.called.Lists.{all_called}
use Rattle.search_graph.proofs.law.lists.each_is_called.Goals as goal

pub returns : goal.returns
returns g c = λ list ran. all_called ran
