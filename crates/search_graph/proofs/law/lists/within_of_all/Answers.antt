use Rattle.search_graph.proofs.called.Lists.{all_require_within}
use Rattle.search_graph.proofs.law.lists.within_of_all.Goals as goal

pub returns : goal.returns
returns g c = λ list ran. all_require_within ran
