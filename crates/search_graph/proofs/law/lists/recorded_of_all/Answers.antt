use Rattle.search_graph.proofs.called.Lists.{all_are_recorded}
use Rattle.search_graph.proofs.law.lists.recorded_of_all.Goals as goal

pub returns : goal.returns
returns g c = λ list ran. all_are_recorded ran
