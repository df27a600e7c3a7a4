use Rattle.graph_nodes.proofs.Whole.{whole_stays}
use Rattle.search_graph.proofs.called.Lists.{all_keep}
use Rattle.search_graph.proofs.law.lists.kept_whole_of_all.Goals as goal

pub returns : goal.returns
returns g c = λ list ran. whole_stays list.before.nodes list.after.nodes (all_keep ran).finished
