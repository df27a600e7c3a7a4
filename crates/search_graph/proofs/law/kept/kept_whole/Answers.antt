use Rattle.graph_nodes.proofs.Whole.{whole_stays}
use Rattle.search_graph.proofs.called.Calling.{run_keeps}
use Rattle.search_graph.proofs.law.kept.kept_whole.Goals as goal

pub returns : goal.returns
returns g c = λ call ran. whole_stays call.before.cache.nodes call.after.cache.nodes (run_keeps ran).finished
