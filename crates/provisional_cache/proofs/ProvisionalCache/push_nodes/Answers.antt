use Rattle.provisional_cache.proofs.EntryNodes.{nodes_on_ok}
use Rattle.provisional_cache.proofs.ProvisionalCache.push_nodes.Goals as goal

pub returns-clause-nodes : goal.returns-clause-nodes
returns-clause-nodes g c =
    nodes_on_ok g.D.Cx.Input.PartialEq.eq c.self.inside.lists.entries c.args.self.now c.self.view_is
    c.args.nodes.now.items c.push_nodes_of_lists.new.nodes.items c.push_nodes_of_lists.result
    c.push_nodes_of_lists.ensures.pushed
