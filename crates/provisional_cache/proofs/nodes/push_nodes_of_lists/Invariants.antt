use Rattle.std.proofs.Common.{◌≡◌, ◌++◌, Contains}
use Rattle.search_context.specs.declared.context.NodeId.{NodeId}
use Rattle.provisional_cache.specs.Words.{lists_of, nodes_in}
use Rattle.provisional_cache.proofs.nodes.push_nodes_of_lists.Given as goal

-- what was there is kept, and with the nodes of the lists that are left those of all lists are there
abbrev pub invariant-loop-entries : goal.invariant-loop-entries
invariant-loop-entries g l = record {
  kept : (n : NodeId) → Contains l.initial.nodes.items n → Contains l.nodes.items n;
  pushed : l.nodes.items ++ nodes_in (lists_of l.entries-iterator)
      ≡ l.initial.nodes.items ++ nodes_in (lists_of l.initial.entries-iterator);
}
