use Rattle.std.proofs.Common.{◌≡◌, ◌++◌, take}
use Rattle.provisional_cache.specs.Words.{nodes_of}
use Rattle.provisional_cache.proofs.nodes.push_nodes_of_list.Given as goal

-- the nodes of the entries so far were appended
abbrev pub invariant-loop-entry : goal.invariant-loop-entry
invariant-loop-entry g l = l.nodes.items ≡ l.initial.nodes.items ++ nodes_of (take l.entry-index l.entries)
