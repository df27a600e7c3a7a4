-- What a node that is held takes of the heap at least.
use Rattle.std.specs.Prelude.{ℕ}
use Rattle.std.specs.Borrow.{RattleType}
use Rattle.std.specs.Mem.{type_size}
use Rattle.graph_nodes.specs.contracts.node_list.Held.{the_row}

-- the bytes of its place in the list, where inputs and results are of these types
unfoldable pub node_bytes : RattleType → RattleType → ℕ
node_bytes I R = type_size (the_row I R)
