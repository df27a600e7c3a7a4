use Rattle.std.proofs.Common.{◌≡◌, take}
use Rattle.type_order.specs.Subtypes.{forms_of}
use Rattle.type_texts.specs.Words.{successor_lists, union_lists}
use Rattle.type_texts.proofs.guard.union_graph.Given as goal

-- the first types have their rows
abbrev pub invariant-loop-number : goal.invariant-loop-number
invariant-loop-number l = successor_lists l.graph.items ≡ take l.number (union_lists (forms_of l.types))
