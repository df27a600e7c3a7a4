-- The stack of goals under evaluation, oldest first, and path kinds from its entries.
use Rattle.std.specs.Prelude.{◌≡◌, ℕ, suc, max, List, [], ◌∷◌, Option, Some, None, slice_get, drop, take, ◌⊎◌}
use Rattle.open_graphs.specs.Graph.{Verdict, cycle_kind, Node, Unfinished}

-- an entry: the step kind that asked it, the verdict of its last run (none in its first run), and
-- the node to which the edges for its cycles' answers lead
pub record Entry : Type 0 where
  pub step : ℕ
  pub provisional : Option Verdict
  pub node : ℕ

-- the greatest of a kind and the step kinds of some entries
abbrev pub greatest : ℕ → List Entry → ℕ
greatest kind [] = kind
greatest kind (e ∷ es) = max e.step (greatest kind es)

-- the path kind from the entry at a depth through one more step: the greatest of the step and the step kinds above the
-- entry
abbrev pub path_kind : List Entry → ℕ → ℕ → ℕ
path_kind stack kind depth = greatest kind (drop (suc depth) stack)

-- the path kind from the entry at a depth through a later entry, from which on it is `kind`
abbrev pub path_through : List Entry → ℕ → ℕ → ℕ → ℕ
path_through stack later kind depth = greatest kind (drop (suc depth) (take (suc later) stack))

-- a node at which walks stop, as an entry's edges are not known yet or stand for a result that may change
abbrev pub IsLeaf : List Entry → ℕ → Type 0
IsLeaf stack a = (depth : ℕ) × (entry : Entry) × (slice_get stack depth ≡ Some entry) × (entry.node ≡ a)

-- a cycle of a kind on an entry was answered with the verdict: by the provisional result, or in the
-- first run by the initial result of the kind
abbrev pub Accepts : Verdict → Entry → ℕ → Type 0
Accepts verdict entry kind =
    (entry.provisional ≡ Some verdict) ⊎ ((entry.provisional ≡ None) × (kind ≡ cycle_kind verdict))

-- no two entries have the same node
abbrev pub DistinctNodes : List Entry → Type 0
DistinctNodes stack =
    (i j : ℕ) (x y : Entry)
    → slice_get stack i ≡ Some x → slice_get stack j ≡ Some y → x.node ≡ y.node → i ≡ j

-- the entry is run again with its old node, or with one that is neither finished nor an entry's
abbrev pub IsSameOrFresh : List Node → List Entry → Entry → Entry → Type 0
IsSameOrFresh nodes below top again =
    (again.node ≡ top.node) ⊎ ((slice_get nodes again.node ≡ Some Unfinished) × ¬ IsLeaf below again.node)
