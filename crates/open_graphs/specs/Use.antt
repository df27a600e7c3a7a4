-- What an answer that still depends on the stack promises.
use Rattle.std.specs.Prelude.{◌≡◌, ◌≢◌, ℕ, max, ◌≤◌, ◌<◌, List, Some, slice_get, length, ◌⊎◌, Bool, IsTrue}
use Rattle.open_graphs.specs.Graph.{Verdict, cycle_kind, Node, IsFinished, HasShapeEdge, Walk, Path}
use Rattle.open_graphs.specs.Stack.{Entry, path_through, IsLeaf, Accepts}

-- an edge whose source is no leaf
pub record Step (nodes : List Node) (verdict : Verdict) (stack : List Entry) (source kind target : ℕ) : Type 0 where
  pub edge : HasShapeEdge nodes verdict source kind target
  pub inner : ¬ IsLeaf stack source

-- what is reached from a node is a leaf or a finished node of the verdict, and every closed walk has the kind of the
-- verdict's cycles
pub record OpenGraph (nodes : List Node) (verdict : Verdict) (stack : List Entry) (a : ℕ) : Type 0 where
  pub placed : (b q : ℕ) → Walk (Step nodes verdict stack) a q b → IsLeaf stack b ⊎ IsFinished nodes verdict b
  pub closed :
      (b q k c r : ℕ)
      → Walk (Step nodes verdict stack) a q b → Step nodes verdict stack b k c → Walk (Step nodes verdict stack) c r b
      → max k r ≡ cycle_kind verdict

-- the heads of an answer by depth: the kinds of the paths to the head, and how often it was used by a cycle of a kind
pub record Head : Type 0 where
  pub paths : ℕ → Bool
  pub usages : ℕ → ℕ

-- the head of each depth
abbrev pub Heads : Type 0
Heads = ℕ → Head

-- a head is recorded with a path kind and with usages of a cycle kind
abbrev pub Recorded : Heads → ℕ → ℕ → ℕ → Type 0
Recorded heads depth path cycle = IsTrue ((heads depth).paths path) × ((heads depth).usages cycle ≢ 0)

-- the second heads record all that the first do
abbrev pub Includes : Heads → Heads → Type 0
Includes smaller larger =
    (depth path cycle : ℕ)
    → Recorded smaller depth path cycle → Recorded larger depth path cycle

-- the same at depths below a limit
abbrev pub IncludesBelow : ℕ → Heads → Heads → Type 0
IncludesBelow limit smaller larger =
    (depth path cycle : ℕ)
    → depth < limit → Recorded smaller depth path cycle → Recorded larger depth path cycle

-- the heads record no usage of the entry at a depth
abbrev pub UsesNo : Heads → ℕ → Type 0
UsesNo heads depth = (path cycle : ℕ) → Recorded heads depth path cycle → ⊥

-- The answer with node `a` holds where `from_head` is the path kind from each entry: each path from `a` to an entry's
-- node is among the paths of that head, the kind of its cycle among the head's usages, and cycles of that kind were
-- answered with the verdict. The paths of the heads begin with `front`: 0 for a finished goal, the step for an edge.
pub record Use (nodes : List Node) (verdict : Verdict) (stack : List Entry) (from_head : ℕ → ℕ)
    (front a : ℕ) (heads : Heads) : Type 0 where
  pub open_graph : OpenGraph nodes verdict stack a
  pub covered :
      (depth : ℕ) (entry : Entry) (q : ℕ) (on : List ℕ)
      → slice_get stack depth ≡ Some entry → Path (Step nodes verdict stack) a q entry.node on
      → Recorded heads depth (max front q) (max (max front q) (from_head depth))
      × Accepts verdict entry (max (max front q) (from_head depth))

-- no walk leads to the node
abbrev pub Unreached : List Node → Verdict → List Entry → ℕ → ℕ → Type 0
Unreached nodes verdict stack a b = (q : ℕ) → Walk (Step nodes verdict stack) a q b → ⊥

-- no head above this depth is recorded
abbrev pub HeadsWithin : Heads → ℕ → Type 0
HeadsWithin heads highest = (depth path cycle : ℕ) → Recorded heads depth path cycle → depth ≤ highest

-- a provisional entry, for when its goal is asked later: it holds wherever the path kind from its
-- highest head is the entry's
pub record ProvisionalUse (nodes : List Node) (verdict : Verdict) (stack : List Entry)
    (highest path a : ℕ) (heads : Heads) : Type 0 where
  pub on_stack : highest < length stack
  pub within : HeadsWithin heads highest
  pub use_there : Use nodes verdict stack (path_through stack highest path) 0 a heads
