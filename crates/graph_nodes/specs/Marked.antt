-- Which of the nodes that are held are reached from some numbers by the edges of these nodes.
use Rattle.std.specs.Prelude.{◌≡◌, ◌+◌, ◌≤◌, ◌⊎◌, ℕ, suc, if◌then◌else◌, Bool, true, false, List, [], ◌∷◌, map}
use Rattle.std.specs.Prelude.{slice_get, Some, length, Contains}
use Rattle.search_context.specs.declared.context.Edge.{Edge}
use Rattle.graph_nodes.specs.declared.node_list.Held.{Held}
use Rattle.graph_nodes.specs.declared.node_list.Slot.{Slot}
use Rattle.graph_nodes.specs.declared.node_list.Slot.TheVariants.{Open, Finished}
use Rattle.graph_nodes.specs.Held.{HasNumber}

-- the edges of a node that is held
abbrev pub edges_of : {I R : Type 0} → Slot I R → List (Edge I)
edges_of (Open goal) = []
edges_of (Finished n) = n.edges.items

-- the numbers to which they lead
abbrev pub targets_of : {I R : Type 0} → Slot I R → List ℕ
targets_of slot = map (λ e. e.target) (edges_of slot)

-- a number is one of the roots, or an edge leads to it from a node whose number is found
pub data IsFound {I R : Type 0} (held : List (Held I R)) (roots : List ℕ) : ℕ → Type 0 where
  root : (n : ℕ) → Contains roots n → IsFound held roots n
  next : (n place : ℕ) (h : Held I R) → IsFound held roots h.number → slice_get held place ≡ Some h
      → Contains (targets_of h.slot) n → IsFound held roots n

-- the node at this place is marked
abbrev pub IsMarked : List Bool → ℕ → Type 0
IsMarked marked place = slice_get marked place ≡ Some true

-- what the marked nodes lead to is marked
abbrev pub IsClosed : {I R : Type 0} → List (Held I R) → List Bool → Type 0
IsClosed {I} {R} held marked =
    (place : ℕ) (h : Held I R) (other n : ℕ) → IsMarked marked place → slice_get held place ≡ Some h
    → Contains (targets_of h.slot) n → HasNumber held other n → IsMarked marked other

-- Marked are the nodes whose numbers are found, of each node its place.
pub record AreMarked {I R : Type 0} (held : List (Held I R)) (roots : List ℕ) (marked : List Bool) : Type 0 where
  pub each : length marked ≡ length held
  pub rooted : (place n : ℕ) → Contains roots n → HasNumber held place n → IsMarked marked place
  pub closed : IsClosed held marked
  pub found : (place : ℕ) (h : Held I R) → IsMarked marked place
      → slice_get held place ≡ Some h → IsFound held roots h.number

-- how many places are not marked
abbrev pub unmarked : List Bool → ℕ
unmarked [] = 0
unmarked (true ∷ marked) = unmarked marked
unmarked (false ∷ marked) = suc (unmarked marked)

-- what waits to be followed is marked
pub record AreWaiting (marked : List Bool) (waiting : List ℕ) : Type 0 where
  pub marked_there : (place : ℕ) → Contains waiting place → IsMarked marked place

-- Of these numbers each that is held is marked, and no other one than before. What is marked now waits, and nothing
-- else beside what waited, of which nothing is lost; and as more wait, less is not marked.
pub record Marks {I R : Type 0} (held : List (Held I R)) (numbers : List ℕ)
    (old new : List Bool) (was is : List ℕ) : Type 0 where
  pub each : length new ≡ length old
  pub stays : (place : ℕ) → IsMarked old place → IsMarked new place
  pub here : (place n : ℕ) → Contains numbers n → HasNumber held place n → IsMarked new place
  pub only : (place : ℕ) → IsMarked new place
      → IsMarked old place ⊎ ((n : ℕ) × Contains numbers n × HasNumber held place n)
  pub waits : (place : ℕ) → IsMarked new place → IsMarked old place ⊎ Contains is place
  pub still : (place : ℕ) → Contains was place → Contains is place
  pub only_waits : (place : ℕ) → Contains is place
      → Contains was place ⊎ ((n : ℕ) × Contains numbers n × HasNumber held place n)
  pub fewer : unmarked new + length is ≤ unmarked old + length was

-- the node with this number is marked, if it is held, and beside what was marked before nothing but
-- what is found from it
pub record MarksFrom {I R : Type 0} (held : List (Held I R)) (number : ℕ) (old new : List Bool) : Type 0 where
  pub each : length new ≡ length old
  pub stays : (place : ℕ) → IsMarked old place → IsMarked new place
  pub here : (place : ℕ) → HasNumber held place number → IsMarked new place
  pub found : (place : ℕ) (h : Held I R) → IsMarked new place → slice_get held place ≡ Some h
      → IsMarked old place ⊎ IsFound held (number ∷ []) h.number

-- what is marked, in its order
abbrev pub kept : {A : Type 0} → List Bool → List A → List A
kept [] xs = []
kept (m ∷ marked) [] = []
kept (m ∷ marked) (x ∷ xs) = if m then x ∷ kept marked xs else kept marked xs

-- nothing is marked of so many places
pub record AreNone (count : ℕ) (marked : List Bool) (waiting : List ℕ) : Type 0 where
  pub each : length marked ≡ count
  pub none_waits : length waiting ≡ 0
  pub none : (place : ℕ) → IsMarked marked place → ⊥
