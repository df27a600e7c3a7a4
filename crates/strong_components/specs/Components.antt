-- Graphs whose places are numbers, walks in them, and their strongly connected components.
-- A graph is the list of the successors of each place.
use Rattle.std.specs.Prelude.{◌≡◌, ℕ, ◌<◌, ◌≤◌, ◌↔◌, List, [], map, length, All, Contains, slice_index, slice_index_or}
use Rattle.std.specs.Global.{Vec}

-- the successors of each place, as lists
abbrev pub successor_lists : List (Vec ℕ) → List (List ℕ)
successor_lists graph = map (λ (successors : Vec ℕ). successors.items) graph

-- `b` is among the successors of `a`
abbrev pub HasStep : List (List ℕ) → ℕ → ℕ → Type 0
HasStep graph a b = Contains (slice_index_or graph a []) b

-- each successor is a place of the graph
abbrev pub StaysInside : List (List ℕ) → Type 0
StaysInside graph = All (All (λ b. b < length graph)) graph

-- a walk of no or more steps
pub data Reaches (graph : List (List ℕ)) : ℕ → ℕ → Type 0 where
  stay : {a : ℕ} → Reaches graph a a
  go : {a b c : ℕ} → HasStep graph a b → Reaches graph b c → Reaches graph a c

-- The number of each place's component: numbers never rise along a step, and places with one number reach each other.
-- So two places have the same number exactly when each reaches the other. Each number below one that
-- is given is given, too.
pub record AreComponents (graph : List (List ℕ)) (numbers : List ℕ) : Type 0 where
  pub each : length numbers ≡ length graph
  pub falls : (a b : ℕ) → HasStep graph a b → slice_index numbers b ≤ slice_index numbers a
  pub together :
      (a b : ℕ)
      → a < length graph → b < length graph → slice_index numbers a ≡ slice_index numbers b → Reaches graph a b
  pub from_zero : (number : ℕ) → Contains numbers number → (lower : ℕ) → lower < number → Contains numbers lower

-- A step lies on a closed walk exactly when it stays in its component.
abbrev pub StepsWithinClose : Type 0
StepsWithinClose =
    (graph : List (List ℕ)) (numbers : List ℕ) (a b : ℕ)
    → StaysInside graph → AreComponents graph numbers → HasStep graph a b
    → (slice_index numbers a ≡ slice_index numbers b) ↔ Reaches graph b a
