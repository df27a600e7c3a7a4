-- The nodes that are held, by rising numbers, and the list of all nodes that they stand for.
use Rattle.std.specs.Prelude.{◌≡◌, ◌≢◌, ◌==◌, ◌<◌, ◌≤◌, ◌++◌, ℕ, zero, suc, if◌then◌else◌, Bool, true, IsSome, List, []}
use Rattle.std.specs.Prelude.{◌∷◌, Option, None, Some, slice_get, length, not}
use Rattle.std.specs.Option.{option_map}
use Rattle.graph_nodes.specs.declared.node_list.Held.{Held}
use Rattle.graph_nodes.specs.declared.node_list.Slot.{Slot}
use Rattle.graph_nodes.specs.Nodes.{CacheNode, gone_node}
use Rattle.graph_nodes.specs.View.{node_of}

-- the slot that is held under a number
abbrev pub slot_at : {I R : Type 0} → List (Held I R) → ℕ → Option (Slot I R)
slot_at [] number = None
slot_at (h ∷ held) number = if h.number == number then Some h.slot else slot_at held number

-- the node of a slot; without one, a node that is gone
abbrev pub node_if_held : {I R : Type 0} → I → Option (Slot I R) → CacheNode I R
node_if_held goal None = gone_node goal
node_if_held goal (Some slot) = node_of slot

-- the nodes of all numbers below this one; those that are not held are gone
abbrev pub nodes_below : {I R : Type 0} → I → List (Held I R) → ℕ → List (CacheNode I R)
nodes_below goal held zero = []
nodes_below goal held (suc n) = nodes_below goal held n ++ node_if_held goal (slot_at held n) ∷ []

-- the same, where some node was opened at all
abbrev pub nodes_of : {I R : Type 0} → Option I → List (Held I R) → ℕ → List (CacheNode I R)
nodes_of None held next = []
nodes_of (Some goal) held next = nodes_below goal held next

-- the numbers rise
pub record IsRising {I R : Type 0} (held : List (Held I R)) : Type 0 where
  pub rises : (i j : ℕ) (h k : Held I R) → i < j → slice_get held i ≡ Some h
      → slice_get held j ≡ Some k → h.number < k.number

-- the numbers rise to less than the next one, and where one was given out there is a goal
pub record AreHeld {I R : Type 0} (first_goal : Option I) (held : List (Held I R)) (next : ℕ) : Type 0 where
  pub rising : IsRising held
  pub below : (i : ℕ) (h : Held I R) → slice_get held i ≡ Some h → h.number < next
  pub opened : 0 < next → IsSome first_goal

-- the node at a place has this number
abbrev pub HasNumber : {I R : Type 0} → List (Held I R) → ℕ → ℕ → Type 0
HasNumber held place number = option_map (λ h. h.number) (slice_get held place) ≡ Some number

-- the nodes before a place are those with numbers before this one
pub record IsSplit {I R : Type 0} (held : List (Held I R)) (first place : ℕ) : Type 0 where
  pub within : place ≤ length held
  pub before : (i : ℕ) (h : Held I R) → slice_get held i ≡ Some h → i < place → h.number < first
  pub behind : (i : ℕ) (h : Held I R) → slice_get held i ≡ Some h → place ≤ i → first ≤ h.number

-- no node with this number stands before the place `low`, nor from the place `high` on
pub record IsWindow {I R : Type 0} (held : List (Held I R)) (low high number : ℕ) : Type 0 where
  pub ordered : low ≤ high
  pub within : high ≤ length held
  pub before : (i : ℕ) (h : Held I R) → slice_get held i ≡ Some h → i < low → h.number ≢ number
  pub behind : (i : ℕ) (h : Held I R) → slice_get held i ≡ Some h → high ≤ i → h.number ≢ number

-- a node that is not gone
abbrev pub is_held : {I R : Type 0} → CacheNode I R → Bool
is_held n = not n.gone

-- no node is there, or one that is gone
abbrev pub IsGone : {I R : Type 0} → Option (CacheNode I R) → Type 0
IsGone None = Unit {0}
IsGone (Some n) = (n.run ≡ None) × (n.gone ≡ true)
