-- Memory can still be held for nodes of goals that were forgotten. In clauses these are gone at once.
use Rattle.std.specs.Prelude.{◌≡◌, ◌≤◌, ◌⊎◌, ℕ, Bool, true, false, if◌then◌else◌, List, Option, None, Some, not}
use Rattle.std.specs.Prelude.{filter, nat_lt, slice_get}
use Rattle.std.specs.Map.{lookup}
use Rattle.graph_nodes.specs.declared.node_list.Held.{Held}
use Rattle.graph_nodes.specs.View.{node_of}

-- the number is less than the one that was next when the goal was forgotten last, if it ever was
abbrev pub is_before : ℕ → Option ℕ → Bool
is_before number None = false
is_before number (Some next) = nat_lt number next

-- the node was there when its goal was forgotten
abbrev pub is_forgotten : {I R : Type 0} → (I → I → Bool) → List (I × ℕ) → Held I R → Bool
is_forgotten same forgotten h = is_before h.number (lookup (same (node_of h.slot).goal) forgotten)

-- the nodes that were not forgotten
abbrev pub shown : {I R : Type 0} → (I → I → Bool) → List (I × ℕ) → List (Held I R) → List (Held I R)
shown same forgotten held = filter (λ h. not (is_forgotten same forgotten h)) held

-- no goal was forgotten when a greater number was next
abbrev pub AreEarlier : {I : Type 0} → (I → I → Bool) → List (I × ℕ) → ℕ → Type 0
AreEarlier {I} same forgotten newest = (goal : I) (next : ℕ) → lookup (same goal) forgotten ≡ Some next → next ≤ newest

-- these goals are forgotten as well, when this number is next
abbrev pub Forgets : {I : Type 0} → (I → I → Bool) → (I → Bool) → ℕ → List (I × ℕ) → List (I × ℕ) → Type 0
Forgets {I} same is_gone next old new =
    (goal : I) → lookup (same goal) new ≡ (if is_gone goal then Some next else lookup (same goal) old)

-- some of these goals are
abbrev pub ForgetsSome : {I : Type 0} → (I → I → Bool) → (I → Bool) → ℕ → List (I × ℕ) → List (I × ℕ) → Type 0
ForgetsSome {I} same is_gone next old new =
    (some : I → Bool) × Forgets same some next old new × ((goal : I) → some goal ≡ true → is_gone goal ≡ true)

-- The same nodes are shown, no other ones are held, and from this number on each that is held is shown.
pub record IsShownFrom {I R : Type 0} (same : I → I → Bool) (first : ℕ) (old_goals new_goals : List (I × ℕ))
    (old new : List (Held I R)) : Type 0 where
  pub same_shown : shown same new_goals new ≡ shown same old_goals old
  pub fewer : (new ≡ old) ⊎ (new ≡ shown same old_goals old)
  pub later : (i : ℕ) (h : Held I R) → slice_get new i ≡ Some h → first ≤ h.number
      → is_forgotten same new_goals h ≡ false
