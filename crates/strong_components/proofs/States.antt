-- The states of places, and what a step may lead to while they change.
use Rattle.std.proofs.Common.{◌≡◌, ℕ, ◌<◌, List, length, inl, inr, subst, sym, refl}
use Rattle.std.proofs.lemmas.Bool.{cases_lt}
use Rattle.std.proofs.lemmas.List.{get_or_past}
use Rattle.strong_components.specs.Words.{State, New, Open, state_at, IsFromStart, MayStep}

-- a place that isn't new is one of the list
pub state_inside : (states : List State) (a i : ℕ) → state_at states a ≡ Open i → a < length states
state_inside states a i is =
    elim (cases_lt a (length states)) [ inl lt ↦ lt | inr past ↦ let new = get_or_past states a New past in cc ]

pub may-step-at : (starts : List ℕ) (x y u v : State) → x ≡ u → y ≡ v → MayStep starts u v → MayStep starts x y
may-step-at starts x y u v p q h =
    subst (λ (z : State). MayStep starts x z) (sym q) (subst (λ (z : State). MayStep starts z v) (sym p) h)

-- no step leads to a new place once it is looked at
pub may-step-new : (starts : List ℕ) (x : State) → MayStep starts x New → ⊥
may-step-new starts New h = h
may-step-new starts _ h = h

-- positions that come from the start under some starts do so under others
pub may-step-starts : (starts others : List ℕ) (x y : State)
    → ((i j : ℕ) → x ≡ Open i → IsFromStart starts i j → IsFromStart others i j)
    → MayStep starts x y → MayStep others x y
may-step-starts starts others (Open i) (Open j) f h = f i j refl h
may-step-starts starts others _ _ f h = h
