-- The numbers of the closed places, once all are closed.
use Rattle.std.proofs.Common.{◌≡◌, ◌≢◌, ℕ, ◌<◌, ◌≤◌, List, [], Contains, length, map, slice_index, slice_index_or}
use Rattle.std.proofs.Common.{arith, ap, inl, inr, sym, ◌∙◌, subst, refl}
use Rattle.std.proofs.lemmas.Bool.{cases_lt}
use Rattle.std.proofs.lemmas.List.{get_or-map, get_or_past, length-map}
use Rattle.strong_components.specs.Words.{State, New, Open, Closed, AreComponents, StaysInside, IsOngoing, MayStep}
use Rattle.strong_components.specs.Words.{number_of, state_at}
use Rattle.strong_components.proofs.Idle.{none_opened}
use Rattle.strong_components.proofs.Indexes.{at_index}
use Rattle.strong_components.proofs.Walks.{step_from_inside, step_to_inside}

-- a state that is neither new nor open is closed
must_be_closed : (x : State) → x ≢ New → ((i : ℕ) → x ≡ Open i → ⊥) → x ≡ Closed (number_of x)
must_be_closed New not_new not_open = absurd (not_new refl)
must_be_closed (Open i) not_new not_open = absurd (not_open i refl)
must_be_closed (Closed n) not_new not_open = refl

-- a step between closed places doesn't lead to a higher number
falls_closed : (starts : List ℕ) (x y : State) (m n : ℕ) → x ≡ Closed m → y ≡ Closed n → MayStep starts x y → n ≤ m
falls_closed starts x y m n is_x is_y h =
    subst (λ z. MayStep starts (Closed m) z) is_y (subst (λ z. MayStep starts z y) is_x h)

module _ (graph : List (List ℕ)) (states : List State) (left opened starts path : List ℕ) (closed : ℕ)
    (h : IsOngoing graph states left opened starts path closed)
    (idle : length path ≡ 0)
    (seen : (a : ℕ) → a < length graph → state_at states a ≢ New)
    (inside : StaysInside graph) where
  is_closed : (a : ℕ) → a < length graph → state_at states a ≡ Closed (number_of (state_at states a))
  is_closed a lt =
      must_be_closed (state_at states a) (seen a lt)
      (λ i is. let low = (h.are_opened.found a i is).0 in
      let none = none_opened graph states left opened starts path closed h idle in absurd (omega arith))

  number_at : (a : ℕ) → a < length graph → slice_index (map number_of states) a ≡ number_of (state_at states a)
  number_at a lt = get_or-map number_of states a New 0 (let f = h.fit in omega arith)

  -- the place of a closed state is one of the graph
  closed_inside : (a number : ℕ) → state_at states a ≡ Closed number → a < length states
  closed_inside a number is = elim (cases_lt a (length states)) [
    | inl lt ↦ lt
    | inr past ↦ let none = get_or_past states a New past in absurd cc
  ]

  lower_given : (number : ℕ) → Contains (map number_of states) number → (lower : ℕ) → lower < number
      → Contains (map number_of states) lower
  lower_given number (i, inside_map, at) lower low =
      let long = length-map states number_of in
      let same : number_of (state_at states i) ≡ number =
      sym (get_or-map number_of states i New number (omega arith)) ∙ at in
      let below = h.numbered i number (is_closed i (let f = h.fit in omega arith) ∙ ap Closed same) in
      let (a, is) = h.used lower (omega arith) in
      let within = closed_inside a lower is in
      (a, omega arith, get_or-map number_of states a New lower within ∙ ap number_of is)

  pub numbers_are_components : AreComponents graph (map number_of states)
  numbers_are_components = record {
    each = length-map states number_of ∙ h.fit;
    falls = λ a b step.
        let from = step_from_inside graph a b step in let to = step_to_inside graph a b inside step in
        let (k, lt, same) = at_index (slice_index_or graph a []) b step in
        let none = h.are_left.at_closed a _ (is_closed a from) in
        let may = h.looked_at a k lt (omega arith) in
        let falls = falls_closed starts _ _ _ _ (is_closed a from) (is_closed b to)
        (subst (λ c. MayStep starts (state_at states a) (state_at states c)) same may) in
        let at_a = number_at a from in let at_b = number_at b to in omega arith;
    together = λ a b in_a in_b same.
        let at_a = number_at a in_a in let at_b = number_at b in_b in
        let same_number : number_of (state_at states b) ≡ number_of (state_at states a) = omega arith in
        h.closed_reach a b (number_of (state_at states a)) (is_closed a in_a)
        (is_closed b in_b ∙ ap Closed same_number);
    from_zero = lower_given;
  }
