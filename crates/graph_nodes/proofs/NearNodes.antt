-- Nodes stand no farther from one another than their numbers are: so one is found near another.
use Rattle.std.proofs.Common.{◌≡◌, ℕ, zero, suc, ◌+◌, ◌-◌, ◌<◌, ◌≤◌, List, [], ◌∷◌, Some, None, drop, get_or, length}
use Rattle.std.proofs.Common.{take, refl, sym, ap, subst, ◌∙◌, inl, inr, arith}
use Rattle.std.specs.List.{slice_get}
use Rattle.std.proofs.lemmas.Bool.{cases_lt}
use Rattle.std.proofs.lemmas.Option.{slice_get-get_or, slice_get_within}
use Rattle.list_lemmas.proofs.Lists.{mapped_some}
use Rattle.graph_nodes.specs.Words.{Held, HasNumber, IsRising, IsWindow, slot_at}
use Rattle.graph_nodes.proofs.HeldNodes.{not_held, slot_of}
use Rattle.graph_nodes.proofs.SearchedNodes.{has_number}

module _ {A : Type 0} where
  get_dropped : (n : ℕ) (xs : List A) (k : ℕ) → slice_get xs (n + k) ≡ slice_get (drop n xs) k
  get_dropped zero xs k = ap (slice_get xs) {y = k} (omega arith)
  get_dropped (suc n) [] k = refl
  get_dropped (suc n) (x ∷ xs) k = ap (slice_get (x ∷ xs)) {y = suc (n + k)} (omega arith) ∙ get_dropped n xs k

  get_taken : (n : ℕ) (xs : List A) (k : ℕ) → k < n → slice_get xs k ≡ slice_get (take n xs) k
  get_taken zero xs k lt = absurd (omega arith)
  get_taken (suc n) [] k lt = refl
  get_taken (suc n) (x ∷ xs) zero lt = refl
  get_taken (suc n) (x ∷ xs) (suc k) lt = get_taken n xs k (omega arith)

  taken_there : (n : ℕ) (xs : List A) (k : ℕ) (x : A) → slice_get (take n xs) k ≡ Some x → slice_get xs k ≡ Some x
  taken_there zero xs k x is = absurd cc
  taken_there (suc n) [] k x is = absurd cc
  taken_there (suc n) (y ∷ xs) zero x is = is
  taken_there (suc n) (y ∷ xs) (suc k) x is = taken_there n xs k x is

module _ {I R : Type 0} (held : List (Held I R)) (rising : IsRising held) where
  apart : (i d : ℕ) (h k : Held I R) → slice_get held i ≡ Some h
      → slice_get held (i + d) ≡ Some k → h.number + d ≤ k.number
  apart i zero h k is at =
      let place : i ≡ i + zero = omega arith in
      let both : Some h ≡ Some k = sym is ∙ (ap (slice_get held) place ∙ at) in
      let one : h ≡ k = cc in
      omega (arith, ap (λ x. x.number) one)
  apart i (suc d) h k is at =
      let within : i + suc d < length held = slice_get_within held (i + suc d) k at in
      let there : slice_get held (i + d) ≡ Some (get_or held (i + d) k) =
      slice_get-get_or held (i + d) k (omega arith) in
      let less : (get_or held (i + d) k).number < k.number =
      rising.rises (i + d) (i + suc d) (get_or held (i + d) k) k (omega arith) there at in
      let far : h.number + d ≤ (get_or held (i + d) k).number = apart i d h (get_or held (i + d) k) is there in
      omega arith

  -- a node is no farther from an earlier one than its number is from that one's
  pub no_farther : (i j : ℕ) (h k : Held I R) → slice_get held i ≡ Some h → slice_get held j ≡ Some k
      → i ≤ j → h.number + j ≤ k.number + i
  no_farther i j h k is at le =
      let place : j ≡ i + (j - i) = omega arith in
      let far : h.number + (j - i) ≤ k.number =
      apart i (j - i) h k is (subst (λ p. slice_get held p ≡ Some k) place at) in
      omega arith

  -- ---- windows

  pub window_of_all : (number : ℕ) → IsWindow held 0 (length held) number
  window_of_all number = record {
    ordered = omega arith;
    within = omega arith;
    before = λ i h is lt. absurd (omega arith);
    behind = λ i h is le. absurd (omega (arith, slice_get_within held i h is));
  }

  module _ (near number : ℕ) (entry : Held I R) (there : slice_get held near ≡ Some entry) where
    pub window_before : number < entry.number → (low : ℕ)
        → low ≡ near - (entry.number - number) → IsWindow held low near number
    window_before less low is_low = record {
      ordered = omega arith;
      within = omega (arith, slice_get_within held near entry there);
      before = λ i h is lt e. absurd (omega (arith, no_farther i near h entry is there (omega arith)));
      behind = λ i h is le e. absurd (omega (arith, no_farther near i entry h there is le));
    }

    pub window_from : entry.number ≤ number → (high : ℕ) → near ≤ high → high ≤ length held
        → (high < length held → near + number < high + entry.number) → IsWindow held near high number
    window_from at_most high ordered within enough = record {
      ordered = ordered;
      within = within;
      before = λ i h is lt e. absurd (omega (arith, no_farther i near h entry is there (omega arith)));
      behind = λ i h is le e.
          let inside : i < length held = slice_get_within held i h is in
          let enough_here : near + number < high + entry.number = enough (omega arith) in
          absurd (omega (arith, no_farther near i entry h there is (omega arith)));
    }

  -- ---- what is searched in a window

  module _ (low high number : ℕ) (window : IsWindow held low high number) where
    part_there : (k : ℕ) (h : Held I R) → slice_get (take (high - low) (drop low held)) k ≡ Some h
        → slice_get held (low + k) ≡ Some h
    part_there k h is = get_dropped low held k ∙ taken_there (high - low) (drop low held) k h is

    in_part : (i : ℕ) (h : Held I R) → slice_get held i ≡ Some h → low ≤ i → i < high
        → slice_get (take (high - low) (drop low held)) (i - low) ≡ Some h
    in_part i h is from to =
        let place : low + (i - low) ≡ i = omega arith in
        sym (get_taken (high - low) (drop low held) (i - low) (omega arith))
        ∙ (sym (get_dropped low held (i - low)) ∙ (ap (slice_get held) place ∙ is))

    pub part_rises : IsRising (take (high - low) (drop low held))
    part_rises = record {
      rises = λ i j h k lt is at.
          rising.rises (low + i) (low + j) h k (omega arith) (part_there i h is) (part_there j k at);
    }

    pub found_in_part : (k : ℕ) → HasNumber (take (high - low) (drop low held)) k number
        → HasNumber held (low + k) number
    found_in_part k has =
        let w = mapped_some (λ h. h.number) (slice_get (take (high - low) (drop low held)) k) number has in
        has_number held rising number (low + k) w.0 (part_there k w.0 w.1) w.2

    pub missing_in_part : slot_at (take (high - low) (drop low held)) number ≡ None → slot_at held number ≡ None
    missing_in_part none = not_held held number (λ i h is e. elim (cases_lt i low) [
      | inl lt ↦ window.before i h is lt e
      | inr from ↦ elim (cases_lt i high) [
        | inl to ↦
            let here : slot_at (take (high - low) (drop low held)) h.number ≡ Some h.slot =
            slot_of (take (high - low) (drop low held)) part_rises (i - low) h (in_part i h is from to) in
            let gone : slot_at (take (high - low) (drop low held)) h.number ≡ None =
            ap (slot_at (take (high - low) (drop low held))) e ∙ none in
            absurd cc
        | inr past ↦ window.behind i h is past e
      ]
    ])
