-- The open places are closed from the last one back.
use Rattle.std.proofs.Common.{◌≡◌, ◌≢◌, ℕ, ◌<◌, ◌≤◌, ◌+◌, List, [], ◌∷◌, ◌++◌, length, take, set, cond, slice_index}
use Rattle.std.proofs.Common.{arith, ap, sym, ◌∙◌, inl, inr, subst, refl, get_or-set_same, get_or-set_other, length-set}
use Rattle.std.specs.List.{count_by}
use Rattle.std.proofs.lemmas.Bool.{cases_eq, cases_lt}
use Rattle.std.proofs.lemmas.List.{get_or-take, get_or_push, length_push, take_all, take_at, take-take}
use Rattle.strong_components.specs.Words.{State, New, Open, Closed, Search, AreOpened, ClosesFrom, closed_from}
use Rattle.strong_components.specs.Words.{is_new, state_at}
use Rattle.strong_components.proofs.Closing.{closed_from-below, closed_from-above}
use Rattle.strong_components.proofs.Counts.{news-set}
use Rattle.strong_components.proofs.States.{state_inside}

closed_from-none : (count number : ℕ) (x : State) → ((i : ℕ) → x ≡ Open i → i < count) → x ≡ closed_from count number x
closed_from-none count number (Open i) low = sym (closed_from-below count number i (low i refl))
closed_from-none count number _ low = refl

-- at first nothing is closed
pub closes_none : (s : Search) → AreOpened s.states.items s.opened.items → ClosesFrom s s (length s.opened.items)
closes_none s opened = record {
  states = λ a. closed_from-none (length s.opened.items) s.closed
      (state_at s.states.items a) (λ i is. (opened.found a i is).0);
  fit = refl;
  news = refl;
  left = refl;
  opened = sym (take_all (length s.opened.items) s.opened.items (omega arith));
  starts = refl;
  path = refl;
}

-- one position less
closed_from-less : (position number : ℕ) (x : State) → (x ≡ Open position → ⊥)
    → closed_from (position + 1) number x ≡ closed_from position number x
closed_from-less position number (Open i) other = elim (cases_lt i position) [
  | inl lt ↦ closed_from-below (position + 1) number i (omega arith) ∙ sym (closed_from-below position number i lt)
  | inr le ↦
      let ne : i ≢ position = λ e. other (ap Open e) in
      closed_from-above (position + 1) number i (omega arith) ∙ sym (closed_from-above position number i le)
]
closed_from-less position number _ other = refl

module _ (first before : Search) (rest : List ℕ) (place : ℕ)
    (are_opened : AreOpened first.states.items first.opened.items)
    (closes : ClosesFrom first before (length before.opened.items))
    (fewer : length before.opened.items ≤ length first.opened.items)
    (pops : before.opened.items ≡ rest ++ place ∷ []) where
  pub count : length before.opened.items ≡ length rest + 1
  count = ap length pops ∙ length_push rest place

  stands : slice_index first.opened.items (length rest) ≡ place
  stands =
      let n = count in
      sym (get_or-take (length before.opened.items) first.opened.items (length rest) 0 (omega arith))
      ∙ ap (λ xs. slice_index xs (length rest)) (sym closes.opened ∙ pops)
      ∙ get_or_push rest place 0 (length rest) refl

  is_open : state_at first.states.items place ≡ Open (length rest)
  is_open =
      let n = count in
      subst (λ a. state_at first.states.items a ≡ Open (length rest)) stands
      (are_opened.placed (length rest) (omega arith))

  pub place_inside : place < length before.states.items
  place_inside =
      let f = closes.fit in let i = state_inside first.states.items place (length rest) is_open in omega arith

  still_open : state_at before.states.items place ≡ Open (length rest)
  still_open =
      let n = count in
      closes.states place ∙ ap (closed_from (length before.opened.items) first.closed) is_open
      ∙ closed_from-below (length before.opened.items) first.closed (length rest) (omega arith)

  abbrev after : List State
  after = set before.states.items place (Closed first.closed)

  closed_after : (a : ℕ) → state_at after a ≡ closed_from (length rest) first.closed (state_at first.states.items a)
  closed_after a = elim (cases_eq a place) [
    | inl e ↦
        subst (λ b. state_at after b ≡ closed_from (length rest) first.closed (state_at first.states.items b)) (sym e)
        (get_or-set_same before.states.items place (Closed first.closed) New place_inside
        ∙ sym (ap (closed_from (length rest) first.closed) is_open
        ∙ closed_from-above (length rest) first.closed (length rest) (omega arith)))
    | inr ne ↦
        get_or-set_other before.states.items place a (Closed first.closed) New ne
        ∙ closes.states a
        ∙ ap (λ n. closed_from n first.closed (state_at first.states.items a)) count
        ∙ closed_from-less (length rest) first.closed (state_at first.states.items a)
        (λ is. ne (sym (are_opened.found a (length rest) is).1 ∙ stands))
  ]

  pub closes_one : (now : Search) → now.states.items ≡ after → now.opened.items ≡ rest
      → now.left.items ≡ before.left.items → now.starts.items ≡ before.starts.items → now.path.items ≡ before.path.items
      → ClosesFrom first now (length now.opened.items)
  closes_one now e_states e_opened e_left e_starts e_path = record {
    states = λ a. ap (λ states. state_at states a) e_states ∙ closed_after a
        ∙ ap (λ xs. closed_from (length xs) first.closed (state_at first.states.items a)) (sym e_opened);
    fit = ap length e_states ∙ length-set before.states.items place (Closed first.closed) ∙ closes.fit;
    news =
        let news = news-set before.states.items place (Closed first.closed) place_inside in
        let one : ◌≡◌ {A = ℕ} (cond (is_new (state_at before.states.items place)) 1 0) 0 =
        ap (λ x. cond (is_new x) 1 0) still_open in
        let same : count_by is_new now.states.items ≡ count_by is_new after = ap (count_by is_new) e_states in
        let was = closes.news in omega arith;
    left = e_left ∙ closes.left;
    opened =
        let n = count in
        e_opened ∙ sym (take_at rest (place ∷ []) (length rest) refl)
        ∙ ap (take (length rest)) (sym pops ∙ closes.opened)
        ∙ take-take (length rest) (length before.opened.items) first.opened.items (omega arith)
        ∙ ap (λ xs. take (length xs) first.opened.items) (sym e_opened);
    starts = e_starts ∙ closes.starts;
    path = e_path ∙ closes.path;
  }
