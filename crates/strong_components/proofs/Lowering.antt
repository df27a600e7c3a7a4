-- One more successor of the last place on the path is looked at.
use Rattle.std.proofs.Common.{◌≡◌, ◌≢◌, ℕ, ◌<◌, ◌≤◌, ◌+◌, ◌-◌, List, [], length, set, slice_index, slice_index_or}
use Rattle.std.proofs.Common.{arith, ap, sym, ◌∙◌, inl, inr, subst, get_or-set_same, get_or-set_other, length-set}
use Rattle.std.proofs.lemmas.Bool.{cases_eq}
use Rattle.std.proofs.lemmas.List.{get_or_read}
use Rattle.strong_components.specs.Words.{State, Open, AreLeft, HasLast, IsOngoing, MayStep, state_at}
use Rattle.strong_components.proofs.States.{may-step-at}

-- the last place of the path
pub top_inside : (graph : List (List ℕ)) (states : List State) (left opened starts path : List ℕ) (closed position : ℕ)
    → IsOngoing graph states left opened starts path closed → HasLast path position → position < length opened
top_inside graph states left opened starts path closed position h ends =
    let some = ends.0 in let at = ends.1 in
    let below = h.is_path.path_inside (length path - 1) (omega arith) in omega arith

pub top_open : (graph : List (List ℕ)) (states : List State) (left opened starts path : List ℕ)
    (closed place position : ℕ) → IsOngoing graph states left opened starts path closed → HasLast path position
    → place ≡ slice_index_or opened position place → state_at states place ≡ Open position
top_open graph states left opened starts path closed place position h ends read =
    let inside = top_inside graph states left opened starts path closed position h ends in
    subst (λ a. state_at states a ≡ Open position) (sym (get_or_read opened position place inside read 0))
    (h.are_opened.placed position inside)

module _ (graph : List (List ℕ)) (states : List State)
    (left opened starts path : List ℕ) (closed from position less : ℕ)
    (h : IsOngoing graph states left opened starts path closed)
    (is_from : state_at states from ≡ Open position)
    (was : slice_index left from ≡ less + 1)
    (inside : from < length left) where
  abbrev fewer : List ℕ
  fewer = set left from less

  here : slice_index fewer from ≡ less
  here = get_or-set_same left from less 0 inside

  elsewhere : (a : ℕ) → a ≢ from → slice_index fewer a ≡ slice_index left a
  elsewhere a ne = get_or-set_other left from a less 0 ne

  at_most : (a : ℕ) → slice_index fewer a ≤ slice_index left a
  at_most a = elim (cases_eq a from) [
    | inl e ↦ subst (λ b. slice_index fewer b ≤ slice_index left b) (sym e) (let at = here in omega arith)
    | inr ne ↦ let at = elsewhere a ne in omega arith
  ]

  are_fewer : AreLeft graph states fewer path
  are_fewer = record {
    fit = length-set left from less ∙ h.are_left.fit;
    inside = λ a. let low = at_most a in let was = h.are_left.inside a in omega arith;
    at_new = λ a is. elim (cases_eq a from) [
      | inl e ↦ let same = ap (state_at states) e in cc
      | inr ne ↦ let at = elsewhere a ne in let was = h.are_left.at_new a is in omega arith
    ];
    at_open = λ a i is. elim (h.are_left.at_open a i is) [
      | inl on ↦ inl on
      | inr none ↦ let low = at_most a in inr (omega arith)
    ];
    at_closed = λ a number is. let none = h.are_left.at_closed a number is in let low = at_most a in omega arith;
  }

  pub lower_keeps : (to : ℕ) → slice_index (slice_index_or graph from []) less ≡ to
      → MayStep starts (Open position) (state_at states to) → IsOngoing graph states fewer opened starts path closed
  lower_keeps to leads may = record {
    fit = h.fit;
    are_opened = h.are_opened;
    is_path = h.is_path;
    are_left = are_fewer;
    open_reach = h.open_reach;
    closed_reach = h.closed_reach;
    looked_at = λ a k lt le. elim (cases_eq a from) [
      | inl e ↦ elim (cases_eq k less) [
        | inl last ↦ may-step-at starts _ _ _ _ (ap (state_at states) e ∙ is_from)
            (ap (state_at states)
            (ap (λ b. slice_index (slice_index_or graph b []) k) e
            ∙ ap (λ j. slice_index (slice_index_or graph from []) j) last ∙ leads)) may
        | inr ne ↦
            let at = subst (λ b. slice_index fewer b ≡ less) (sym e) here in
            let same = ap (slice_index left) e in
            h.looked_at a k lt (omega arith)
      ]
      | inr other ↦ let at = elsewhere a other in h.looked_at a k lt (omega arith)
    ];
    numbered = h.numbered;
    used = h.used;
    room = h.room;
  }
