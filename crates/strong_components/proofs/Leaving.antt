-- The last place of the path is left, and its component may still grow.
use Rattle.std.proofs.Common.{◌≡◌, ℕ, ◌-◌, ◌⊎◌, List, length, slice_index, arith, ap, sym, ◌∙◌, inl, inr, subst}
use Rattle.std.specs.List.{Contains}
use Rattle.std.proofs.lemmas.Bool.{cases_eq}
use Rattle.strong_components.specs.Words.{State, Open, HasLast, IsOngoing, state_at}
use Rattle.strong_components.proofs.Indexes.{IsFront, front-contains, front-rises, rising_last}

-- an open place is on the rest of the path, unless all its successors were looked at
pub open_left : (graph : List (List ℕ)) (states : List State) (left opened starts path front : List ℕ)
    (closed position : ℕ) → IsOngoing graph states left opened starts path closed → HasLast path position
    → IsFront path front → slice_index left (slice_index opened position) ≡ 0 → (a i : ℕ) → state_at states a ≡ Open i
    → Contains front i ⊎ (slice_index left a ≡ 0)
open_left graph states left opened starts path front closed position h ends pops done a i is =
    elim (h.are_left.at_open a i is) [
      | inl on ↦ elim (cases_eq i position) [
        | inl e ↦ let same = (h.are_opened.found a i is).1 in
            inr (ap (slice_index left) (sym same ∙ ap (slice_index opened) e) ∙ done)
        | inr ne ↦ inl (front-contains path front position i pops ends on ne)
      ]
      | inr none ↦ inr none
    ]

pub leave_keeps : (graph : List (List ℕ)) (states : List State) (left opened starts path front : List ℕ)
    (closed position : ℕ) → IsOngoing graph states left opened starts path closed → HasLast path position
    → IsFront path front → slice_index left (slice_index opened position) ≡ 0 → (HasLast starts position → ⊥)
    → IsOngoing graph states left opened starts front closed
leave_keeps graph states left opened starts path front closed position h ends pops done no_start = record {
  fit = h.fit;
  are_opened = h.are_opened;
  is_path = record {
    path_rises = front-rises path front h.is_path.path_rises pops;
    path_inside = λ k inside.
        let s = pops.shorter in let same = pops.kept k inside in
        let was = h.is_path.path_inside k (omega arith) in omega arith;
    starts_rise = h.is_path.starts_rise;
    starts_on_path = λ k inside.
        front-contains path front position (slice_index starts k) pops ends (h.is_path.starts_on_path k inside)
        (λ e. elim (cases_eq k (length starts - 1)) [
          | inl last ↦ no_start (omega arith, subst (λ n. slice_index starts n ≡ position) last e)
          | inr ne ↦
              let below = h.is_path.starts_rise k (length starts - 1) (omega arith) (omega arith) in
              let top = rising_last path position _ h.is_path.path_rises ends
              (h.is_path.starts_on_path (length starts - 1) (omega arith)) in
              absurd (omega arith)
        ]);
    first = h.is_path.first;
  };
  are_left = record {
    fit = h.are_left.fit;
    inside = h.are_left.inside;
    at_new = h.are_left.at_new;
    at_open = open_left graph states left opened starts path front closed position h ends pops done;
    at_closed = h.are_left.at_closed;
  };
  open_reach = h.open_reach;
  closed_reach = h.closed_reach;
  looked_at = h.looked_at;
  numbered = h.numbered;
  used = h.used;
  room = h.room;
}
