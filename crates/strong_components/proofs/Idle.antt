-- The search between two roots: the path is empty, and so no place is open.
use Rattle.std.proofs.Common.{◌≡◌, ◌≢◌, ℕ, ◌<◌, ◌+◌, true, false, List, length, slice_index, arith, ap, sym, ◌∙◌, inl}
use Rattle.std.proofs.Common.{inr, subst, refl, get_or-set_same, get_or-set_other}
use Rattle.std.proofs.lemmas.Bool.{cases_eq, cases_lt}
use Rattle.strong_components.specs.Words.{State, New, Open, Search, Reaches, IsOngoing, IsSearch, Opens}
use Rattle.strong_components.specs.Words.{is_new, state_at}
use Rattle.strong_components.proofs.Indexes.{at_index}
use Rattle.strong_components.proofs.Opening.{open_keeps, same_search}

-- the first places are found, and nothing is being explored
pub record IsIdle (graph : List (List ℕ)) (s : Search) (count : ℕ) : Type 0 where
  pub ongoing : IsSearch graph s
  pub idle : length s.path.items ≡ 0
  pub found : (a : ℕ) → a < count → state_at s.states.items a ≢ New

pub none_opened : (graph : List (List ℕ)) (states : List State) (left opened starts path : List ℕ) (closed : ℕ)
    → IsOngoing graph states left opened starts path closed → length path ≡ 0 → length opened ≡ 0
none_opened graph states left opened starts path closed h idle =
    elim (cases_lt 0 (length opened)) [
      | inl some ↦
          let (begins, zero) = h.is_path.first some in
          let (k, on, same) = at_index path (slice_index starts 0) (h.is_path.starts_on_path 0 begins) in
          absurd (omega arith)
      | inr none ↦ omega arith
    ]

pub new_by_test : (x : State) → is_new x ≡ true → x ≡ New
new_by_test New e = refl
new_by_test _ e = cc

pub seen_by_test : (x : State) → is_new x ≡ false → x ≢ New
seen_by_test New e = cc
seen_by_test _ e = λ same. cc

-- a place is opened that nothing leads to yet
pub open_root : (graph : List (List ℕ)) (old new : Search) (place : ℕ) → IsSearch graph old → length old.path.items ≡ 0
    → state_at old.states.items place ≡ New → place < length old.states.items → Opens old new place → IsSearch graph new
open_root graph old new place h idle was_new inside opens =
    let none = none_opened graph old.states.items old.left.items old.opened.items
    old.starts.items old.path.items old.closed h idle in
    let reached : (a i : ℕ) → state_at old.states.items a ≡ Open i → Reaches graph a place = λ a i is.
    let low = (h.are_opened.found a i is).0 in absurd (omega arith) in
    same_search graph opens.states opens.left opens.opened opens.starts opens.path opens.closed
    (open_keeps graph old.states.items old.left.items old.opened.items old.starts.items old.path.items
    old.closed place h inside was_new reached)

-- the opened place is not new, and what was found stays so
pub found_with : (old new : Search) (place : ℕ) → place < length old.states.items → Opens old new place
    → ((a : ℕ) → a < place → state_at old.states.items a ≢ New) → (a : ℕ)
    → a < place + 1 → state_at new.states.items a ≢ New
found_with old new place inside opens found a lt is =
    let read = sym (ap (λ states. state_at states a) opens.states) ∙ is in
    elim (cases_eq a place) [
      | inl e ↦
          let at = get_or-set_same old.states.items place (Open (length old.opened.items)) New inside in
          let same = subst (λ b. state_at new.states.items b ≡ New) e is in
          let now = sym (ap (λ states. state_at states place) opens.states) ∙ same in cc
      | inr ne ↦ found a (omega arith)
          (sym (get_or-set_other old.states.items place a (Open (length old.opened.items)) New ne) ∙ read)
    ]
