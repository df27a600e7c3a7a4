-- A step leads to an open place: the components that were found since then become one.
use Rattle.std.proofs.Common.{◌≡◌, ℕ, ◌<◌, ◌≤◌, ◌-◌, List, length, slice_index, arith, sym, ◌∙◌, inl, inr, subst, refl}
use Rattle.std.specs.List.{Contains}
use Rattle.std.proofs.lemmas.Bool.{cases_eq, cases_lt}
use Rattle.strong_components.specs.Words.{State, Open, HasStep, go, HasLast, IsFromStart, IsOngoing, IsPath}
use Rattle.strong_components.specs.Words.{IsIncreasing, MayStep, PopsAbove, state_at}
use Rattle.strong_components.proofs.Walks.{reaches-trans}
use Rattle.strong_components.proofs.Indexes.{rising_last}
use Rattle.strong_components.proofs.States.{may-step-at, may-step-starts}

module _ (starts fewer : List ℕ) (found : ℕ) (rises : IsIncreasing starts) (pops : PopsAbove starts fewer found) where
  -- the starts that stay are not above the limit
  stays_low : (k : ℕ) → k < length fewer → slice_index fewer k ≤ found
  stays_low k inside =
      let last = pops.last (omega arith) in
      elim (cases_eq k (length fewer - 1)) [
        | inl e ↦ subst (λ (n : ℕ). slice_index fewer n ≤ found) (sym e) last
        | inr ne ↦
            let f = pops.fewer in
            let at_k = pops.kept k inside in let at_end = pops.kept (length fewer - 1) (omega arith) in
            let below = rises k (length fewer - 1) (omega arith) (omega arith) in omega arith
      ]

  -- a start that is not above the limit stays
  low_stays : (k : ℕ) → k < length starts → slice_index starts k ≤ found → k < length fewer
  low_stays k inside low =
      elim (cases_lt k (length fewer)) [
        | inl lt ↦ lt
        | inr past ↦ let high = pops.popped k past inside in absurd (omega arith)
      ]

  from-fewer : (i j : ℕ) → IsFromStart starts i j → IsFromStart fewer i j
  from-fewer i j from k inside low =
      let f = pops.fewer in let at_k = pops.kept k inside in
      let is = from k (omega arith) (omega arith) in omega arith

  -- up to the limit nothing changes
  from-more : (i j : ℕ) → i ≤ found → IsFromStart fewer i j → IsFromStart starts i j
  from-more i j low from k inside under =
      let stays = low_stays k inside (omega arith) in let at_k = pops.kept k stays in
      let is = from k stays (omega arith) in omega arith

  path-fewer : (path : List ℕ) (count : ℕ) → IsPath path starts count → IsPath path fewer count
  path-fewer path count is = record {
    path_rises = is.path_rises;
    path_inside = is.path_inside;
    starts_rise = λ j k lt inside.
        let f = pops.fewer in let at_j = pops.kept j (omega arith) in let at_k = pops.kept k inside in
        let below = rises j k lt (omega arith) in omega arith;
    starts_on_path = λ k inside.
        let f = pops.fewer in
        subst (Contains path) (sym (pops.kept k inside)) (is.starts_on_path k (omega arith));
    first = λ some.
        let (begins, zero) = is.first some in
        let stays = low_stays 0 begins (omega arith) in
        (stays, pops.kept 0 stays ∙ zero);
  }

pub merge_keeps : (graph : List (List ℕ)) (states : List State) (left opened starts path fewer : List ℕ)
    (closed from place position found : ℕ) → IsOngoing graph states left opened starts path closed
    → HasLast path position → state_at states from ≡ Open position → state_at states place ≡ Open found
    → HasStep graph from place → PopsAbove starts fewer found
    → IsOngoing graph states left opened fewer path closed × MayStep fewer (Open position) (state_at states place)
merge_keeps graph states left opened starts path fewer closed from place position found h ends is_from is_place s pops =
    let rises = h.is_path.starts_rise in
    let below_top : (i : ℕ) → IsFromStart starts i position = λ i k inside low.
    rising_last path position (slice_index starts k) h.is_path.path_rises ends (h.is_path.starts_on_path k inside) in (
      record {
        fit = h.fit;
        are_opened = h.are_opened;
        is_path = path-fewer starts fewer found rises pops path (length opened) h.is_path;
        are_left = h.are_left;
        open_reach = λ a b i j is_a is_b from_start. elim (cases_lt i found) [
          | inl lt ↦
              h.open_reach a b i j is_a is_b (from-more starts fewer found rises pops i j (omega arith) from_start)
          | inr above ↦
              let over : IsFromStart starts found j = λ k inside low.
              let stays = low_stays starts fewer found rises pops k inside low in let at_k = pops.kept k stays in
              let is = from_start k stays (omega arith) in omega arith in
              reaches-trans graph (h.open_reach a from i position is_a is_from (below_top i))
              (go s (h.open_reach place b found j is_place is_b over))
        ];
        closed_reach = h.closed_reach;
        looked_at = λ a k inside looked. may-step-starts starts fewer _ _
            (λ i j is. from-fewer starts fewer found rises pops i j) (h.looked_at a k inside looked);
        numbered = h.numbered;
        used = h.used;
        room = let f = pops.fewer in let r = h.room in omega arith;
      },
      may-step-at fewer (Open position) (state_at states place) (Open position) (Open found) refl is_place
          (λ k inside low. stays_low starts fewer found rises pops k inside),
    )
