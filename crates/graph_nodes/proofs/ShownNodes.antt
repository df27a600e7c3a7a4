-- Which of the nodes that are held are shown, and what becomes of these.
use Rattle.std.proofs.Common.{◌≡◌, ◌≢◌, ℕ, zero, suc, ◌+◌, ◌<◌, ◌≤◌, ◌⊎◌, Bool, true, false, not, ◌&&◌, ◌||◌, cond}
use Rattle.std.proofs.Common.{if◌then◌else◌, List, [], ◌∷◌, ◌++◌, map, length, Option, None, Some, slice_get, slice_set}
use Rattle.std.proofs.Common.{IsSome, get_or, refl, sym, ◌∙◌, ap, ap₂, subst, inl, inr, arith, le-ltb, lt-ltb}
use Rattle.std.specs.List.{filter, list_any}
use Rattle.std.specs.Map.{lookup}
use Rattle.std.specs.Option.{option_or}
use Rattle.std.specs.Prelude.{count_by, Err, MatchOption, Ok, OnErr, Result}
use Rattle.std.proofs.lemmas.Bool.{cases_Bool, cases_eq}
use Rattle.std.proofs.lemmas.List.Elements.{filter-append}
use Rattle.std.proofs.lemmas.List.Folds.{list_any-append}
use Rattle.std.proofs.lemmas.List.Sums.{count_by-le-length, length-filter}
use Rattle.graph_nodes.specs.Below.{Node}
use Rattle.graph_nodes.specs.Words.{AreEarlier, AreHeld, CacheNode, Finished, Forgets, HasNumber, Held, IsGone}
use Rattle.graph_nodes.specs.Words.{IsRising, is_among, is_before, is_forgotten, is_held, IsShownFrom, kept, node_of}
use Rattle.graph_nodes.specs.Words.{nodes_of, Open, open_goal, open_node, run_of, shown, slot_at, Slot, with_run}
use Rattle.graph_nodes.proofs.Filters.{filter_alike, filter_all, filter_both, filter_set}
use Rattle.graph_nodes.proofs.HeldNodes.{found_case, held_count_is, held_is_there, held_of, is_there, next_is}
use Rattle.graph_nodes.proofs.HeldNodes.{nodes_of-ended, not_held, nothing_there, number_is, open_has_place, pushed_is}
use Rattle.graph_nodes.proofs.HeldNodes.{rising_later, slot_here, slot_later, slot_of}
use Rattle.graph_nodes.proofs.LetGo.{kept_from, rising_kept}

-- ---- what a test leaves of the nodes that are held

module _ {I R : Type 0} (p : Held I R → Bool) where
  -- what is left of the slot of a number
  abbrev pub left_of : ℕ → Option (Slot I R) → Option (Slot I R)
  left_of number None = None
  left_of number (Some slot) = cond (p (record { number = number; slot = slot })) (Some slot) None

  filter_is_kept : (held : List (Held I R)) → filter p held ≡ kept (map p held) held
  filter_is_kept [] = refl
  filter_is_kept (h ∷ held) = by (p h) (filter_is_kept held)
    where
      by : (b : Bool) → filter p held ≡ kept (map p held) held
          → cond b (h ∷ filter p held) (filter p held) ≡ kept (b ∷ map p held) (h ∷ held)
      by true rest = ap (λ l. h ∷ l) rest
      by false rest = rest

  pub slot_left : (held : List (Held I R)) → IsRising held → (number : ℕ)
      → slot_at (filter p held) number ≡ left_of number (slot_at held number)
  slot_left [] rising number = refl
  slot_left (h ∷ held) rising number =
      let rest = slot_left held (rising_later h held rising) number in
      elim (cases_eq h.number number) [
        | inl e ↦
            here e rest (p h)
            ∙ (ap (λ n. cond (p (record { number = n; slot = h.slot })) (Some h.slot) None) e
            ∙ sym (ap (left_of number) (slot_here h held number e)))
        | inr ne ↦ later ne (p h) ∙ (rest ∙ sym (ap (left_of number) (slot_later h held number ne)))
      ]
    where
      none_later : h.number ≡ number → slot_at held number ≡ None
      none_later e = not_held held number (λ i k is same.
          let lt : h.number < k.number = rising.rises zero (suc i) h k (omega arith) refl is in absurd (omega arith))

      here : h.number ≡ number → slot_at (filter p held) number ≡ left_of number (slot_at held number) → (b : Bool)
          → slot_at (cond b (h ∷ filter p held) (filter p held)) number ≡ cond b (Some h.slot) None
      here e rest false = rest ∙ ap (left_of number) (none_later e)
      here e rest true = slot_here h (filter p held) number e

      later : h.number ≢ number → (b : Bool)
          → slot_at (cond b (h ∷ filter p held) (filter p held)) number ≡ slot_at (filter p held) number
      later ne false = refl
      later ne true = slot_later h (filter p held) number ne

  pub AreHeld-left : (first_goal : Option I) (held : List (Held I R)) (next : ℕ)
      → AreHeld first_goal held next → AreHeld first_goal (filter p held) next
  AreHeld-left first_goal held next are =
      subst (λ l. AreHeld first_goal l next) (sym (filter_is_kept held)) (record {
        rising = rising_kept (map p held) held are.rising;
        below = λ i h there. let was = kept_from (map p held) held i h there in are.below was.0 h was.1;
        opened = are.opened;
      })

-- ---- which nodes are shown

pub refused : {A E P : Type 0} (r : Result A E) → P → OnErr r P
refused (Ok x) is = tt
refused (Err e) is = is

-- a number behind all at which goals were forgotten
not_before : (newest number : ℕ) → newest ≤ number → (o : Option ℕ) → ((next : ℕ) → o ≡ Some next → next ≤ newest)
    → is_before number o ≡ false
not_before newest number le None earlier = refl
not_before newest number le (Some next) earlier = le-ltb number next (let e = earlier next refl in omega arith)

-- what is forgotten now, or was before
forgotten_or_was : (number next : ℕ) → number < next → (b : Bool) (o : Option ℕ)
    → not (is_before number (if b then Some next else o)) ≡ not b && not (is_before number o)
forgotten_or_was number next lt true o = ap not (lt-ltb number next lt)
forgotten_or_was number next lt false o = refl

module _ {I : Type 0} (same : I → I → Bool) where
  pub none_earlier : (goals : List (I × ℕ)) → goals ≡ [] → (newest : ℕ) → AreEarlier same goals newest
  none_earlier goals none newest goal next is =
      let e : None ≡ Some next = sym (ap (lookup (same goal)) none) ∙ is in absurd cc

  -- what is among the first of some goals is among them
  pub among_first : (first rest goals : List I) → goals ≡ first ++ rest → (goal : I)
      → is_among same first goal ≡ true → is_among same goals goal ≡ true
  among_first first rest goals is goal among =
      ap (list_any (same goal)) is
      ∙ (list_any-append (same goal) first rest ∙ ap (λ b. b || list_any (same goal) rest) among)

  noted_before : (b : Bool) (o : Option ℕ) (newest next at : ℕ) → newest ≤ next
      → ((n : ℕ) → o ≡ Some n → n ≤ newest) → (if b then Some next else o) ≡ Some at → at ≤ next
  noted_before true o newest next at le earlier is = let e : next ≡ at = cc in omega arith
  noted_before false o newest next at le earlier is = let old = earlier at is in omega arith

  -- a goal that is forgotten is so when the number is next
  pub noted_are_earlier : (is_gone : I → Bool) (newest next : ℕ) (old new : List (I × ℕ)) → newest ≤ next
      → AreEarlier same old newest → Forgets same is_gone next old new → AreEarlier same new next
  noted_are_earlier is_gone newest next old new le earlier forgets goal at is =
      noted_before (is_gone goal) (lookup (same goal) old) newest next at le (earlier goal)
      (sym (forgets goal) ∙ is)

module _ {I R : Type 0} (same : I → I → Bool) where
  pub none_forgotten : (goals : List (I × ℕ)) (h : Held I R) → goals ≡ [] → is_forgotten same goals h ≡ false
  none_forgotten goals h none = ap (λ l. is_forgotten same l h) none

  -- where no goal was forgotten, all nodes are shown
  pub all_shown : (goals : List (I × ℕ)) (held : List (Held I R)) → goals ≡ [] → shown same goals held ≡ held
  all_shown goals held none =
      filter_all (λ h. not (is_forgotten same goals h)) held (λ i h is. ap not (none_forgotten goals h none))

  pub shown_are_held : (goals : List (I × ℕ)) (first_goal : Option I) (held : List (Held I R)) (next : ℕ)
      → AreHeld first_goal held next → AreHeld first_goal (shown same goals held) next
  shown_are_held goals = AreHeld-left (λ h. not (is_forgotten same goals h))

  pub newer_is_shown : (goals : List (I × ℕ)) (newest : ℕ) → AreEarlier same goals newest → (h : Held I R)
      → newest ≤ h.number → is_forgotten same goals h ≡ false
  newer_is_shown goals newest earlier h le =
      not_before newest h.number le (lookup (same (node_of h.slot).goal) goals) (earlier (node_of h.slot).goal)

  pub shown_pushed : (goals : List (I × ℕ)) (held : List (Held I R)) (h : Held I R)
      → is_forgotten same goals h ≡ false → shown same goals (held ++ h ∷ []) ≡ shown same goals held ++ h ∷ []
  shown_pushed goals held h not_forgotten =
      filter-append (λ k. not (is_forgotten same goals k)) held (h ∷ [])
      ∙ ap (λ b. shown same goals held ++ cond (not b) (h ∷ []) []) not_forgotten

  -- goals are forgotten: of what was shown the nodes of all others are
  pub others_shown : (is_gone : I → Bool) (next : ℕ) (old new : List (I × ℕ)) (held : List (Held I R))
      → ((i : ℕ) (h : Held I R) → slice_get held i ≡ Some h → h.number < next) → Forgets same is_gone next old new
      → shown same new held ≡ filter (λ h. not (is_gone (node_of h.slot).goal)) (shown same old held)
  others_shown is_gone next old new held below forgets =
      filter_alike (λ h. not (is_forgotten same new h))
      (λ h. not (is_gone (node_of h.slot).goal) && not (is_forgotten same old h)) held
      (λ i h is. ap (λ o. not (is_before h.number o)) (forgets (node_of h.slot).goal)
      ∙ forgotten_or_was h.number next (below i h is) (is_gone (node_of h.slot).goal)
      (lookup (same (node_of h.slot).goal) old))
      ∙ sym (filter_both (λ h. not (is_forgotten same old h)) (λ h. not (is_gone (node_of h.slot).goal)) held)

  -- memory of all that were forgotten is let go
  pub let_go_shown : (goals new_goals : List (I × ℕ)) (held new : List (Held I R)) (first : ℕ)
      → new_goals ≡ [] → new ≡ shown same goals held → IsShownFrom same first goals new_goals held new
  let_go_shown goals new_goals held new first none is = record {
    same_shown = all_shown new_goals new none ∙ is;
    fewer = inr is;
    later = λ i h there le. none_forgotten new_goals h none;
  }

  -- ---- look-ups

  left_of_forgotten : (goals : List (I × ℕ)) (h : Held I R) (b : Bool) → is_forgotten same goals h ≡ b
      → left_of (λ k. not (is_forgotten same goals k)) h.number (Some h.slot) ≡ cond (not b) (Some h.slot) None
  left_of_forgotten goals h b is = ap (λ d. cond (not d) (Some h.slot) None) is

  module _ (goals : List (I × ℕ)) (held : List (Held I R)) (rising : IsRising held) where
    pub not_shown : (number : ℕ) → slot_at held number ≡ None → slot_at (shown same goals held) number ≡ None
    not_shown number none =
        slot_left (λ h. not (is_forgotten same goals h)) held rising number
        ∙ ap (left_of (λ h. not (is_forgotten same goals h)) number) none

    module _ (h : Held I R) (there : slot_at held h.number ≡ Some h.slot) where
      pub forgotten_not_shown : is_forgotten same goals h ≡ true → slot_at (shown same goals held) h.number ≡ None
      forgotten_not_shown is =
          slot_left (λ k. not (is_forgotten same goals k)) held rising h.number
          ∙ (ap (left_of (λ k. not (is_forgotten same goals k)) h.number) there ∙ left_of_forgotten goals h true is)

      pub other_is_shown : is_forgotten same goals h ≡ false
          → slot_at (shown same goals held) h.number ≡ Some h.slot
      other_is_shown is =
          slot_left (λ k. not (is_forgotten same goals k)) held rising h.number
          ∙ (ap (left_of (λ k. not (is_forgotten same goals k)) h.number) there ∙ left_of_forgotten goals h false is)

-- what is found under a number is the node of it
pub slot_is_there : {I R : Type 0} (first_goal : Option I) (held : List (Held I R)) (next : ℕ)
    → AreHeld first_goal held next → (number : ℕ) (slot : Slot I R) → slot_at held number ≡ Some slot
    → slice_get (nodes_of first_goal held next) number ≡ Some (node_of slot)
slot_is_there first_goal held next are number slot is =
    let w = held_of held number slot is in
    ap (slice_get (nodes_of first_goal held next)) (sym w.3)
    ∙ (held_is_there first_goal held next are w.0 w.1 w.2 ∙ ap (λ s. Some (node_of s)) w.4)

-- ---- the same of fields and values as the code has them

module _ {I R : Type 0} (same : I → I → Bool) (goals : List (I × ℕ)) (first_goal : Option I) (held : List (Held I R))
    (next : ℕ) (nodes : List (CacheNode I R)) (are : AreHeld first_goal held next)
    (view : nodes_of first_goal (shown same goals held) next ≡ nodes) where
  are_shown : AreHeld first_goal (shown same goals held) next
  are_shown = shown_are_held same goals first_goal held next are

  pub shown_next : next ≡ length nodes
  shown_next = next_is first_goal (shown same goals held) next nodes are_shown view

  pub shown_count_is : length (shown same goals held) ≡ count_by is_held nodes
  shown_count_is = held_count_is first_goal (shown same goals held) next nodes are_shown view

  -- more may be held than is shown
  pub shown_are_fewer : count_by is_held nodes ≤ length held
  shown_are_fewer = omega (
    arith,
    shown_count_is,
    length-filter (λ h. not (is_forgotten same goals h)) held,
    count_by-le-length (λ h. not (is_forgotten same goals h)) held,
  )

  -- one more node
  module _ (newest : ℕ) (earlier : AreEarlier same goals newest) (le : newest ≤ next) (input : I)
      (first : Option I) (items : List (Held I R)) (more : ℕ) (first_is : first ≡ option_or first_goal (Some input))
      (items_is : items ≡ held ++ record { number = next; slot = Open input } ∷ []) (more_is : more ≡ next + 1) where
    pub shown_and_pushed : nodes_of first (shown same goals items) more ≡ nodes ++ open_node input ∷ []
    shown_and_pushed =
        let h : Held I R = record { number = next; slot = Open input } in
        pushed_is first_goal (shown same goals held) next nodes are_shown view input first (shown same goals items) more
        first_is (ap (shown same goals) items_is
        ∙ shown_pushed same goals held h (newer_is_shown same goals newest earlier h le)) more_is

  module _ (number : ℕ) where
    pub none_is_gone : slot_at held number ≡ None → IsGone (slice_get nodes number)
    none_is_gone none =
        nothing_there first_goal (shown same goals held) next nodes are_shown view number
        (not_shown same goals held are.rising number none)

    -- the place of an open node is found
    pub shown_place : (items : List (Held I R)) → items ≡ held → (found : Option ℕ)
        → MatchOption found (slot_at items number ≡ None) (λ place. HasNumber items place number)
        → IsSome (open_goal nodes number) → IsSome found
    shown_place items is found match is_open =
        found_case first_goal held next (nodes_of first_goal held next) are refl number items found match
        (λ none. open_has_place first_goal (shown same goals held) next nodes are_shown view number is_open
        (not_shown same goals held are.rising number (ap (λ l. slot_at l number) (sym is) ∙ none)))

    module _ (place : ℕ) (has : HasNumber held place number) (h : Held I R) (read : h ≡ get_or held place h) where
      h_is_there : slice_get held place ≡ Some h
      h_is_there = is_there first_goal held next (nodes_of first_goal held next) are refl number place has h read

      h_has_number : h.number ≡ number
      h_has_number = number_is first_goal held next (nodes_of first_goal held next) are refl number place has h read

      its_slot : slot_at held h.number ≡ Some h.slot
      its_slot = slot_of held are.rising place h h_is_there

      none_shown : is_forgotten same goals h ≡ true → slot_at (shown same goals held) number ≡ None
      none_shown is = ap (slot_at (shown same goals held)) (sym h_has_number)
          ∙ forgotten_not_shown same goals held are.rising h its_slot is

      pub forgotten_is_gone : is_forgotten same goals h ≡ true → IsGone (slice_get nodes number)
      forgotten_is_gone is =
          nothing_there first_goal (shown same goals held) next nodes are_shown view number (none_shown is)

      pub other_is_there : is_forgotten same goals h ≡ false → slice_get nodes number ≡ Some (node_of h.slot)
      other_is_there is =
          ap (λ l. slice_get l number) (sym view)
          ∙ slot_is_there first_goal (shown same goals held) next are_shown number h.slot
          (ap (slot_at (shown same goals held)) (sym h_has_number)
          ∙ other_is_shown same goals held are.rising h its_slot is)

      pub newer_is_there : (newest : ℕ) → AreEarlier same goals newest → newest ≤ number
          → slice_get nodes number ≡ Some (node_of h.slot)
      newer_is_there newest earlier le =
          other_is_there (newer_is_shown same goals newest earlier h (omega (arith, h_has_number)))

      open_not_forgotten : IsSome (open_goal nodes number) → is_forgotten same goals h ≡ false
      open_not_forgotten is_open = elim (cases_Bool (is_forgotten same goals h)) [
        | inl gone ↦ absurd (open_has_place first_goal (shown same goals held) next nodes are_shown view number is_open
            (none_shown gone))
        | inr is ↦ is
      ]

      -- an open node is finished
      pub shown_and_ended : (n : Node I R) → n.input ≡ (node_of h.slot).goal → IsSome (open_goal nodes number)
          → nodes_of first_goal (shown same goals
          (slice_set held place (record { number = number; slot = Finished n }))) next
          ≡ with_run nodes number (run_of n)
      shown_and_ended n input is_open =
          let passes : not (is_forgotten same goals h) ≡ true = ap not (open_not_forgotten is_open) in
          let w = filter_set (λ k. not (is_forgotten same goals k)) held place h
          (record { number = number; slot = Finished n }) h_is_there passes
          (ap₂ (λ m goal. not (is_before m (lookup (same goal) goals))) (sym h_has_number) input ∙ passes) in
          ap (λ l. nodes_of first_goal l next) w.2
          ∙ (nodes_of-ended (shown same goals held) next w.0 h w.1 number h_has_number n input first_goal are_shown
          (subst (λ l. IsSome (open_goal l number)) (sym view) is_open)
          ∙ ap (λ l. with_run l number (run_of n)) view)

pub none_held : {I R : Type 0} (held : List (Held I R)) → held ≡ [] → AreHeld None held 0
none_held {I} {R} held none =
    subst (λ (l : List (Held I R)). AreHeld None l 0) (sym none) (record {
      rising = record { rises = λ i j h k lt is at. absurd cc };
      below = λ i h is. absurd cc;
      opened = λ lt. absurd (omega arith);
    })

-- where memory of what was forgotten was let go, or nothing was done
pub from_shown_are_held : {I R : Type 0} (same : I → I → Bool) (first : ℕ) (goals new_goals : List (I × ℕ))
    (held new : List (Held I R)) → IsShownFrom same first goals new_goals held new → (first_goal : Option I) (next : ℕ)
    → AreHeld first_goal held next → AreHeld first_goal new next
from_shown_are_held same first goals new_goals held new from first_goal next are = elim from.fewer [
  | inl is ↦ subst (λ l. AreHeld first_goal l next) (sym is) are
  | inr is ↦ subst (λ l. AreHeld first_goal l next) (sym is) (shown_are_held same goals first_goal held next are)
]
