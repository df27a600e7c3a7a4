-- What is left of a list when those of its later nodes that are not marked are let go.
use Rattle.std.proofs.Common.{◌≡◌, ℕ, zero, suc, ◌+◌, ◌-◌, ◌<◌, ◌≤◌, ◌⊎◌, Bool, true, false, ◌||◌, nat_eq, List, []}
use Rattle.std.proofs.Common.{◌∷◌, ◌++◌, map, Option, None, Some, option_map, length, drop, take, slice_get, Contains}
use Rattle.std.proofs.Common.{refl, sym, ◌∙◌, ap, subst, subst₂, inl, inr, arith}
use Rattle.std.specs.Cmp.{nat_eq_equiv}
use Rattle.std.specs.List.{list_any}
use Rattle.std.specs.Option.{IsSomeAnd}
use Rattle.std.specs.Prelude.{IsTrue}
use Rattle.std.proofs.Common.{le-ltb, lt-ltb}
use Rattle.std.proofs.Math.Dec.{ltb}
use Rattle.std.proofs.lemmas.Bool.{cases_lt}
use Rattle.std.proofs.lemmas.List.{length-take-le, take-append-drop}
use Rattle.std.proofs.lemmas.List.Elements.{Contains-append_cases, Contains-append_left, Contains-append_right}
use Rattle.std.proofs.lemmas.Map.Views.{Contains-from_any, exact_unsigned_eq, list_any-from_Contains}
use Rattle.std.proofs.lemmas.Option.{slice_get-map, slice_get_within}
use Rattle.list_lemmas.proofs.Lists.{get_left}
use Rattle.list_lemmas.proofs.Members.{Contains-map, Contains-mapped}
use Rattle.search_context.proofs.Graphs.{IsReached-step}
use Rattle.graph_nodes.specs.Below.{Edge, HasEdge, IsReached, NodeId}
use Rattle.graph_nodes.specs.Words.{AreHeld, AreLive, AreMarked, CacheNode, Collected, edges_of, graph_node_of}
use Rattle.graph_nodes.specs.Words.{graph_nodes_of, HasNumber, Held, IsFound, IsGone, IsMarked, IsRising, IsSplit, kept}
use Rattle.graph_nodes.specs.Words.{node_if_held, node_of, nodes_of, slot_at, Slot, Open, Finished, StayBefore}
use Rattle.graph_nodes.specs.Words.{targets_of, root, next}
use Rattle.graph_nodes.proofs.HeldNodes.{get_below, get_past, held_is_there, held_of, length-nodes_of}
use Rattle.graph_nodes.proofs.HeldNodes.{not_held_is_gone, slot_of}
use Rattle.graph_nodes.proofs.KeptNodes.{whole_end}

module _ {A : Type 0} where
  get_right : (xs ys : List A) (i : ℕ) → slice_get (xs ++ ys) (length xs + i) ≡ slice_get ys i
  get_right [] ys i = ap (slice_get ys) (omega arith)
  get_right (x ∷ xs) ys i = ap (slice_get (x ∷ xs ++ ys)) {y = suc (length xs + i)} (omega arith) ∙ get_right xs ys i

  -- what stands in two lists stands in one of them
  get_either : (xs ys : List A) (i : ℕ) (x : A) → slice_get (xs ++ ys) i ≡ Some x
      → ((i < length xs) × (slice_get xs i ≡ Some x)) ⊎ ((j : ℕ) × (i ≡ length xs + j) × (slice_get ys j ≡ Some x))
  get_either [] ys i x is = inr (i, omega arith, is)
  get_either (z ∷ xs) ys zero x is = inl (omega arith, is)
  get_either (z ∷ xs) ys (suc i) x is = elim (get_either xs ys i x is) [
    | inl w ↦ inl (omega (arith, w.0), w.1)
    | inr w ↦ inr (w.0, omega (arith, w.1), w.2)
  ]

  -- what is kept was marked, and what was marked is kept
  pub kept_from : (marked : List Bool) (xs : List A) (i : ℕ) (x : A) → slice_get (kept marked xs) i ≡ Some x
      → (j : ℕ) × (slice_get xs j ≡ Some x) × IsMarked marked j
  kept_from [] xs i x is = absurd cc
  kept_from (b ∷ marked) [] i x is = absurd cc
  kept_from (true ∷ marked) (y ∷ xs) zero x is = (zero, is, refl)
  kept_from (true ∷ marked) (y ∷ xs) (suc i) x is = let w = kept_from marked xs i x is in (suc w.0, w.1, w.2)
  kept_from (false ∷ marked) (y ∷ xs) i x is = let w = kept_from marked xs i x is in (suc w.0, w.1, w.2)

  kept_has : (marked : List Bool) (xs : List A) (j : ℕ) (x : A) → IsMarked marked j → slice_get xs j ≡ Some x
      → (i : ℕ) × (slice_get (kept marked xs) i ≡ Some x)
  kept_has [] xs j x m is = absurd cc
  kept_has (b ∷ marked) [] j x m is = absurd cc
  kept_has (true ∷ marked) (y ∷ xs) zero x m is = (zero, is)
  kept_has (false ∷ marked) (y ∷ xs) zero x m is = absurd cc
  kept_has (true ∷ marked) (y ∷ xs) (suc j) x m is = let w = kept_has marked xs j x m is in (suc w.0, w.1)
  kept_has (false ∷ marked) (y ∷ xs) (suc j) x m is = kept_has marked xs j x m is

module _ {I R : Type 0} where
  rising_behind : (h : Held I R) (held : List (Held I R)) → IsRising (h ∷ held) → IsRising held
  rising_behind h held rising =
      record { rises = λ i j a b lt is at. rising.rises (suc i) (suc j) a b (omega arith) is at }

  rises_first : (marked : List Bool) (h : Held I R) (held : List (Held I R))
      → IsRising (h ∷ held) → IsRising (kept marked held)
      → (i j : ℕ) (a b : Held I R) → i < j → slice_get (h ∷ kept marked held) i ≡ Some a
      → slice_get (h ∷ kept marked held) j ≡ Some b → a.number < b.number
  rises_first marked h held rising rest i zero a b lt is at = absurd (omega arith)
  rises_first marked h held rising rest zero (suc j) a b lt is at =
      let w = kept_from marked held j b at in rising.rises zero (suc w.0) a b (omega arith) is w.1
  rises_first marked h held rising rest (suc i) (suc j) a b lt is at = rest.rises i j a b (omega arith) is at

  pub rising_kept : (marked : List Bool) (held : List (Held I R)) → IsRising held → IsRising (kept marked held)
  rising_kept [] held rising = record { rises = λ i j a b lt is at. absurd cc }
  rising_kept (b ∷ marked) [] rising = record { rises = λ i j a b lt is at. absurd cc }
  rising_kept (false ∷ marked) (h ∷ held) rising = rising_kept marked held (rising_behind h held rising)
  rising_kept (true ∷ marked) (h ∷ held) rising =
      record { rises = rises_first marked h held rising (rising_kept marked held (rising_behind h held rising)) }

  rising_right : (front later : List (Held I R)) → IsRising (front ++ later) → IsRising later
  rising_right [] later rising = rising
  rising_right (h ∷ front) later rising = rising_right front later (rising_behind h (front ++ later) rising)

  rising_both : (front later left : List (Held I R)) → IsRising (front ++ later) → IsRising left
      → ((i : ℕ) (h : Held I R) → slice_get left i ≡ Some h → (j : ℕ) × (slice_get later j ≡ Some h))
      → IsRising (front ++ left)
  rising_both front later left rising rest from = record {
    rises = λ i j a b lt is at. elim (get_either front left j b at) [
      | inl w ↦ elim (get_either front left i a is) [
        | inl v ↦ rising.rises i j a b lt (get_left front later i a v.1) (get_left front later j b w.1)
        | inr v ↦ absurd (omega (arith, v.1, w.0))
      ]
      | inr w ↦ elim (get_either front left i a is) [
        | inl v ↦ let k = from w.0 b w.2 in rising.rises i (length front + k.0) a b (omega (arith, v.0))
            (get_left front later i a v.1) (get_right front later k.0 ∙ k.1)
        | inr v ↦ rest.rises v.0 w.0 a b (omega (arith, v.1, w.1)) v.2 w.2
      ]
    ];
  }

  -- the numbers to which some nodes lead
  all_targets : List (Held I R) → List ℕ
  all_targets [] = []
  all_targets (h ∷ held) = targets_of h.slot ++ all_targets held

  target_from : (held : List (Held I R)) (n : ℕ) → Contains (all_targets held) n
      → (i : ℕ) × (h : Held I R) × (slice_get held i ≡ Some h) × Contains (targets_of h.slot) n
  unfolding all_targets
  target_from [] n (k, l, e) = absurd (omega arith)
  target_from (h ∷ held) n has = elim (Contains-append_cases (targets_of h.slot) (all_targets held) n has) [
    | inl l ↦ (zero, h, refl, l)
    | inr r ↦ let w = target_from held n r in (suc w.0, w.1, w.2, w.3)
  ]

  target_to : (held : List (Held I R)) (n i : ℕ) (h : Held I R) → slice_get held i ≡ Some h
      → Contains (targets_of h.slot) n → Contains (all_targets held) n
  unfolding all_targets
  target_to [] n i h is has = absurd cc
  target_to (k ∷ held) n zero h is has = let e : k ≡ h = cc in Contains-append_left (targets_of k.slot)
      (all_targets held) n (subst (λ x. Contains (targets_of x.slot) n) (sym e) has)
  target_to (k ∷ held) n (suc i) h is has =
      Contains-append_right (targets_of k.slot) (all_targets held) n (target_to held n i h is has)

  edges_are : (s : Slot I R) (e : Edge I) → Contains (edges_of s) e
      → IsSomeAnd (Some (graph_node_of (node_of s))) (λ n. Contains n.edges e)
  edges_are (Open goal) e has = has
  edges_are (Finished n) e has = has

  edges_from : (s : Slot I R) (e : Edge I)
      → IsSomeAnd (Some (graph_node_of (node_of s))) (λ n. Contains n.edges e) → Contains (edges_of s) e
  edges_from (Open goal) e has = has
  edges_from (Finished n) e has = has

  gone_has_no_edge : (o : Option (CacheNode I R)) (e : Edge I) → IsGone o
      → IsSomeAnd (option_map graph_node_of o) (λ n. Contains n.edges e) → ⊥
  gone_has_no_edge None e gone has = has
  gone_has_no_edge (Some n) e gone has =
      let none : Contains [] e = subst (λ run. Contains (elim run [ None ↦ [] | Some r ↦ r.edges ]) e) gone.0 has in
      none_contained e none
    where
      none_contained : (x : Edge I) → Contains [] x → ⊥
      none_contained x (k, l, is) = absurd (omega arith)

  slot_cases : (o : Option (Slot I R)) → (o ≡ None) ⊎ ((s : Slot I R) × (o ≡ Some s))
  slot_cases None = inl refl
  slot_cases (Some s) = inr (s, refl)

module _ {I R : Type 0} (first_goal : Option I) (front later : List (Held I R)) (next_number : ℕ)
    (are : AreHeld first_goal (front ++ later) next_number) (first : ℕ)
    (before : (i : ℕ) (h : Held I R) → slice_get front i ≡ Some h → h.number < first)
    (behind : (i : ℕ) (h : Held I R) → slice_get later i ≡ Some h → first ≤ h.number)
    (roots : List NodeId) (marked : List Bool) (m : AreMarked later (map (λ r. r.0) roots) marked) where
  abbrev old : List (CacheNode I R)
  old = nodes_of first_goal (front ++ later) next_number

  abbrev held_now : List (Held I R)
  held_now = front ++ kept marked later

  abbrev new : List (CacheNode I R)
  new = nodes_of first_goal held_now next_number

  rising_now : IsRising held_now
  rising_now = rising_both front later (kept marked later) are.rising
      (rising_kept marked later (rising_right front later are.rising))
      (λ i h is. let w = kept_from marked later i h is in (w.0, w.1))

  was_held : (i : ℕ) (h : Held I R) → slice_get held_now i ≡ Some h → (j : ℕ) × (slice_get (front ++ later) j ≡ Some h)
  was_held i h is = elim (get_either front (kept marked later) i h is) [
    | inl w ↦ (i, get_left front later i h w.1)
    | inr w ↦ let k = kept_from marked later w.0 h w.2 in (length front + k.0, get_right front later k.0 ∙ k.1)
  ]

  pub held_are_left : AreHeld first_goal held_now next_number
  held_are_left = record {
    rising = rising_now;
    below = λ i h is. let w = was_held i h is in are.below w.0 h w.1;
    opened = are.opened;
  }

  -- ---- what is live

  asked : List ℕ
  asked = map (λ r. r.0) roots ++ all_targets (kept marked later)

  live : ℕ → Bool
  live n = ltb n first || list_any (nat_eq n) asked

  live_first : (n : ℕ) → n < first → IsTrue (live n)
  unfolding live
  live_first n lt = rw (lt-ltb n first lt) refl

  live_asked : (n : ℕ) → Contains asked n → IsTrue (live n)
  unfolding live
  live_asked n has = elim (cases_lt n first) [
    | inl lt ↦ rw (lt-ltb n first lt) refl
    | inr ge ↦ rw (le-ltb n first ge) (list_any-from_Contains nat_eq_equiv n asked has)
  ]

  live_cases : (n : ℕ) → IsTrue (live n) → (n < first) ⊎ Contains asked n
  unfolding live
  live_cases n is = elim (cases_lt n first) [
    | inl lt ↦ inl lt
    | inr ge ↦ inr (Contains-from_any exact_unsigned_eq n asked (rw (le-ltb n first ge) at is))
  ]

  -- what is asked for is marked, where it is held
  asked_is_marked : (n : ℕ) → Contains asked n → (j : ℕ) (h : Held I R)
      → slice_get later j ≡ Some h → h.number ≡ n → IsMarked marked j
  unfolding asked
  asked_is_marked n has j h is number =
      let there : HasNumber later j n = ap (option_map (λ x. x.number)) is ∙ ap Some number in
      elim (Contains-append_cases (map (λ r. r.0) roots) (all_targets (kept marked later)) n has) [
        | inl l ↦ m.rooted j n l there
        | inr r ↦
            let t = target_from (kept marked later) n r in
            let k = kept_from marked later t.0 t.1 t.2 in
            m.closed k.0 t.1 j n k.2 k.1 t.3 there
      ]

  -- what is held and live stays held
  stays_held : (n : ℕ) (s : Slot I R) → (n < first) ⊎ Contains asked n
      → slot_at (front ++ later) n ≡ Some s → slot_at held_now n ≡ Some s
  stays_held n s alive found =
      let w = held_of (front ++ later) n s found in
      elim (get_either front later w.0 w.1 w.2) [
        | inl v ↦ sym (ap (slot_at held_now) w.3)
            ∙ (slot_of held_now rising_now w.0 w.1 (get_left front (kept marked later) w.0 w.1 v.1) ∙ ap Some w.4)
        | inr v ↦ elim alive [
          | inl lt ↦ let ge : first ≤ w.1.number = behind v.0 w.1 v.2 in absurd (omega (arith, w.3))
          | inr has ↦
              let k = kept_has marked later v.0 w.1 (asked_is_marked n has v.0 w.1 v.2 w.3) v.2 in
              sym (ap (slot_at held_now) w.3) ∙ (slot_of held_now rising_now (length front + k.0) w.1
              (get_right front (kept marked later) k.0 ∙ k.1) ∙ ap Some w.4)
        ]
      ]

  same_slot : (n : ℕ) → (n < first) ⊎ Contains asked n → slot_at held_now n ≡ slot_at (front ++ later) n
  same_slot n alive = elim (slot_cases (slot_at (front ++ later) n)) [
    | inr s ↦ stays_held n s.0 alive s.1 ∙ sym s.1
    | inl none ↦ elim (slot_cases (slot_at held_now n)) [
      | inl nothing ↦ nothing ∙ sym none
      | inr s ↦
          let w = held_of held_now n s.0 s.1 in
          let v = was_held w.0 w.1 w.2 in
          let both : Some w.1.slot ≡ None =
          sym (slot_of (front ++ later) are.rising v.0 w.1 v.1) ∙ (ap (slot_at (front ++ later)) w.3 ∙ none) in
          absurd cc
    ]
  ]

  same_node : (goals : Option I) (n : ℕ) → slot_at held_now n ≡ slot_at (front ++ later) n
      → slice_get (nodes_of goals held_now next_number) n ≡ slice_get (nodes_of goals (front ++ later) next_number) n
  same_node None n same = refl
  same_node (Some goal) n same = elim (cases_lt n next_number) [
    | inl lt ↦ get_below goal held_now next_number n lt
        ∙ (ap (λ o. Some (node_if_held goal o)) same ∙ sym (get_below goal (front ++ later) next_number n lt))
    | inr ge ↦ get_past goal held_now next_number n ge ∙ sym (get_past goal (front ++ later) next_number n ge)
  ]

  pub earlier_stay : (at : ℕ) → at < first → slice_get new at ≡ slice_get old at
  earlier_stay at lt = same_node first_goal at (same_slot at (inl lt))

  pub as_many : length new ≡ length old
  as_many = length-nodes_of first_goal held_now next_number held_are_left
      ∙ sym (length-nodes_of first_goal (front ++ later) next_number are)

  -- what is found is live
  found_live : (n : ℕ) → IsFound later (map (λ r. r.0) roots) n → Contains asked n
  unfolding asked
  found_live _ (root n has) = Contains-append_left (map (λ r. r.0) roots) (all_targets (kept marked later)) n has
  found_live _ (next n place h f at target) =
      let k = kept_has marked later place h (asked_is_marked h.number (found_live h.number f) place h at refl) at in
      Contains-append_right (map (λ r. r.0) roots) (all_targets (kept marked later)) n
      (target_to (kept marked later) n k.0 h k.1 target)

  held_is_live : (i : ℕ) (h : Held I R) → slice_get held_now i ≡ Some h → IsTrue (live h.number)
  held_is_live i h is = elim (get_either front (kept marked later) i h is) [
    | inl w ↦ live_first h.number (before i h w.1)
    | inr w ↦
        let k = kept_from marked later w.0 h w.2 in live_asked h.number (found_live h.number (m.found k.0 h k.2 k.1))
  ]

  left_is_live : (at : ℕ) → ¬ IsGone (slice_get new at) → IsTrue (live at)
  left_is_live at left = elim (slot_cases (slot_at held_now at)) [
    | inl none ↦ absurd (left (not_held_is_gone first_goal held_now next_number at none))
    | inr s ↦ let w = held_of held_now at s.0 s.1 in subst (λ k. IsTrue (live k)) w.3 (held_is_live w.0 w.1 w.2)
  ]

  -- an edge is one of a node that is held
  edge_of_held : (at : ℕ) (e : Edge I) → HasEdge (graph_nodes_of old) at e → (i : ℕ) × (h : Held I R)
      × (slice_get (front ++ later) i ≡ Some h) × (h.number ≡ at) × Contains (edges_of h.slot) e
  edge_of_held at e has =
      let there = subst (λ o. IsSomeAnd o (λ n. Contains n.edges e)) (slice_get-map graph_node_of old at) has in
      elim (slot_cases (slot_at (front ++ later) at)) [
        | inl none ↦ absurd (gone_has_no_edge (slice_get old at) e
            (not_held_is_gone first_goal (front ++ later) next_number at none) there)
        | inr s ↦
            let w = held_of (front ++ later) at s.0 s.1 in
            let node : slice_get old at ≡ Some (node_of w.1.slot) =
            ap (slice_get old) (sym w.3) ∙ held_is_there first_goal (front ++ later) next_number are w.0 w.1 w.2 in (
              w.0,
              w.1,
              w.2,
              w.3,
              edges_from w.1.slot e
                  (subst (λ o. IsSomeAnd (option_map graph_node_of o) (λ n. Contains n.edges e)) node there),
            )
      ]

  edge_is_live : StayBefore first old → (at : ℕ) (e : Edge I) → IsTrue (live at)
      → HasEdge (graph_nodes_of old) at e → IsTrue (live e.target)
  unfolding asked
  edge_is_live stay at e is has =
      let w = edge_of_held at e has in
      elim (live_cases at is) [
        | inl lt ↦ live_first e.target (stay at e lt has)
        | inr is_asked ↦ elim (get_either front later w.0 w.1 w.2) [
          | inl v ↦ let lt : w.1.number < first = before w.0 w.1 v.1 in
              live_first e.target (stay at e (omega (arith, w.3)) has)
          | inr v ↦
              let k = kept_has marked later v.0 w.1 (asked_is_marked at is_asked v.0 w.1 v.2 w.3) v.2 in
              live_asked e.target
              (Contains-append_right (map (λ r. r.0) roots) (all_targets (kept marked later)) e.target
              (target_to (kept marked later) e.target k.0 w.1 k.1
              (Contains-mapped (λ x. x.target) (edges_of w.1.slot) e w.4)))
        ]
      ]

  -- what is found is reached
  found_reached : (n : ℕ) → IsFound later (map (λ r. r.0) roots) n
      → (r : NodeId) × Contains roots r × IsReached (graph_nodes_of old) r.0 n
  found_reached _ (root n has) = let w = Contains-map (λ r. r.0) roots n has in (w.0, w.1, ([], w.2))
  found_reached _ (next n place h f at target) =
      let w = found_reached h.number f in
      let e = Contains-map (λ x. x.target) (edges_of h.slot) n target in
      let there = held_is_there first_goal (front ++ later) next_number are (length front + place) h
      (get_right front later place ∙ at) in
      let edge : HasEdge (graph_nodes_of old) h.number e.0 =
      subst (λ o. IsSomeAnd o (λ x. Contains x.edges e.0))
      (sym (slice_get-map graph_node_of old h.number ∙ ap (option_map graph_node_of) there))
      (edges_are h.slot e.0 e.1) in (
        w.0,
        w.1,
        subst (IsReached (graph_nodes_of old) w.0.0) e.2
            (IsReached-step (graph_nodes_of old) w.0.0 h.number e.0 w.2 edge),
      )

  live_is_reached : (at : ℕ) → IsTrue (live at)
      → (at < first) ⊎ ((r : NodeId) × Contains roots r × IsReached (graph_nodes_of old) r.0 at)
  unfolding asked
  live_is_reached at is = elim (live_cases at is) [
    | inl lt ↦ inl lt
    | inr is_asked ↦ elim (Contains-append_cases (map (λ r. r.0) roots) (all_targets (kept marked later)) at is_asked) [
      | inl l ↦ inr (found_reached at (root at l))
      | inr r ↦
          let t = target_from (kept marked later) at r in
          let k = kept_from marked later t.0 t.1 t.2 in
          inr (found_reached at (next at k.0 t.1 (m.found k.0 t.1 k.2 k.1) k.1 t.3))
    ]
  ]

  pub are_collected : StayBefore first old
      → (alive : ℕ → Bool) × AreLive old first roots alive × Collected alive old new
  unfolding asked
  are_collected stay = (
    live,
    record {
      earlier = live_first;
      rooted = λ r has. live_asked r.0 (Contains-append_left (map (λ x. x.0) roots) (all_targets (kept marked later))
          r.0 (Contains-mapped (λ x. x.0) roots r has));
      reached = live_is_reached;
    },
    record {
      same = λ at is. same_node first_goal at (same_slot at (live_cases at is));
      closed = λ at e is has. edge_is_live stay at e is has;
      left = left_is_live;
    },
  )

-- ---- the same of a list that is split at a place

module _ {I R : Type 0} (held : List (Held I R)) (first place : ℕ) (split : IsSplit held first place) where
  pub whole : take place held ++ drop place held ≡ held
  whole = take-append-drop place held

  pub later_rises : IsRising held → IsRising (drop place held)
  later_rises rising = rising_right (take place held) (drop place held) (subst IsRising (sym whole) rising)

  front_long : place ≡ length (take place held)
  front_long = sym (length-take-le place held split.within)

  pub front_is : (i : ℕ) (h : Held I R) → slice_get (take place held) i ≡ Some h → slice_get held i ≡ Some h
  front_is i h is = ap (λ l. slice_get l i) (sym whole) ∙ get_left (take place held) (drop place held) i h is

  pub later_is : (i : ℕ) (h : Held I R) → slice_get (drop place held) i ≡ Some h
      → slice_get held (length (take place held) + i) ≡ Some h
  later_is i h is = ap (λ l. slice_get l (length (take place held) + i)) (sym whole)
      ∙ (get_right (take place held) (drop place held) i ∙ is)

  pub before_first : (i : ℕ) (h : Held I R) → slice_get (take place held) i ≡ Some h → h.number < first
  before_first i h is =
      split.before i h (front_is i h is) (omega (arith, slice_get_within (take place held) i h is, front_long))

  pub behind_first : (i : ℕ) (h : Held I R) → slice_get (drop place held) i ≡ Some h → first ≤ h.number
  behind_first i h is = split.behind (length (take place held) + i) h (later_is i h is) (omega (arith, front_long))

  module _ (first_goal : Option I) (next_number : ℕ) (nodes : List (CacheNode I R))
      (are : AreHeld first_goal held next_number) (view : nodes_of first_goal held next_number ≡ nodes)
      (roots : List NodeId) (marked : List Bool) (m : AreMarked (drop place held) (map (λ r. r.0) roots) marked)
      (left : List (Held I R)) (left_is : left ≡ take place held ++ kept marked (drop place held)) where
    parts_are : AreHeld first_goal (take place held ++ drop place held) next_number
    parts_are = subst (λ l. AreHeld first_goal l next_number) (sym whole) are

    parts_view : nodes_of first_goal (take place held ++ drop place held) next_number ≡ nodes
    parts_view = ap (λ l. nodes_of first_goal l next_number) whole ∙ view

    left_view : nodes_of first_goal left next_number
        ≡ nodes_of first_goal (take place held ++ kept marked (drop place held)) next_number
    left_view = ap (λ l. nodes_of first_goal l next_number) left_is

    pub left_are_held : AreHeld first_goal left next_number
    left_are_held =
        subst (λ l. AreHeld first_goal l next_number) (sym left_is)
        (held_are_left first_goal (take place held) (drop place held) next_number parts_are first
        before_first behind_first roots marked m)

    pub left_stay : (at : ℕ) → at < first → slice_get (nodes_of first_goal left next_number) at ≡ slice_get nodes at
    left_stay at lt =
        ap (λ l. slice_get l at) left_view
        ∙ (earlier_stay first_goal (take place held) (drop place held) next_number parts_are first
        before_first behind_first roots marked m at lt
        ∙ ap (λ l. slice_get l at) parts_view)

    pub left_are_as_many : length (nodes_of first_goal left next_number) ≡ length nodes
    left_are_as_many =
        ap length left_view
        ∙ (as_many first_goal (take place held) (drop place held) next_number parts_are first
        before_first behind_first roots marked m
        ∙ ap length parts_view)

    pub left_are_collected : StayBefore first nodes → (alive : ℕ → Bool) × AreLive nodes first roots alive
        × Collected alive nodes (nodes_of first_goal left next_number)
    left_are_collected stay =
        subst (λ old. (alive : ℕ → Bool) × AreLive old first roots alive
        × Collected alive old (nodes_of first_goal left next_number)) parts_view
        (subst (λ new. (alive : ℕ → Bool)
        × AreLive (nodes_of first_goal (take place held ++ drop place held) next_number) first roots alive
        × Collected alive (nodes_of first_goal (take place held ++ drop place held) next_number) new) (sym left_view)
        (are_collected first_goal (take place held) (drop place held) next_number parts_are first
        before_first behind_first roots marked m
        (subst (StayBefore first) (sym parts_view) stay)))

-- the same of values as the code has them
pub split_of : {I R : Type 0} (held items : List (Held I R)) (first place : ℕ) → items ≡ held
    → IsSplit items first place → IsSplit held first place
split_of held items first place same split = subst (λ l. IsSplit l first place) same split

pub marks_of : {I R : Type 0} (held items : List (Held I R)) (place : ℕ) (numbers : List ℕ) (found marked : List Bool)
    → items ≡ held → marked ≡ found → AreMarked (take (length items - place) (drop place items)) numbers found
    → AreMarked (drop place held) numbers marked
marks_of held items place numbers found marked same read m =
    subst₂ (λ l b. AreMarked l numbers b) (whole_end items place ∙ ap (drop place) same) (sym read) m
