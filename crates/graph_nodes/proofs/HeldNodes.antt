-- The nodes that are held, as the list of all nodes.
use Rattle.std.proofs.Common.{◌≡◌, ◌≢◌, ℕ, zero, suc, ◌+◌, ◌<◌, ◌≤◌, ◌⊎◌, Bool, false, if◌then◌else◌, IsSome, List, []}
use Rattle.std.proofs.Common.{◌∷◌, ◌++◌, Option, None, Some, length, get_or, slice_get, slice_set, refl, sym, ◌∙◌, ap}
use Rattle.std.proofs.Common.{ap₂, subst, subst₂, inl, inr, arith, eq-eqb, ne_eqb, add-one, add-zero}
use Rattle.std.proofs.Common.{cond, length-append}
use Rattle.std.specs.Prelude.{◌==◌, count_by, MatchOption}
use Rattle.std.specs.Option.{IsSomeAnd, option_or}
use Rattle.std.proofs.lemmas.Bool.{cases_eq, cases_lt, false≢true}
use Rattle.std.proofs.lemmas.Option.{MatchOption-at_some, slice_get_past, slice_get_read, slice_get_within}
use Rattle.std.proofs.lemmas.List.Sums.{sum_by_push}
use Rattle.list_lemmas.proofs.Lists.{get_left, get_end, get_cases, get_set_other, get_set_same, mapped_some}
use Rattle.graph_nodes.specs.Below.{Node}
use Rattle.graph_nodes.specs.Words.{Slot, Open, Finished, Held, CacheNode, goal_if_open, gone_node, node_of, open_node}
use Rattle.graph_nodes.specs.Words.{run_of, with_run, open_goal, AreHeld, HasNumber, is_held, IsGone, IsRising}
use Rattle.graph_nodes.specs.Words.{node_if_held, nodes_below, nodes_of, slot_at}
use Rattle.graph_nodes.proofs.NodeLists.{before, with_run-is}

-- lists with the same at all places
pub same_by_places : {A : Type 0} (xs ys : List A) → ((i : ℕ) → slice_get xs i ≡ slice_get ys i) → xs ≡ ys
same_by_places [] [] h = refl
same_by_places [] (y ∷ ys) h = let e : None ≡ Some y = h zero in absurd cc
same_by_places (x ∷ xs) [] h = let e : Some x ≡ None = h zero in absurd cc
same_by_places (x ∷ xs) (y ∷ ys) h =
    let e : Some x ≡ Some y = h zero in
    let first : x ≡ y = cc in
    ap₂ (λ z zs. z ∷ zs) first (same_by_places xs ys (λ i. h (suc i)))

pub some_goal : {I : Type 0} (first_goal : Option I) (input : I) → IsSome (option_or first_goal (Some input))
some_goal None input = refl
some_goal (Some goal) input = refl

some_and : {A : Type 0} (o : Option A) → IsSome o → IsSomeAnd o (λ x. Unit {0})
some_and None h = absurd (false≢true h)
some_and (Some x) h = tt

module _ {I R : Type 0} where
  -- ---- the slot of a number

  pub slot_here : (h : Held I R) (held : List (Held I R)) (number : ℕ) → h.number ≡ number
      → slot_at (h ∷ held) number ≡ Some h.slot
  slot_here h held number e = rw (eq-eqb h.number number e) refl

  pub slot_later : (h : Held I R) (held : List (Held I R)) (number : ℕ) → h.number ≢ number
      → slot_at (h ∷ held) number ≡ slot_at held number
  slot_later h held number ne = rw (ne_eqb h.number number ne) refl

  pub rising_later : (h : Held I R) (held : List (Held I R)) → IsRising (h ∷ held) → IsRising held
  rising_later h held rising =
      record { rises = λ i j a b lt is at. rising.rises (suc i) (suc j) a b (omega arith) is at }

  -- where the numbers rise, what is held is found
  pub slot_of : (held : List (Held I R)) → IsRising held → (i : ℕ) (h : Held I R) → slice_get held i ≡ Some h
      → slot_at held h.number ≡ Some h.slot
  slot_of [] rising i h is = absurd cc
  slot_of (k ∷ held) rising zero h is =
      let e : k ≡ h = cc in slot_here k held h.number (ap (λ x. x.number) e) ∙ ap (λ x. Some x.slot) e
  slot_of (k ∷ held) rising (suc i) h is =
      slot_later k held h.number
      (λ e. let lt : k.number < h.number = rising.rises zero (suc i) k h (omega arith) refl is in absurd (omega arith))
      ∙ slot_of held (rising_later k held rising) i h is

  -- what is found is held
  pub held_of : (held : List (Held I R)) (number : ℕ) (slot : Slot I R) → slot_at held number ≡ Some slot
      → (i : ℕ) × (h : Held I R) × (slice_get held i ≡ Some h) × (h.number ≡ number) × (h.slot ≡ slot)
  held_of [] number slot is = absurd cc
  held_of (k ∷ held) number slot is = elim (cases_eq k.number number) [
    | inl e ↦ let here : Some k.slot ≡ Some slot = sym (slot_here k held number e) ∙ is in (zero, k, refl, e, cc)
    | inr ne ↦
        let w = held_of held number slot (sym (slot_later k held number ne) ∙ is) in (suc w.0, w.1, w.2, w.3, w.4)
  ]

  none_or_some : (o : Option (Slot I R)) → (o ≡ None) ⊎ ((s : Slot I R) × (o ≡ Some s))
  none_or_some None = inl refl
  none_or_some (Some s) = inr (s, refl)

  -- a number that no node has is not held
  pub not_held : (held : List (Held I R)) (number : ℕ)
      → ((i : ℕ) (h : Held I R) → slice_get held i ≡ Some h → h.number ≢ number) → slot_at held number ≡ None
  not_held held number none = elim (none_or_some (slot_at held number)) [
    | inl e ↦ e
    | inr s ↦ let w = held_of held number s.0 s.1 in absurd (none w.0 w.1 w.2 w.3)
  ]

  -- ---- the node of a number

  pub length-nodes_below : (goal : I) (held : List (Held I R)) (n : ℕ) → length (nodes_below goal held n) ≡ n
  length-nodes_below goal held zero = refl
  length-nodes_below goal held (suc n) =
      length-append (nodes_below goal held n) (node_if_held goal (slot_at held n) ∷ [])
      ∙ (ap (λ m. m + 1) (length-nodes_below goal held n) ∙ omega arith)

  pub get_below : (goal : I) (held : List (Held I R)) (n i : ℕ) → i < n
      → slice_get (nodes_below goal held n) i ≡ Some (node_if_held goal (slot_at held i))
  get_below goal held zero i lt = absurd (omega arith)
  get_below goal held (suc n) i lt = elim (cases_lt i n) [
    | inl less ↦
        get_left (nodes_below goal held n) (node_if_held goal (slot_at held n) ∷ []) i _ (get_below goal held n i less)
    | inr ge ↦
        let e : i ≡ n = omega arith in
        subst (λ j. slice_get (nodes_below goal held (suc n)) j ≡ Some (node_if_held goal (slot_at held j))) (sym e)
        (ap (slice_get (nodes_below goal held (suc n))) (sym (length-nodes_below goal held n))
        ∙ get_end (nodes_below goal held n) (node_if_held goal (slot_at held n)))
  ]

  pub get_past : (goal : I) (held : List (Held I R)) (n i : ℕ) → n ≤ i → slice_get (nodes_below goal held n) i ≡ None
  get_past goal held n i le = slice_get_past (nodes_below goal held n) i (omega (arith, length-nodes_below goal held n))

  pub same_below : (goal : I) (held more : List (Held I R)) (n : ℕ)
      → ((i : ℕ) → i < n → slot_at held i ≡ slot_at more i) → nodes_below goal held n ≡ nodes_below goal more n
  same_below goal held more zero same = refl
  same_below goal held more (suc n) same =
      ap₂ (λ l o. l ++ node_if_held goal o ∷ [])
      (same_below goal held more n (λ i lt. same i (omega arith))) (same n (omega arith))

  -- ---- one more node

  module _ (held : List (Held I R)) (h : Held I R)
      (below : (i : ℕ) (k : Held I R) → slice_get held i ≡ Some k → k.number < h.number) where
    pub rising_pushed : IsRising held → IsRising (held ++ h ∷ [])
    rising_pushed rising = record {
      rises = λ i j a b lt is at. elim (get_cases held h j b at) [
        | inl old ↦ elim (get_cases held h i a is) [
          | inl first ↦ rising.rises i j a b lt first old
          | inr e ↦ absurd (omega (arith, e.0, slice_get_within held j b old))
        ]
        | inr new ↦ elim (get_cases held h i a is) [
          | inl first ↦ subst (λ x. a.number < x.number) new.1 (below i a first)
          | inr e ↦ absurd (omega (arith, e.0, new.0))
        ]
      ];
    }

    slot_pushed_here : slot_at (held ++ h ∷ []) h.number ≡ Some h.slot
    slot_pushed_here = pushed_here held below
      where
        pushed_here : (list : List (Held I R))
            → ((i : ℕ) (k : Held I R) → slice_get list i ≡ Some k → k.number < h.number)
            → slot_at (list ++ h ∷ []) h.number ≡ Some h.slot
        pushed_here [] less = slot_here h [] h.number refl
        pushed_here (k ∷ list) less =
            slot_later k (list ++ h ∷ []) h.number
            (λ e. let lt : k.number < h.number = less zero k refl in absurd (omega arith))
            ∙ pushed_here list (λ i x is. less (suc i) x is)

    slot_pushed_other : (number : ℕ) → h.number ≢ number → slot_at (held ++ h ∷ []) number ≡ slot_at held number
    slot_pushed_other number ne = pushed_other held
      where
        pushed_other : (list : List (Held I R)) → slot_at (list ++ h ∷ []) number ≡ slot_at list number
        pushed_other [] = slot_later h [] number ne
        pushed_other (k ∷ list) = ap (λ o. if k.number == number then Some k.slot else o) (pushed_other list)

    pub nodes_pushed : (goal : I)
        → nodes_below goal (held ++ h ∷ []) (h.number + 1) ≡ nodes_below goal held h.number ++ node_of h.slot ∷ []
    nodes_pushed goal = rw add-one
        (ap₂ (λ l o. l ++ node_if_held goal o ∷ [])
        (same_below goal (held ++ h ∷ []) held h.number (λ i lt. slot_pushed_other i (λ e. absurd (omega arith))))
        slot_pushed_here)

  -- ---- one node is replaced

  module _ (h : Held I R) where
    slot_set_here : (held : List (Held I R)) (i : ℕ) (k : Held I R) → IsRising held → slice_get held i ≡ Some k
        → k.number ≡ h.number → slot_at (slice_set held i h) h.number ≡ Some h.slot
    slot_set_here [] i k rising is e = absurd cc
    slot_set_here (x ∷ held) zero k rising is e = slot_here h held h.number refl
    slot_set_here (x ∷ held) (suc i) k rising is e =
        slot_later x (slice_set held i h) h.number (λ same.
        let lt : x.number < k.number = rising.rises zero (suc i) x k (omega arith) refl is in absurd (omega arith))
        ∙ slot_set_here held i k (rising_later x held rising) is e

    slot_set_other : (held : List (Held I R)) (i : ℕ) (k : Held I R) (number : ℕ) → slice_get held i ≡ Some k
        → k.number ≡ h.number → h.number ≢ number → slot_at (slice_set held i h) number ≡ slot_at held number
    slot_set_other [] i k number is e ne = absurd cc
    slot_set_other (x ∷ held) zero k number is e ne =
        let same : x ≡ k = cc in
        slot_later h held number ne
        ∙ sym (slot_later x held number (λ at. ne (sym e ∙ (ap (λ y. y.number) (sym same) ∙ at))))
    slot_set_other (x ∷ held) (suc i) k number is e ne =
        ap (λ o. if x.number == number then Some x.slot else o) (slot_set_other held i k number is e ne)

    -- what stands at a place after a write is the new node, or has the same number as before
    number_before : (held : List (Held I R)) (i : ℕ) (k : Held I R) → slice_get held i ≡ Some k → k.number ≡ h.number
        → (j : ℕ) (b : Held I R) → slice_get (slice_set held i h) j ≡ Some b
        → (a : Held I R) × (slice_get held j ≡ Some a) × (a.number ≡ b.number)
    number_before held i k is e j b at = elim (cases_eq j i) [
      | inl same ↦
          let there : Some h ≡ Some b =
          sym (get_set_same held i k h is) ∙ (ap (slice_get (slice_set held i h)) (sym same) ∙ at) in
          let new : h ≡ b = cc in
          (k, ap (slice_get held) same ∙ is, e ∙ ap (λ x. x.number) new)
      | inr other ↦ (b, sym (get_set_other held i h j other) ∙ at, refl)
    ]

    pub AreHeld-set : (first_goal : Option I) (held : List (Held I R)) (next i : ℕ) (k : Held I R)
        → slice_get held i ≡ Some k → k.number ≡ h.number → AreHeld first_goal held next
        → AreHeld first_goal (slice_set held i h) next
    AreHeld-set first_goal held next i k is e are = record {
      rising = record {
        rises = λ a b x y lt at there.
            let p = number_before held i k is e a x at in
            let q = number_before held i k is e b y there in
            let less : p.0.number < q.0.number = are.rising.rises a b p.0 q.0 lt p.1 q.1 in
            omega (arith, p.2, q.2);
      };
      below = λ a x at.
          let p = number_before held i k is e a x at in
          let less : p.0.number < next = are.below a p.0 p.1 in
          omega (arith, p.2);
      opened = are.opened;
    }

    pub nodes_set : (goal : I) (held : List (Held I R)) (n i : ℕ) (k : Held I R) → IsRising held
        → slice_get held i ≡ Some k → k.number ≡ h.number → h.number < n
        → nodes_below goal (slice_set held i h) n ≡ slice_set (nodes_below goal held n) h.number (node_of h.slot)
    nodes_set goal held n i k rising is e lt = same_by_places _ _ (λ j. elim (cases_lt j n) [
      | inl less ↦ elim (cases_eq h.number j) [
        | inl same ↦
            get_below goal (slice_set held i h) n j less
            ∙ (ap (λ x. Some (node_if_held goal (slot_at (slice_set held i h) x))) (sym same)
            ∙ (ap (λ o. Some (node_if_held goal o)) (slot_set_here held i k rising is e)
            ∙ (sym (get_set_same (nodes_below goal held n) h.number _ (node_of h.slot)
            (get_below goal held n h.number lt))
            ∙ ap (slice_get (slice_set (nodes_below goal held n) h.number (node_of h.slot))) same)))
        | inr other ↦
            get_below goal (slice_set held i h) n j less
            ∙ (ap (λ o. Some (node_if_held goal o)) (slot_set_other held i k j is e other)
            ∙ (sym (get_below goal held n j less)
            ∙ sym (get_set_other (nodes_below goal held n) h.number (node_of h.slot) j (λ x. other (sym x)))))
      ]
      | inr ge ↦
          get_past goal (slice_set held i h) n j ge
          ∙ (sym (get_past goal held n j ge)
          ∙ sym (get_set_other (nodes_below goal held n) h.number (node_of h.slot) j (λ x. absurd (omega arith))))
    ])

  -- ---- the whole list

  none_given : (held : List (Held I R)) (next : ℕ) → AreHeld None held next → next ≡ zero
  none_given held zero are = refl
  none_given held (suc n) are = absurd (false≢true (are.opened (omega arith)))

  pub length-nodes_of : (first_goal : Option I) (held : List (Held I R)) (next : ℕ) → AreHeld first_goal held next
      → length (nodes_of first_goal held next) ≡ next
  length-nodes_of None held next are = sym (none_given held next are)
  length-nodes_of (Some goal) held next are = length-nodes_below goal held next

  module _ (first_goal : Option I) (held : List (Held I R)) (next : ℕ) (are : AreHeld first_goal held next)
      (h : Held I R) (number : h.number ≡ next) where
    pub below_pushed : (i : ℕ) (k : Held I R) → slice_get held i ≡ Some k → k.number < h.number
    below_pushed i k is = let lt : k.number < next = are.below i k is in omega arith

    pub AreHeld-pushed : (goals : Option I) (more : ℕ) → IsSome goals → more ≡ next + 1
        → AreHeld goals (held ++ h ∷ []) more
    AreHeld-pushed goals more some is = record {
      rising = rising_pushed held h below_pushed are.rising;
      below = λ i k at. elim (get_cases held h i k at) [
        | inl old ↦ let lt : k.number < next = are.below i k old in omega arith
        | inr new ↦ let e : h.number ≡ k.number = ap (λ x. x.number) new.1 in omega arith
      ];
      opened = λ lt. some;
    }

  pub nodes_of-pushed : (first_goal : Option I) (held : List (Held I R)) (next : ℕ) → AreHeld first_goal held next
      → (h : Held I R) → h.number ≡ next → (input : I) (more : ℕ) → more ≡ next + 1
      → nodes_of (option_or first_goal (Some input)) (held ++ h ∷ []) more
      ≡ nodes_of first_goal held next ++ node_of h.slot ∷ []
  nodes_of-pushed None held next are h number input more is =
      let zero_is : h.number ≡ zero = number ∙ none_given held next are in
      ap (nodes_below input (held ++ h ∷ [])) (is ∙ ap (λ n. n + 1) (sym number))
      ∙ (nodes_pushed held h (below_pushed None held next are h number) input
      ∙ ap (λ n. nodes_below input held n ++ node_of h.slot ∷ []) zero_is)
  nodes_of-pushed (Some goal) held next are h number input more is =
      ap (nodes_below goal (held ++ h ∷ [])) (is ∙ ap (λ n. n + 1) (sym number))
      ∙ (nodes_pushed held h (below_pushed (Some goal) held next are h number) goal
      ∙ ap (λ n. nodes_below goal held n ++ node_of h.slot ∷ []) number)

  -- ---- what is held of the list

  pub not_held_is_gone : (first_goal : Option I) (held : List (Held I R)) (next : ℕ) (number : ℕ)
      → slot_at held number ≡ None → IsGone (slice_get (nodes_of first_goal held next) number)
  not_held_is_gone None held next number none = tt
  not_held_is_gone (Some goal) held next number none = elim (cases_lt number next) [
    | inl lt ↦
        subst IsGone (sym (get_below goal held next number lt ∙ ap (λ o. Some (node_if_held goal o)) none)) (refl, refl)
    | inr ge ↦ subst IsGone (sym (get_past goal held next number ge)) tt
  ]

  -- what is held is the node of its number
  pub held_is_there : (first_goal : Option I) (held : List (Held I R)) (next : ℕ) → AreHeld first_goal held next
      → (place : ℕ) (h : Held I R) → slice_get held place ≡ Some h
      → slice_get (nodes_of first_goal held next) h.number ≡ Some (node_of h.slot)
  held_is_there None held next are place h is =
      let lt : h.number < next = are.below place h is in absurd (omega (arith, none_given held next are))
  held_is_there (Some goal) held next are place h is =
      get_below goal held next h.number (are.below place h is)
      ∙ ap (λ o. Some (node_if_held goal o)) (slot_of held are.rising place h is)

  open_case : (goal : I) (o : Option (Slot I R)) → o ≡ None → goal_if_open (node_if_held goal o) ≡ None
  open_case goal None e = refl
  open_case goal (Some s) e = absurd cc

  -- an open node is held
  pub open_is_held : (first_goal : Option I) (held : List (Held I R)) (next : ℕ) (number : ℕ)
      → IsSome (open_goal (nodes_of first_goal held next) number) → slot_at held number ≡ None → ⊥
  open_is_held None held next number is none = false≢true is
  open_is_held (Some goal) held next number is none = elim (cases_lt number next) [
    | inl lt ↦ false≢true (subst (λ (o : Option I). IsSome o)
        (ap (λ o. elim o [ None ↦ None | Some n ↦ goal_if_open n ]) (get_below goal held next number lt)
        ∙ open_case goal (slot_at held number) none) is)
    | inr ge ↦ false≢true (subst (λ (o : Option I). IsSome o)
        (ap (λ o. elim o [ None ↦ None | Some n ↦ goal_if_open n ]) (get_past goal held next number ge)) is)
  ]

  -- an open node is finished
  module _ (held : List (Held I R)) (next i : ℕ) (k : Held I R) (is : slice_get held i ≡ Some k) (number : ℕ)
      (same : k.number ≡ number) (n : Node I R) (input : n.input ≡ (node_of k.slot).goal) where
    pub AreHeld-ended : (first_goal : Option I) → AreHeld first_goal held next
        → AreHeld first_goal (slice_set held i (record { number = number; slot = Finished n })) next
    AreHeld-ended first_goal are =
        AreHeld-set (record { number = number; slot = Finished n }) first_goal held next i k is same are

    pub nodes_of-ended : (first_goal : Option I) → AreHeld first_goal held next
        → IsSome (open_goal (nodes_of first_goal held next) number)
        → nodes_of first_goal (slice_set held i (record { number = number; slot = Finished n })) next
        ≡ with_run (nodes_of first_goal held next) number (run_of n)
    nodes_of-ended None are is_open = absurd (false≢true is_open)
    nodes_of-ended (Some goal) are is_open =
        let below : k.number < next = are.below i k is in
        let nodes = nodes_below goal held next in
        let P : I → Type 0 = λ g. Unit {0} in
        let opened = some_and (open_goal nodes number) is_open in
        let was = before nodes number (run_of n) P opened in
        let slot : slot_at held number ≡ Some k.slot = ap (slot_at held) (sym same) ∙ slot_of held are.rising i k is in
        let both : Some was.0 ≡ Some (node_of k.slot) =
        sym was.1 ∙ (get_below goal held next number (omega arith) ∙ ap (λ o. Some (node_if_held goal o)) slot) in
        let one : was.0 ≡ node_of k.slot = cc in
        nodes_set (record { number = number; slot = Finished n }) goal held next i k are.rising is same (omega arith)
        ∙ (ap (λ g. slice_set nodes number (record { goal = g; run = Some (run_of n); gone = false }))
        (input ∙ sym (ap (λ m. m.goal) one))
        ∙ (ap (λ gone. slice_set nodes number (record { goal = was.0.goal; run = Some (run_of n); gone = gone }))
        (sym was.4)
        ∙ sym (with_run-is nodes number (run_of n) P opened)))

-- ---- the same of fields and values as the code has them

module _ {I R : Type 0} (first_goal : Option I) (held : List (Held I R)) (next : ℕ) (nodes : List (CacheNode I R))
    (are : AreHeld first_goal held next) (view : nodes_of first_goal held next ≡ nodes) where
  module _ (input : I) (goals : Option I) (items : List (Held I R)) (more : ℕ)
      (goals_is : goals ≡ option_or first_goal (Some input))
      (items_is : items ≡ held ++ record { number = next; slot = Open input } ∷ []) (more_is : more ≡ next + 1) where
    pub pushed_are_held : AreHeld goals items more
    pushed_are_held =
        subst₂ (λ g l. AreHeld g l more) (sym goals_is) (sym items_is)
        (AreHeld-pushed first_goal held next are (record { number = next; slot = Open input }) refl
        (option_or first_goal (Some input)) more (some_goal first_goal input) more_is)

    pub pushed_is : nodes_of goals items more ≡ nodes ++ open_node input ∷ []
    pushed_is =
        ap₂ (λ g l. nodes_of g l more) goals_is items_is
        ∙ (nodes_of-pushed first_goal held next are
        (record { number = next; slot = Open input }) refl input more more_is
        ∙ ap (λ l. l ++ open_node input ∷ []) view)

  pub next_is : next ≡ length nodes
  next_is = sym (length-nodes_of first_goal held next are) ∙ ap length view

  module _ (number : ℕ) where
    pub nothing_there : slot_at held number ≡ None → IsGone (slice_get nodes number)
    nothing_there none =
        subst (λ l. IsGone (slice_get l number)) view (not_held_is_gone first_goal held next number none)

    pub open_has_place : IsSome (open_goal nodes number) → slot_at held number ≡ None → ⊥
    open_has_place is_open none =
        open_is_held first_goal held next number (subst (λ l. IsSome (open_goal l number)) (sym view) is_open) none

    module _ (place : ℕ) (has : HasNumber held place number) where
      pub has_place : place < length held
      has_place =
          let w = mapped_some (λ h. h.number) (slice_get held place) number has in slice_get_within held place w.0 w.1

      module _ (h : Held I R) (read : h ≡ get_or held place h) where
        pub is_there : slice_get held place ≡ Some h
        is_there = slice_get_read held (length held) place h refl has_place read

        pub number_is : h.number ≡ number
        number_is = let w = mapped_some (λ x. x.number) (slice_get held place) number has in
            let both : Some w.0 ≡ Some h = sym w.1 ∙ is_there in let one : w.0 ≡ h = cc in
            sym (ap (λ x. x.number) one) ∙ w.2

        pub something_there : slice_get nodes number ≡ Some (node_of h.slot)
        something_there =
            ap (λ l. slice_get l number) (sym view) ∙ (ap (slice_get (nodes_of first_goal held next)) (sym number_is)
            ∙ held_is_there first_goal held next are place h is_there)

        module _ (n : Node I R) (input : n.input ≡ (node_of h.slot).goal) where
          pub ended_are_held : AreHeld first_goal
              (slice_set held place (record { number = number; slot = Finished n })) next
          ended_are_held = AreHeld-ended held next place h is_there number number_is n input first_goal are

          pub ended_is : IsSome (open_goal nodes number)
              → nodes_of first_goal (slice_set held place (record { number = number; slot = Finished n })) next
              ≡ with_run nodes number (run_of n)
          ended_is is_open =
              nodes_of-ended held next place h is_there number number_is n input first_goal are
              (subst (λ l. IsSome (open_goal l number)) (sym view) is_open)
              ∙ ap (λ l. with_run l number (run_of n)) view

  pub found_case : (number : ℕ) (items : List (Held I R)) (found : Option ℕ)
      → MatchOption found (slot_at items number ≡ None) (λ place. HasNumber items place number)
      → (slot_at items number ≡ None → ⊥) → IsSome found
  found_case number items None is some = absurd (some is)
  found_case number items (Some place) is some = refl

  -- the place of an open node is found
  pub found_place : (number : ℕ) (items : List (Held I R)) → items ≡ held → (found : Option ℕ)
      → MatchOption found (slot_at items number ≡ None) (λ place. HasNumber items place number)
      → IsSome (open_goal nodes number) → IsSome found
  found_place number items same found is is_open = found_case number items found is
      (λ none. open_has_place number is_open (ap (λ l. slot_at l number) (sym same) ∙ none))

pub numbered_within : {I R : Type 0} (held : List (Held I R)) (place number : ℕ)
    → HasNumber held place number → place < length held
numbered_within held place number has =
    let w = mapped_some (λ h. h.number) (slice_get held place) number has in slice_get_within held place w.0 w.1

pub place_found : {I R : Type 0} (held : List (Held I R)) (number : ℕ) (items : List (Held I R)) → items ≡ held
    → (found : Option ℕ) → MatchOption found (slot_at items number ≡ None) (λ place. HasNumber items place number)
    → (place : ℕ) → found ≡ Some place → HasNumber held place number
place_found held number items same found is place found_is =
    subst (λ l. HasNumber l place number) same (MatchOption-at_some _ _ place found_is is)

-- ---- how many are held

abbrev times : Bool → ℕ
times b = cond b 1 0

count_pushed : {A : Type 0} (p : A → Bool) (xs : List A) (y : A)
    → count_by p (xs ++ y ∷ []) ≡ count_by p xs + times (p y)
count_pushed p xs y = sum_by_push (λ x. cond (p x) 1 0) xs y

module _ {I : Type 0} (R : Type 0) (goal : I) where
  none_counted : (n : ℕ) → count_by is_held (nodes_below {R = R} goal [] n) ≡ zero
  none_counted zero = refl
  none_counted (suc n) =
      count_pushed is_held (nodes_below {R = R} goal [] n) (gone_node goal) ∙ omega (arith, none_counted n)

module _ {I R : Type 0} (goal : I) where
  held_counts : (s : Slot I R) → times (is_held (node_of s)) ≡ 1
  held_counts (Open input) = refl
  held_counts (Finished n) = refl

  counts : Option (Slot I R) → ℕ
  counts o = times (is_held (node_if_held goal o))

  -- the node of a new number counts once
  counted_once : (h : Held I R) (held : List (Held I R)) → slot_at held h.number ≡ None → (n : ℕ) → h.number < n
      → count_by is_held (nodes_below goal (h ∷ held) n) ≡ count_by is_held (nodes_below goal held n) + 1
  unfolding counts
  counted_once h held none zero lt = absurd (omega arith)
  counted_once h held none (suc n) lt = elim (cases_eq h.number n) [
    | inl e ↦
        count_pushed is_held (nodes_below goal (h ∷ held) n) (node_if_held goal (slot_at (h ∷ held) n))
        ∙ (ap₂ (λ l o. count_by is_held l + counts o) (same_below goal (h ∷ held) held n
        (λ i less. slot_later h held i (λ at. absurd (omega arith)))) (slot_here h held n e)
        ∙ (ap (λ m. count_by is_held (nodes_below goal held n) + m) (held_counts h.slot)
        ∙ ap (λ m. m + 1) (sym (count_pushed is_held (nodes_below goal held n) (node_if_held goal (slot_at held n))
        ∙ (ap (λ o. count_by is_held (nodes_below goal held n) + counts o) (ap (slot_at held) (sym e) ∙ none)
        ∙ add-zero _)))))
    | inr ne ↦
        count_pushed is_held (nodes_below goal (h ∷ held) n) (node_if_held goal (slot_at (h ∷ held) n))
        ∙ (ap₂ (λ m o. m + counts o) (counted_once h held none n (omega arith)) (slot_later h held n ne)
        ∙ (omega arith
        ∙ ap (λ m. m + 1) (sym (count_pushed is_held (nodes_below goal held n) (node_if_held goal (slot_at held n))))))
  ]

  pub counted : (held : List (Held I R)) (n : ℕ) → IsRising held
      → ((i : ℕ) (h : Held I R) → slice_get held i ≡ Some h → h.number < n)
      → count_by is_held (nodes_below goal held n) ≡ length held
  counted [] n rising below = none_counted R goal n
  counted (h ∷ held) n rising below =
      let none : slot_at held h.number ≡ None = not_held held h.number (λ i k is e.
      let lt : h.number < k.number = rising.rises zero (suc i) h k (omega arith) refl is in absurd (omega arith)) in
      omega (
        arith,
        counted_once h held none n (below zero h refl),
        counted held n (rising_later h held rising) (λ i k is. below (suc i) k is),
      )

pub held_count_is :
    {I R : Type 0} (first_goal : Option I) (held : List (Held I R)) (next : ℕ) (nodes : List (CacheNode I R))
    → AreHeld first_goal held next → nodes_of first_goal held next ≡ nodes → length held ≡ count_by is_held nodes
held_count_is None [] next nodes are view = ap (count_by is_held) view
held_count_is None (h ∷ held) next nodes are view =
    let lt : h.number < next = are.below zero h refl in absurd (omega (arith, none_given (h ∷ held) next are))
held_count_is (Some goal) held next nodes are view =
    sym (counted goal held next are.rising are.below) ∙ ap (count_by is_held) view
