-- What a candidate used is taken away head by head.
use Rattle.std.proofs.Common.{◌≡◌, ◌≢◌, ◌==◌, if◌then◌else◌, Bool, true, false, ◌||◌, is_some, [], ◌∷◌, Option, Some}
use Rattle.std.proofs.Common.{None, option_map, refl, sym, ap, ◌∙◌, subst, inl, inr, ne_eqb, eq-eqb}
use Rattle.std.specs.Option.{IsSomeAnd}
use Rattle.std.proofs.lemmas.Bool.{cases_eq}
use Rattle.open_goals.specs.Below.{StackDepth, CycleHead, HeadUsages, EntryState, UsagesByHead, Heads}
use Rattle.open_goals.specs.Below.{at_depth, without_usages}
use Rattle.cycle_heads.proofs.HeadLists.{at_depth-first, at_depth-rest, at_depth-set_same, at_depth-set_other}
use Rattle.goal_changes.specs.Words.{some_heads, is_in_cycle, less_usages, less_head, with_replaced, usages_at}
use Rattle.goal_changes.specs.Words.{without_head, CanIgnore, Covers}

-- a head that may be replaced is found at its depth, and other depths keep what they have
replaced_same : (heads : Heads) (depth : StackDepth) (f : CycleHead → CycleHead) (o : Option CycleHead)
    → at_depth heads depth ≡ o → at_depth (with_replaced heads depth (option_map f o)) depth ≡ option_map f o
replaced_same heads depth f None is = is
replaced_same heads depth f (Some known) is = at_depth-set_same depth (f known) heads (ap is_some is)

replaced_other : (heads : Heads) (depth : StackDepth) (o : Option CycleHead) (other : StackDepth) → other.0 ≢ depth.0
    → at_depth (with_replaced heads depth o) other ≡ at_depth heads other
replaced_other heads depth None other ne = refl
replaced_other heads depth (Some head) other ne = at_depth-set_other depth head heads other ne

-- as many heads as before
some_cond : (b : Bool) (e f : StackDepth × CycleHead) (es fs : Heads) → some_heads (if b then e ∷ es else f ∷ fs) ≡ true
some_cond true e f es fs = refl
some_cond false e f es fs = refl

some_replaced : (heads : Heads) (depth : StackDepth) (o : Option CycleHead)
    → some_heads (with_replaced heads depth o) ≡ some_heads heads
some_replaced heads depth None = refl
some_replaced [] depth (Some head) = refl
some_replaced (e ∷ es) depth (Some head) = some_cond _ _ _ _ _

some_mapped : {A B : Type 0} (f : A → B) (o : Option A) → is_some (option_map f o) ≡ is_some o
some_mapped f None = refl
some_mapped f (Some x) = refl

-- nothing is taken away
pub usages_left : (own : Option HeadUsages) → option_map (λ u. less_usages u None) own ≡ own
usages_left None = refl
usages_left (Some u) = refl

head_left : (known : Option CycleHead) → option_map (less_head None) known ≡ known
head_left None = refl
head_left (Some known) = refl

module _ (parent : StackDepth) where
  -- what is at a depth once what the rest of a candidate used is taken away, too
  abbrev pub left_at : StackDepth → Option CycleHead → Option HeadUsages → Option CycleHead
  left_at depth own used = if depth.0 == parent.0 then own else option_map (less_head used) own

  module _ {X I R A T : Type 0} (head : StackDepth) (usages : HeadUsages) (rest : UsagesByHead)
      (once : at_depth rest head ≡ None) (s : EntryState X I R A T) where
    heads_here : (depth : StackDepth) → depth.0 ≢ head.0
        → at_depth (without_head parent head usages s).heads depth ≡ at_depth s.heads depth
    heads_here depth apart = elim (cases_eq head.0 parent.0) [
      | inl own ↦ rw (eq-eqb head.0 parent.0 own) refl
      | inr other ↦ rw (ne_eqb head.0 parent.0 other)
          (replaced_other s.heads head (option_map (less_head (Some usages)) (at_depth s.heads head)) depth apart)
    ]

    -- one head less is left
    pub head_ignored : (depth : StackDepth)
        → left_at depth (at_depth (without_head parent head usages s).heads depth) (at_depth rest depth)
        ≡ left_at depth (at_depth s.heads depth) (at_depth ((head, usages) ∷ rest) depth)
    head_ignored depth = elim (cases_eq depth.0 head.0) [
      | inl same ↦ elim (cases_eq head.0 parent.0) [
        | inl own ↦ rw (eq-eqb depth.0 parent.0 (same ∙ own), eq-eqb head.0 parent.0 own) refl
        | inr other ↦
            let here : head ≡ depth = λ i. record { 0 = sym same i } in
            subst (λ d. left_at d (at_depth (without_head parent head usages s).heads d) (at_depth rest d)
            ≡ left_at d (at_depth s.heads d) (at_depth ((head, usages) ∷ rest) d)) here
            (rw (ne_eqb head.0 parent.0 other)
            (ap (λ o. option_map (less_head (at_depth rest head)) o)
            (replaced_same s.heads head (less_head (Some usages)) (at_depth s.heads head) refl)
            ∙ ap (λ u. option_map (less_head u) (option_map (less_head (Some usages)) (at_depth s.heads head))) once
            ∙ head_left (option_map (less_head (Some usages)) (at_depth s.heads head))
            ∙ sym (ap (λ u. option_map (less_head u) (at_depth s.heads head)) (at_depth-first head usages rest))))
      ]
      | inr apart ↦
          ap (λ o. left_at depth o (at_depth rest depth)) (heads_here depth apart)
          ∙ ap (left_at depth (at_depth s.heads depth)) (sym (at_depth-rest head depth usages rest apart))
    ]

    own_usages : head.0 ≡ parent.0
        → (without_head parent head usages s).usages ≡ option_map (λ own. without_usages own usages) s.usages
    own_usages own = rw (eq-eqb head.0 parent.0 own) refl

    other_usages : head.0 ≢ parent.0 → (without_head parent head usages s).usages ≡ s.usages
    other_usages other = rw (ne_eqb head.0 parent.0 other) refl

    pub usages_ignored :
        option_map (λ own. less_usages own (at_depth rest parent)) (without_head parent head usages s).usages
        ≡ option_map (λ own. less_usages own (at_depth ((head, usages) ∷ rest) parent)) s.usages
    usages_ignored = elim (cases_eq head.0 parent.0) [
      | inl own ↦
          let here : head ≡ parent = λ i. record { 0 = own i } in
          ap (λ u. option_map (λ o. less_usages o (at_depth rest parent)) u) (own_usages own)
          ∙ ap (λ u. option_map (λ o. less_usages o u) (option_map (λ o. without_usages o usages) s.usages))
          (ap (at_depth rest) (sym here) ∙ once)
          ∙ usages_left (option_map (λ o. without_usages o usages) s.usages)
          ∙ sym (ap (λ u. option_map (λ o. less_usages o u) s.usages)
          (ap (at_depth ((head, usages) ∷ rest)) (sym here) ∙ at_depth-first head usages rest))
      | inr other ↦
          ap (λ u. option_map (λ o. less_usages o (at_depth rest parent)) u) (other_usages other)
          ∙ ap (λ u. option_map (λ o. less_usages o u) s.usages)
          (sym (at_depth-rest head parent usages rest (λ e. other (sym e))))
    ]

    pub cycle_stays : is_in_cycle (without_head parent head usages s) ≡ is_in_cycle s
    cycle_stays = elim (cases_eq head.0 parent.0) [
      | inl own ↦ rw (eq-eqb head.0 parent.0 own)
          (ap (λ b. b || some_heads s.heads) (some_mapped (λ o. without_usages o usages) s.usages))
      | inr other ↦ rw (ne_eqb head.0 parent.0 other) (ap (λ b. is_some s.usages || b)
          (some_replaced s.heads head (option_map (less_head (Some usages)) (at_depth s.heads head))))
    ]

    pub others_kept : (initial : EntryState X I R A T) → s ≡ record initial { heads = s.heads; usages = s.usages }
        → without_head parent head usages s ≡ record initial {
          heads = (without_head parent head usages s).heads;
          usages = (without_head parent head usages s).usages;
        }
    others_kept initial same = elim (cases_eq head.0 parent.0) [
      | inl own ↦ rw (eq-eqb head.0 parent.0 own) (ap
          (λ (t : EntryState X I R A T). record t { usages = option_map (λ o. without_usages o usages) s.usages }) same)
      | inr other ↦ rw (ne_eqb head.0 parent.0 other) (ap (λ (t : EntryState X I R A T). record t {
        heads = with_replaced s.heads head (option_map (less_head (Some usages)) (at_depth s.heads head));
      }) same)
    ]

    -- of other goals the entry counts what it did
    others_count : (other : StackDepth) → other.0 ≢ head.0
        → usages_at parent (without_head parent head usages s) other ≡ usages_at parent s other
    others_count other ne = elim (cases_eq other.0 parent.0) [
      | inl own ↦ rw (eq-eqb other.0 parent.0 own) (other_usages (λ e. ne (own ∙ sym e)))
      | inr apart ↦
          rw (ne_eqb other.0 parent.0 apart) (ap (λ o. option_map (λ known. known.usages) o) (heads_here other ne))
    ]

    none_twice : {x : HeadUsages} (other : StackDepth) → at_depth rest other ≡ Some x → other.0 ≢ head.0
    none_twice other found same =
        let here : other ≡ head = λ i. record { 0 = same i } in
        let both : Some _ ≡ None = sym found ∙ ap (at_depth rest) here ∙ once in
        absurd cc

    -- the head can be ignored, and the rest after it
    pub first_counts : CanIgnore parent ((head, usages) ∷ rest) s
        → IsSomeAnd (usages_at parent s head) (λ counts. Covers counts usages)
    first_counts can = can head usages (at_depth-first head usages rest)

    pub rest_counts : CanIgnore parent ((head, usages) ∷ rest) s
        → CanIgnore parent rest (without_head parent head usages s)
    rest_counts can = λ other more found.
        let ne = none_twice other found in
        subst (λ o. IsSomeAnd o (λ counts. Covers counts more)) (sym (others_count other ne))
        (can other more (at_depth-rest head other usages rest ne ∙ found))
