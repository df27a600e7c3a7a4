-- The heads of an answer are taken over one by one.
use Rattle.std.proofs.Common.{◌≡◌, ◌≢◌, ◌==◌, if◌then◌else◌, Bool, true, false, ◌||◌, is_some, [], ◌∷◌, Option, Some}
use Rattle.std.proofs.Common.{None, option_map, unwrap_or, refl, sym, ap, ◌∙◌, subst, inl, inr, ne_eqb, eq-eqb}
use Rattle.std.proofs.Math.Bool.{or-false, or-true}
use Rattle.std.proofs.lemmas.Bool.{cases_eq}
use Rattle.open_goals.specs.Below.{PathKind, StackDepth, CycleHead, HeadUsages, EntryState, UsagesByHead, with_noted}
use Rattle.open_goals.specs.Below.{no_usages, with_nested, Heads, at_depth, joined_head, with_head, extended}
use Rattle.cycle_heads.proofs.HeadLists.{at_depth-first, at_depth-rest, at_depth-insert_same, at_depth-insert_other}
use Rattle.goal_changes.specs.Words.{some_heads, joined_over, usages_over, candidate_over, is_in_cycle}
use Rattle.goal_changes.specs.Words.{with_used_head, TakesHeads}

found_is_some : {x : CycleHead} (heads : Heads) (depth : StackDepth)
    → at_depth heads depth ≡ Some x → some_heads heads ≡ true
found_is_some [] depth found = absurd cc
found_is_some (h ∷ hs) depth found = refl

-- what the open candidate counts at a depth once the rest of an answer's heads are taken over, too
abbrev pub counted_over : StackDepth → Option UsagesByHead → Option CycleHead → Option (Option HeadUsages)
counted_over depth candidate used = option_map (λ counts. usages_over (at_depth counts depth) used) candidate

module _ (head : StackDepth) (used : CycleHead) (rest : Heads)
    (once : at_depth rest head ≡ None) (depth : StackDepth) where
  noted_taken : (counts : UsagesByHead)
      → usages_over (at_depth (with_noted counts head used.usages) depth) (at_depth rest depth)
      ≡ usages_over (at_depth counts depth) (at_depth ((head, used) ∷ rest) depth)
  noted_taken counts =
      let noted = with_nested (unwrap_or (at_depth counts head) no_usages) used.usages in
      elim (cases_eq depth.0 head.0) [
        | inl same ↦
            let here : head ≡ depth = λ i. record { 0 = sym same i } in
            subst (λ d. usages_over (at_depth (with_noted counts head used.usages) d) (at_depth rest d)
            ≡ usages_over (at_depth counts d) (at_depth ((head, used) ∷ rest) d)) here
            (ap (λ o. usages_over o (at_depth rest head)) (at_depth-insert_same head noted counts)
            ∙ ap (usages_over (Some noted)) once
            ∙ sym (ap (usages_over (at_depth counts head)) (at_depth-first head used rest)))
        | inr apart ↦
            ap (λ o. usages_over o (at_depth rest depth)) (at_depth-insert_other head noted counts depth apart)
            ∙ ap (usages_over (at_depth counts depth)) (sym (at_depth-rest head depth used rest apart))
      ]

  counts_taken : (candidate : Option UsagesByHead)
      → counted_over depth (candidate_over candidate head used) (at_depth rest depth)
      ≡ counted_over depth candidate (at_depth ((head, used) ∷ rest) depth)
  counts_taken None = refl
  counts_taken (Some counts) = ap Some (noted_taken counts)

module _ (parent : StackDepth) (step : PathKind) where
  -- what is at a depth once the rest of an answer's heads are taken over, too
  abbrev pub head_over : StackDepth → Option CycleHead → Option CycleHead → Option CycleHead
  head_over depth own used = if depth.0 == parent.0 then own else joined_over step own used

  module _ {X I R A T : Type 0} (head : StackDepth) (used : CycleHead) (rest : Heads)
      (once : at_depth rest head ≡ None) (s : EntryState X I R A T) where
    heads_here : (depth : StackDepth) → depth.0 ≢ head.0
        → at_depth (with_used_head parent step head used s).heads depth ≡ at_depth s.heads depth
    heads_here depth apart = elim (cases_eq head.0 parent.0) [
      | inl same ↦ rw (eq-eqb head.0 parent.0 same) refl
      | inr other ↦ rw (ne_eqb head.0 parent.0 other) (at_depth-insert_other head
          (joined_head (at_depth s.heads head) (extended used.paths_to_head step) used.usages) s.heads depth apart)
    ]

    -- one head less is left
    pub head_taken : (depth : StackDepth)
        → head_over depth (at_depth (with_used_head parent step head used s).heads depth) (at_depth rest depth)
        ≡ head_over depth (at_depth s.heads depth) (at_depth ((head, used) ∷ rest) depth)
    head_taken depth = elim (cases_eq depth.0 head.0) [
      | inl same ↦ elim (cases_eq head.0 parent.0) [
        | inl own ↦ rw (eq-eqb depth.0 parent.0 (same ∙ own), eq-eqb head.0 parent.0 own) refl
        | inr other ↦
            let here : head ≡ depth = λ i. record { 0 = sym same i } in
            subst (λ d. head_over d (at_depth (with_used_head parent step head used s).heads d) (at_depth rest d)
            ≡ head_over d (at_depth s.heads d) (at_depth ((head, used) ∷ rest) d)) here
            (rw (ne_eqb head.0 parent.0 other)
            (ap (λ o. joined_over step o (at_depth rest head)) (at_depth-insert_same head
            (joined_head (at_depth s.heads head) (extended used.paths_to_head step) used.usages) s.heads)
            ∙ ap (joined_over step
            (Some (joined_head (at_depth s.heads head) (extended used.paths_to_head step) used.usages))) once
            ∙ sym (ap (joined_over step (at_depth s.heads head)) (at_depth-first head used rest))))
      ]
      | inr apart ↦
          ap (λ o. head_over depth o (at_depth rest depth)) (heads_here depth apart)
          ∙ ap (head_over depth (at_depth s.heads depth)) (sym (at_depth-rest head depth used rest apart))
    ]

    own_usages : head.0 ≡ parent.0 → (with_used_head parent step head used s).usages ≡ usages_over s.usages (Some used)
    own_usages own = rw (eq-eqb head.0 parent.0 own) refl

    other_usages : head.0 ≢ parent.0 → (with_used_head parent step head used s).usages ≡ s.usages
    other_usages other = rw (ne_eqb head.0 parent.0 other) refl

    pub usages_taken : usages_over (with_used_head parent step head used s).usages (at_depth rest parent)
        ≡ usages_over s.usages (at_depth ((head, used) ∷ rest) parent)
    usages_taken = elim (cases_eq head.0 parent.0) [
      | inl own ↦
          let here : head ≡ parent = λ i. record { 0 = own i } in
          ap (λ u. usages_over u (at_depth rest parent)) (own_usages own)
          ∙ ap (usages_over (usages_over s.usages (Some used))) (ap (at_depth rest) (sym here) ∙ once)
          ∙ sym (ap (usages_over s.usages)
          (ap (at_depth ((head, used) ∷ rest)) (sym here) ∙ at_depth-first head used rest))
      | inr other ↦
          ap (λ u. usages_over u (at_depth rest parent)) (other_usages other)
          ∙ ap (usages_over s.usages) (sym (at_depth-rest head parent used rest (λ e. other (sym e))))
    ]

    in_cycle_at : is_in_cycle (with_used_head parent step head used s) ≡ true
    in_cycle_at = elim (cases_eq head.0 parent.0) [
      | inl own ↦ rw (eq-eqb head.0 parent.0 own) refl
      | inr other ↦ rw (ne_eqb head.0 parent.0 other)
          (ap (λ b. is_some s.usages || b) (found_is_some
          (with_head s.heads head (extended used.paths_to_head step) used.usages) head (at_depth-insert_same head
          (joined_head (at_depth s.heads head) (extended used.paths_to_head step) used.usages) s.heads))
          ∙ or-true (is_some s.usages))
    ]

    pub cycle_taken : (is_in_cycle (with_used_head parent step head used s) || some_heads rest)
        ≡ (is_in_cycle s || some_heads ((head, used) ∷ rest))
    cycle_taken = ap (λ b. b || some_heads rest) in_cycle_at ∙ sym (or-true (is_in_cycle s))

    candidate_here : (with_used_head parent step head used s).candidate_usages
        ≡ candidate_over s.candidate_usages head used
    candidate_here = elim (cases_eq head.0 parent.0) [
      | inl own ↦ rw (eq-eqb head.0 parent.0 own) refl
      | inr other ↦ rw (ne_eqb head.0 parent.0 other) refl
    ]

    pub candidate_taken : (depth : StackDepth)
        → counted_over depth (with_used_head parent step head used s).candidate_usages (at_depth rest depth)
        ≡ counted_over depth s.candidate_usages (at_depth ((head, used) ∷ rest) depth)
    candidate_taken depth = ap (λ o. counted_over depth o (at_depth rest depth)) candidate_here
        ∙ counts_taken head used rest once depth s.candidate_usages

    pub others_kept : (initial : EntryState X I R A T)
        → s ≡ record initial { heads = s.heads; usages = s.usages; candidate_usages = s.candidate_usages }
        → with_used_head parent step head used s ≡ record initial {
          heads = (with_used_head parent step head used s).heads;
          usages = (with_used_head parent step head used s).usages;
          candidate_usages = (with_used_head parent step head used s).candidate_usages;
        }
    others_kept initial same = elim (cases_eq head.0 parent.0) [
      | inl own ↦ rw (eq-eqb head.0 parent.0 own) (ap (λ (t : EntryState X I R A T). record t {
        usages = usages_over s.usages (Some used);
        candidate_usages = candidate_over s.candidate_usages head used;
      }) same)
      | inr other ↦ rw (ne_eqb head.0 parent.0 other) (ap (λ (t : EntryState X I R A T). record t {
        heads = with_head s.heads head (extended used.paths_to_head step) used.usages;
        candidate_usages = candidate_over s.candidate_usages head used;
      }) same)
    ]

nothing_more : (b : Bool) (o : Option CycleHead) → o ≡ (if b then o else o)
nothing_more true o = refl
nothing_more false o = refl

no_more : (depth : StackDepth) (candidate : Option UsagesByHead)
    → counted_over depth candidate None ≡ option_map (λ counts. at_depth counts depth) candidate
no_more depth None = refl
no_more depth (Some counts) = refl

module _ {X I R A T : Type 0} (parent : StackDepth) (step : PathKind) where
  -- no head of the answer is left
  pub all_taken : (answer all left : Heads) (old new : EntryState X I R A T) → all ≡ answer → left ≡ []
      → new ≡ record old { heads = new.heads; usages = new.usages; candidate_usages = new.candidate_usages }
      → usages_over new.usages (at_depth left parent) ≡ usages_over old.usages (at_depth all parent)
      → ((depth : StackDepth) → head_over parent step depth (at_depth new.heads depth) (at_depth left depth)
      ≡ head_over parent step depth (at_depth old.heads depth) (at_depth all depth))
      → ((depth : StackDepth) → counted_over depth new.candidate_usages (at_depth left depth)
      ≡ counted_over depth old.candidate_usages (at_depth all depth))
      → (is_in_cycle new || some_heads left) ≡ (is_in_cycle old || some_heads all)
      → TakesHeads parent step answer old new
  all_taken answer all left old new whole none others usages heads in_candidate in_cycle = record {
    others = others;
    usages = ap (λ l. usages_over new.usages (at_depth l parent)) (sym none) ∙ usages
        ∙ ap (λ l. usages_over old.usages (at_depth l parent)) whole;
    heads = λ depth.
        nothing_more (depth.0 == parent.0) (at_depth new.heads depth)
        ∙ ap (λ l. head_over parent step depth (at_depth new.heads depth) (at_depth l depth)) (sym none)
        ∙ heads depth
        ∙ ap (λ l. head_over parent step depth (at_depth old.heads depth) (at_depth l depth)) whole;
    in_candidate = λ depth.
        sym (no_more depth new.candidate_usages)
        ∙ ap (λ l. counted_over depth new.candidate_usages (at_depth l depth)) (sym none)
        ∙ in_candidate depth
        ∙ ap (λ l. counted_over depth old.candidate_usages (at_depth l depth)) whole;
    in_cycle =
        sym (or-false (is_in_cycle new))
        ∙ ap (λ l. is_in_cycle new || some_heads l) (sym none)
        ∙ in_cycle
        ∙ ap (λ l. is_in_cycle old || some_heads l) whole;
  }

-- an answer with one head
module _ {X I R A T : Type 0} (parent : StackDepth) (step : PathKind) (head : StackDepth) (used : CycleHead)
    (old new : EntryState X I R A T) where
  one_at : TakesHeads parent step ((head, used) ∷ []) old (with_used_head parent step head used old)
  one_at = all_taken parent step ((head, used) ∷ []) ((head, used) ∷ []) [] old
      (with_used_head parent step head used old) refl refl
      (others_kept parent step head used [] refl old old refl)
      (usages_taken parent step head used [] refl old)
      (head_taken parent step head used [] refl old)
      (candidate_taken parent step head used [] refl old)
      (cycle_taken parent step head used [] refl old)

  pub one_taken : new ≡ with_used_head parent step head used old → TakesHeads parent step ((head, used) ∷ []) old new
  one_taken is = subst (TakesHeads parent step ((head, used) ∷ []) old) (sym is) one_at
