-- What a goal counts of the goals on the stack, when one of its finished candidates is ignored.
use Rattle.std.proofs.Common.{◌≡◌, ◌≢◌, ℕ, zero, suc, ◌+◌, ◌-◌, ◌^◌, ◌≤◌, List, [], ◌∷◌, ◌++◌, slice_get, slice_set}
use Rattle.std.proofs.Common.{Option, None, Some, option_map, is_some, IsSome, unwrap_or, refl, sym, ap, ◌∙◌, subst}
use Rattle.std.proofs.Common.{inl, inr, arith, ne_eqb, eq-eqb}
use Rattle.std.specs.List.{sum_by}
use Rattle.std.specs.Option.{IsSomeAnd}
use Rattle.std.proofs.lemmas.Bool.{cases_eq, false≢true}
use Rattle.std.proofs.lemmas.List.Sums.{sum_by-cons}
use Rattle.search_graph.specs.Below.{Includes, StackDepth, PathKind, CycleHead, HeadUsages, UsagesByHead, at_depth}
use Rattle.search_graph.specs.Below.{count_of, count_without, no_usages, EntryState, CanIgnore, Covers, Ignores}
use Rattle.search_graph.specs.Below.{less_head, less_usages, IsCovered, IsTallied, candidate_at, candidates_count}
use Rattle.search_graph.specs.Below.{counted, heads_of, tally_of, usages_of}
use Rattle.list_lemmas.proofs.Lists.{get_left, get_set_same}
use Rattle.cycle_heads.proofs.Counts.{count_of-usages_by}
use Rattle.search_rules.proofs.counts.Tallies.{Carries, KeepsPaths, candidate_within, carried, counted_by_place}
use Rattle.search_rules.proofs.counts.Tallies.{covered_still, covers_less, none_counted, of_kind, usages_in}

-- ---- counts

-- what covered some usages and those that are taken away covers the former still
abbrev IsLessened : ℕ → ℕ → ℕ → Type 0
IsLessened before less after = (m : ℕ) → IsCovered before (m + less) → IsCovered after m

lessened_same : (before less : ℕ) → IsLessened before less before
lessened_same before less m covers = covers_less before (m + less) m covers (omega arith)

lessened_count : (before less : ℕ) → IsLessened before less (count_without before less)
lessened_count before less m covers = elim (cases_eq before (2 ^ 32 - 1)) [
  | inl stuck ↦ inl (rw (eq-eqb before (2 ^ 32 - 1) stuck) stuck)
  | inr below ↦ rw (ne_eqb before (2 ^ 32 - 1) below)
      (elim covers [ inl stuck ↦ absurd (below stuck) | inr more ↦ inr (omega (arith, more)) ])
]

charge_covered : (count charge : ℕ) → IsCovered count charge → charge ≤ 2 ^ 32 - 1 → charge ≤ count
charge_covered count charge (inl stuck) bounded = omega (arith, stuck, bounded)
charge_covered count charge (inr covers) bounded = covers

-- ---- usages that are taken away

lessened_own : (own less : Option HeadUsages) (kind : PathKind) → IsLessened (of_kind own kind) (of_kind less kind)
    (of_kind (option_map (λ known. less_usages known less) own) kind)
lessened_own None less kind = lessened_same (count_of no_usages kind) (of_kind less kind)
lessened_own (Some own) None kind = lessened_same (count_of own kind) (count_of no_usages kind)
lessened_own (Some own) (Some less) kind =
    subst (IsLessened (count_of own kind) (count_of less kind))
    (sym (count_of-usages_by (λ k. count_without (count_of own k) (count_of less k)) kind))
    (lessened_count (count_of own kind) (count_of less kind))

less_in : (less : Option HeadUsages) (own : Option CycleHead)
    → usages_in (option_map (less_head less) own) ≡ option_map (λ known. less_usages known less) (usages_in own)
less_in less None = refl
less_in less (Some known) = refl

mapped_has : {A B : Type 0} (f : A → B) (o : Option A) → IsSome o → IsSome (option_map f o)
mapped_has f None there = there
mapped_has f (Some x) there = refl

mapped_there : {A B : Type 0} (f : A → B) (o : Option A) → IsSome (option_map f o) → IsSome o
mapped_there f None there = there
mapped_there f (Some x) there = refl

covers_all : (own : Option HeadUsages) (usages : HeadUsages) → IsSome own
    → ((kind : PathKind) → count_of usages kind ≤ of_kind own kind) → IsSomeAnd own (λ counts. Covers counts usages)
covers_all None usages there within = absurd (false≢true there)
covers_all (Some own) usages there within = within

-- ---- lists where one element is another

set_other : {A : Type 0} (all more : List A) (number : ℕ) (y : A) (k : ℕ) → k ≢ number
    → slice_get (slice_set all number y ++ more) k ≡ slice_get (all ++ more) k
set_other [] more number y k apart = refl
set_other (x ∷ all) more zero y zero apart = absurd (apart refl)
set_other (x ∷ all) more zero y (suc k) apart = refl
set_other (x ∷ all) more (suc number) y zero apart = refl
set_other (x ∷ all) more (suc number) y (suc k) apart = set_other all more number y k (λ e. apart (ap suc e))

set_total : {A : Type 0} (f : A → ℕ) (all : List A) (number : ℕ) (x y : A) → slice_get all number ≡ Some x
    → sum_by f (slice_set all number y) + f x ≡ sum_by f all + f y
set_total f [] number x y at = absurd cc
set_total f (z ∷ all) zero x y at =
    let same : z ≡ x = cc in
    let is = ap f same in
    omega (arith, sum_by-cons f z all, sum_by-cons f y all, is)
set_total f (z ∷ all) (suc number) x y at =
    let rest = set_total f all number x y at in
    omega (arith, sum_by-cons f z all, sum_by-cons f z (slice_set all number y), rest)

-- ---- a candidate that is ignored

module _ {X I R A T : Type 0} (parent : StackDepth) (old new : EntryState X I R A T) (fs : List UsagesByHead)
    (number : ℕ) (counts : UsagesByHead) where
  candidate_is : slice_get fs number ≡ Some counts → candidate_at (tally_of old fs) number ≡ counts
  candidate_is at = ap (λ o. unwrap_or o []) (get_left fs (unwrap_or old.candidate_usages [] ∷ []) number counts at)

  -- all that it used is counted
  pub can_ignore : IsTallied parent.0 (tally_of old fs)
      → slice_get fs number ≡ Some counts → CanIgnore parent counts old
  can_ignore h at head usages found =
      let same : at_depth (candidate_at (tally_of old fs) number) head ≡ Some usages =
      ap (λ c. at_depth c head) (candidate_is at) ∙ found in
      covers_all (counted parent.0 (tally_of old fs) head) usages (h.known number head (ap is_some same))
      (λ kind. subst (λ o. of_kind o kind ≤ of_kind (counted parent.0 (tally_of old fs) head) kind) same
      (charge_covered (of_kind (counted parent.0 (tally_of old fs) head) kind)
      (count_of (usages_of (candidate_at (tally_of old fs) number) head) kind)
      (covers_less (of_kind (counted parent.0 (tally_of old fs) head) kind)
      (candidates_count (tally_of old fs) head kind)
      (count_of (usages_of (candidate_at (tally_of old fs) number) head) kind) (h.covered head kind)
      (candidate_within (tally_of old fs) number head kind))
      (h.bounded number head kind)))

  module _ (ignores : Ignores parent counts old new) (at : slice_get fs number ≡ Some counts) where
    same_current : new.candidate_usages ≡ old.candidate_usages
    same_current = ap (λ s. s.candidate_usages) ignores.others

    candidate_gone : candidate_at (tally_of new (slice_set fs number [])) number ≡ []
    candidate_gone = ap (λ o. unwrap_or o []) (get_left (slice_set fs number [])
        (unwrap_or new.candidate_usages [] ∷ []) number [] (get_set_same fs number counts [] at))

    candidate_other : (k : ℕ) → k ≢ number
        → candidate_at (tally_of new (slice_set fs number [])) k ≡ candidate_at (tally_of old fs) k
    candidate_other k apart =
        ap (λ o. unwrap_or o []) (set_other fs (unwrap_or new.candidate_usages [] ∷ []) number [] k apart)
        ∙ ap (λ o. unwrap_or (slice_get (fs ++ unwrap_or o [] ∷ []) k) []) same_current

    total_less : (head : StackDepth) (kind : PathKind)
        → candidates_count (tally_of new (slice_set fs number [])) head kind + of_kind (at_depth counts head) kind
        ≡ candidates_count (tally_of old fs) head kind
    total_less head kind =
        let nothing = none_counted kind in
        let same = ap (λ o. count_of (usages_of (unwrap_or o []) head) kind) same_current in
        let set = set_total (λ c. count_of (usages_of c head) kind) fs number counts [] at in
        omega (arith, nothing, same, set)

    heads_other : (head : StackDepth) → head.0 ≢ parent.0
        → at_depth new.heads head ≡ option_map (less_head (at_depth counts head)) (at_depth old.heads head)
    heads_other head apart = ignores.heads head ∙ rw (ne_eqb head.0 parent.0 apart) refl

    counted_less : (head : StackDepth) → counted parent.0 (tally_of new (slice_set fs number [])) head
        ≡ option_map (λ known. less_usages known (at_depth counts head)) (counted parent.0 (tally_of old fs) head)
    counted_less =
        counted_by_place parent (tally_of old fs) (tally_of new (slice_set fs number []))
        (λ head before after. after ≡ option_map (λ known. less_usages known (at_depth counts head)) before)
        ignores.usages (λ head apart.
        ap (λ o. usages_in o) (heads_other head apart) ∙ less_in (at_depth counts head) (at_depth old.heads head))

    carries : IsTallied parent.0 (tally_of old fs)
        → Carries parent.0 (tally_of old fs) (tally_of new (slice_set fs number [])) (λ c. c ≢ Some number)
    carries h = record {
      lower = λ head there. elim (cases_eq head.0 parent.0) [
        | inl own ↦ h.lower head (subst IsSome (ignores.heads head ∙ rw (eq-eqb head.0 parent.0 own) refl) there)
        | inr apart ↦ h.lower head (mapped_there (less_head (at_depth counts head)) (at_depth old.heads head)
            (subst IsSome (heads_other head apart) there))
      ];
      heads = λ depth head at.
          let lower = h.lower depth (ap is_some at) in
          subst (λ o. IsSomeAnd o (KeepsPaths head))
          (sym (heads_other depth (omega (arith, lower)) ∙ ap (option_map (less_head (at_depth counts depth))) at))
          (λ kind has. has);
      covers = λ head kind m covers.
          let total = total_less head kind in
          subst (λ o. IsCovered (of_kind o kind)
          (candidates_count (tally_of new (slice_set fs number [])) head kind + m)) (sym (counted_less head))
          (lessened_own (counted parent.0 (tally_of old fs) head) (at_depth counts head) kind
          (candidates_count (tally_of new (slice_set fs number [])) head kind + m)
          (covers_less (of_kind (counted parent.0 (tally_of old fs) head) kind)
          (candidates_count (tally_of old fs) head kind + m)
          (candidates_count (tally_of new (slice_set fs number [])) head kind + m + of_kind (at_depth counts head) kind)
          covers (omega (arith, total))));
      used = λ k apart head kind.
          subst (λ c. count_of (usages_of c head) kind ≢ 0) (sym (candidate_other k (λ e. apart (ap Some e))));
    }

    -- the goal's counts agree without it
    pub ignored_tallied : IsTallied parent.0 (tally_of old fs)
        → IsTallied parent.0 (tally_of new (slice_set fs number []))
    ignored_tallied h = record {
      lower = (carries h).lower;
      known = λ k head there. elim (cases_eq k number) [
        | inl same ↦ absurd (false≢true (subst (λ c. IsSome (at_depth c head))
            (ap (candidate_at (tally_of new (slice_set fs number []))) same ∙ candidate_gone) there))
        | inr apart ↦ subst IsSome (sym (counted_less head))
            (mapped_has (λ known. less_usages known (at_depth counts head)) (counted parent.0 (tally_of old fs) head)
            (h.known k head (subst (λ c. IsSome (at_depth c head)) (candidate_other k apart) there)))
      ];
      bounded = λ k head kind. elim (cases_eq k number) [
        | inl same ↦ subst (λ c. count_of (usages_of c head) kind ≤ 2 ^ 32 - 1)
            (sym (ap (candidate_at (tally_of new (slice_set fs number []))) same ∙ candidate_gone))
            (let nothing = none_counted kind in omega (arith, nothing))
        | inr apart ↦ subst (λ c. count_of (usages_of c head) kind ≤ 2 ^ 32 - 1)
            (sym (candidate_other k apart)) (h.bounded k head kind)
      ];
      covered = covered_still parent.0 (tally_of old fs) (tally_of new (slice_set fs number []))
          (λ c. c ≢ Some number) (carries h) h;
    }

    -- what is spare, and what other candidates used, stays
    pub ignored_keeps : IsTallied parent.0 (tally_of old fs) → (c : Option ℕ) → c ≢ Some number
        → Includes (heads_of (tally_of old fs) c) (heads_of (tally_of new (slice_set fs number [])) c)
    ignored_keeps h =
        carried parent.0 (tally_of old fs) (tally_of new (slice_set fs number [])) (λ c. c ≢ Some number) (carries h) h
