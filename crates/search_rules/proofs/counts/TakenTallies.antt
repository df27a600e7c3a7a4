-- What a goal counts of the goals on the stack, when it takes over the heads of an answer.
use Rattle.std.proofs.Common.{◌≡◌, ◌≢◌, ℕ, zero, suc, ◌+◌, ◌-◌, ◌^◌, ◌≤◌, min, max, if◌then◌else◌, List, [], ◌∷◌, ◌++◌}
use Rattle.std.proofs.Common.{length, slice_get, Option, None, Some, option_map, is_some, IsSome, unwrap_or, refl, sym}
use Rattle.std.proofs.Common.{ap, ◌∙◌, subst, ◌⊎◌, inl, inr, arith, ne_eqb, eq-eqb}
use Rattle.std.specs.List.{sum_by}
use Rattle.std.specs.Option.{IsSomeAnd}
use Rattle.std.proofs.lemmas.Bool.{cases_eq, false≢true, or_left}
use Rattle.search_rules.specs.Below.{TakesIn, Includes, StackDepth, PathKind, CycleHead, HeadUsages, UsagesByHead}
use Rattle.search_rules.specs.Below.{Heads, at_depth, joined_head, heads_shape, rank_of, extended, has_kind, count_of}
use Rattle.search_rules.specs.Below.{no_usages, sticking_sum, with_nested, EntryState, TakesHeads}
use Rattle.search_rules.specs.Below.{joined_over, usages_over}
use Rattle.list_lemmas.proofs.Lists.{get_end}
use Rattle.cycle_heads.proofs.Counts.{count_of-usages_by}
use Rattle.cycle_heads.proofs.HeadShapes.{IsIn, joined_after}
use Rattle.path_kinds.proofs.PathLaws.{has_kind-union}
use Rattle.search_rules.specs.Words.{IsCovered, IsTallied, LieBelow, candidate_at, candidates_count, counted, head_with}
use Rattle.search_rules.specs.Words.{heads_of, spare, tally_of, usages_of}
use Rattle.search_rules.proofs.counts.Tallies.{Carries, KeepsPaths, carried, counted_by_place, counted_head}
use Rattle.search_rules.proofs.counts.Tallies.{counts_by_rank, covered_still, covers_less, covers_some, none_counted}
use Rattle.search_rules.proofs.counts.Tallies.{of_kind, spare_is, usages_in}

-- ---- counts

-- what covered some usages covers one more, if others are joined
abbrev IsRaised : ℕ → ℕ → ℕ → Type 0
IsRaised before more after = (m : ℕ) → IsCovered before m → IsCovered after (m + min more 1)

-- at most one is added, up to the greatest count
record IsCharged (before more after : ℕ) : Type 0 where
  up_to : after ≤ before + min more 1
  bounded : before ≤ 2 ^ 32 - 1 → after ≤ 2 ^ 32 - 1
  stays : before ≢ 0 → after ≢ 0

raised_sum : (before more : ℕ) → IsRaised before more (sticking_sum before (min more 1))
raised_sum before more m (inl stuck) = inl (omega (arith, stuck))
raised_sum before more m (inr covers) = elim (cases_eq (sticking_sum before (min more 1)) (2 ^ 32 - 1)) [
  | inl stuck ↦ inl stuck
  | inr below ↦ inr (omega (arith, below, covers))
]

raised_same : (before : ℕ) → IsRaised before 0 before
raised_same before m covers = covers_less before m (m + min 0 1) covers (omega arith)

raised_anew : (before more : ℕ) → before ≡ 0 → IsRaised before more more
raised_anew before more none m (inl stuck) = absurd (omega (arith, none, stuck))
raised_anew before more none m (inr covers) = inr (omega (arith, none, covers))

charged_sum : (before more : ℕ) → IsCharged before more (sticking_sum before (min more 1))
charged_sum before more = record {
  up_to = omega arith;
  bounded = λ within. omega (arith, within);
  stays = λ some none. some (omega (arith, none));
}

charged_same : (before more : ℕ) → IsCharged before more before
charged_same before more = record { up_to = omega arith; bounded = λ within. within; stays = λ some. some }

-- ---- usages and heads that are joined

-- the usages of a head, and none where there is no head
abbrev used_usages : Option CycleHead → HeadUsages
used_usages None = no_usages
used_usages (Some used) = used.usages

nested_kind : (usages nested : HeadUsages) (kind : PathKind)
    → sticking_sum (count_of usages kind) (min (count_of nested kind) 1) ≡ count_of (with_nested usages nested) kind
nested_kind usages nested kind =
    sym (count_of-usages_by (λ k. sticking_sum (count_of usages k) (min (count_of nested k) 1)) kind)

raised_own : (own : Option HeadUsages) (used : Option CycleHead) (kind : PathKind)
    → IsRaised (of_kind own kind) (count_of (used_usages used) kind) (of_kind (usages_over own used) kind)
raised_own own None kind = subst (λ n. IsRaised (of_kind own kind) n (of_kind own kind))
    (sym (none_counted kind)) (raised_same (of_kind own kind))
raised_own own (Some used) kind = subst (IsRaised (of_kind own kind) (count_of used.usages kind))
    (nested_kind (unwrap_or own no_usages) used.usages kind) (raised_sum (of_kind own kind) (count_of used.usages kind))

raised_head : (step : PathKind) (own used : Option CycleHead) (kind : PathKind)
    → IsRaised (of_kind (usages_in own) kind) (count_of (used_usages used) kind)
    (of_kind (usages_in (joined_over step own used)) kind)
raised_head step own None kind = raised_own (usages_in own) None kind
raised_head step None (Some used) kind =
    raised_anew (count_of no_usages kind) (count_of used.usages kind) (none_counted kind)
raised_head step (Some own) (Some used) kind = raised_own (Some own.usages) (Some used) kind

-- what a candidate takes of an answer: all, if one is open
abbrev taken_in : Option UsagesByHead → Option CycleHead → Option CycleHead
taken_in None used = None
taken_in (Some counts) used = used

charged_own : (own : Option HeadUsages) (current : Option UsagesByHead) (used : Option CycleHead) (kind : PathKind)
    → IsCharged (of_kind own kind) (count_of (used_usages used) kind)
    (of_kind (usages_over own (taken_in current used)) kind)
charged_own own None used kind = charged_same (of_kind own kind) (count_of (used_usages used) kind)
charged_own own (Some counts) None kind = charged_same (of_kind own kind) (count_of no_usages kind)
charged_own own (Some counts) (Some used) kind = subst (IsCharged (of_kind own kind) (count_of used.usages kind))
    (nested_kind (unwrap_or own no_usages) used.usages kind)
    (charged_sum (of_kind own kind) (count_of used.usages kind))

-- what is there after a head was joined was there, or came with it
over_there : (own : Option HeadUsages) (current : Option UsagesByHead) (used : Option CycleHead)
    → IsSome (usages_over own (taken_in current used)) → IsSome own ⊎ IsSome used
over_there own None used there = inl there
over_there own (Some counts) None there = inl there
over_there own (Some counts) (Some used) there = inr refl

over_has : (own : Option HeadUsages) (used : Option CycleHead)
    → IsSome own ⊎ IsSome used → IsSome (usages_over own used)
over_has own None (inl there) = there
over_has own None (inr there) = absurd (false≢true there)
over_has own (Some used) there = refl

joined_has : (step : PathKind) (own used : Option CycleHead) → IsSome (usages_in own) ⊎ IsSome used
    → IsSome (usages_in (joined_over step own used))
joined_has step own None (inl there) = there
joined_has step own None (inr there) = absurd (false≢true there)
joined_has step own (Some used) there = refl

joined_there : (step : PathKind) (own used : Option CycleHead)
    → IsSome (joined_over step own used) → IsSome own ⊎ IsSome used
joined_there step own None there = inl there
joined_there step own (Some used) there = inr refl

taken_current : (old new : Option UsagesByHead) (depth : StackDepth) (used : Option CycleHead)
    → option_map (λ counts. at_depth counts depth) new
    ≡ option_map (λ counts. usages_over (at_depth counts depth) used) old
    → at_depth (unwrap_or new []) depth ≡ usages_over (at_depth (unwrap_or old []) depth) (taken_in old used)
taken_current None None depth used is = refl
taken_current None (Some counts) depth used is = absurd cc
taken_current (Some counts) None depth used is = absurd cc
taken_current (Some counts) (Some more) depth used is = cc

-- a fact of the open candidate before and after, which holds of each that stays, holds under each number
under_each_number : (P : UsagesByHead → UsagesByHead → Type 0) → ((counts : UsagesByHead) → P counts counts)
    → (all : List UsagesByHead) (before after : UsagesByHead) → P before after → (number : ℕ)
    → P (unwrap_or (slice_get (all ++ before ∷ []) number) []) (unwrap_or (slice_get (all ++ after ∷ []) number) [])
under_each_number P same [] before after changed zero = changed
under_each_number P same [] before after changed (suc number) = same []
under_each_number P same (counts ∷ all) before after changed zero = same counts
under_each_number P same (counts ∷ all) before after changed (suc number) =
    under_each_number P same all before after changed number

-- a head that more is joined to keeps its paths
paths_kept : (step : PathKind) (head : CycleHead) (used : Option CycleHead)
    → IsSomeAnd (joined_over step (Some head) used) (KeepsPaths head)
paths_kept step head None = λ kind has. has
paths_kept step head (Some used) = λ kind has. has_kind-union head.paths_to_head (extended used.paths_to_head step) kind
    ∙ or_left (has_kind head.paths_to_head kind) (has_kind (extended used.paths_to_head step) kind) has

-- a head of an answer comes in, with a part of what is counted then
comes_joined : (part : HeadUsages → HeadUsages) (step : PathKind) (own used new : Option CycleHead)
    → new ≡ joined_over step own used → ((other : CycleHead) → new ≡ Some other → (kind : PathKind)
    → count_of (used_usages used) kind ≢ 0 → count_of (part other.usages) kind ≢ 0)
    → (path cycle : ℕ) → IsIn used path cycle → IsIn (option_map (head_with part) new) (max (rank_of step) path) cycle
comes_joined part step own None new is counts path cycle recorded = absurd (recorded.1 refl)
comes_joined part step own (Some head) new is counts path cycle recorded =
    subst (λ o. IsIn (option_map (head_with part) o) (max (rank_of step) path) cycle) (sym is) (
      (joined_after own head step path cycle recorded).0,
      counts_by_rank head.usages (part (joined_head own (extended head.paths_to_head step) head.usages).usages)
          (counts (joined_head own (extended head.paths_to_head step) head.usages) is) cycle recorded.1,
    )

-- ---- answers that are taken over

-- what the open candidate used
abbrev current_usages : {X I R A T : Type 0} → EntryState X I R A T → UsagesByHead
current_usages s = unwrap_or s.candidate_usages []

module _ {X I R A T : Type 0} (parent : StackDepth) (step : PathKind) (answer : Heads) (old new : EntryState X I R A T)
    (fs : List UsagesByHead) (t : TakesHeads parent step answer old new) where
  heads_other : (head : StackDepth) → head.0 ≢ parent.0
      → at_depth new.heads head ≡ joined_over step (at_depth old.heads head) (at_depth answer head)
  heads_other head apart = t.heads head ∙ rw (ne_eqb head.0 parent.0 apart) refl

  -- the goal counts at least one more of each kind
  raised_counted : (head : StackDepth) (kind : PathKind)
      → IsRaised (of_kind (counted parent.0 (tally_of old fs) head) kind)
      (count_of (used_usages (at_depth answer head)) kind) (of_kind (counted parent.0 (tally_of new fs) head) kind)
  raised_counted head kind =
      counted_by_place parent (tally_of old fs) (tally_of new fs) (λ at before after.
      IsRaised (of_kind before kind) (count_of (used_usages (at_depth answer at)) kind) (of_kind after kind))
      (subst (λ o. IsRaised (of_kind old.usages kind) (count_of (used_usages (at_depth answer parent)) kind)
      (of_kind o kind)) (sym t.usages) (raised_own old.usages (at_depth answer parent) kind))
      (λ at apart. subst (λ o. IsRaised (of_kind (usages_in (at_depth old.heads at)) kind)
      (count_of (used_usages (at_depth answer at)) kind) (of_kind (usages_in o) kind))
      (sym (heads_other at apart)) (raised_head step (at_depth old.heads at) (at_depth answer at) kind)) head

  pub counted_has : (head : StackDepth)
      → IsSome (counted parent.0 (tally_of old fs) head) ⊎ IsSome (at_depth answer head)
      → IsSome (counted parent.0 (tally_of new fs) head)
  counted_has head =
      counted_by_place parent (tally_of old fs) (tally_of new fs)
      (λ at before after. IsSome before ⊎ IsSome (at_depth answer at) → IsSome after)
      (λ there. subst IsSome (sym t.usages) (over_has old.usages (at_depth answer parent) there))
      (λ at apart there. subst (λ o. IsSome (usages_in o)) (sym (heads_other at apart))
      (joined_has step (at_depth old.heads at) (at_depth answer at) there)) head

  current_at : (head : StackDepth) → at_depth (current_usages new) head
      ≡ usages_over (at_depth (current_usages old) head) (taken_in old.candidate_usages (at_depth answer head))
  current_at head =
      taken_current old.candidate_usages new.candidate_usages head (at_depth answer head) (t.in_candidate head)

  charged_current : (head : StackDepth) (kind : PathKind)
      → IsCharged (count_of (usages_of (current_usages old) head) kind)
      (count_of (used_usages (at_depth answer head)) kind) (count_of (usages_of (current_usages new) head) kind)
  charged_current head kind = subst (λ o. IsCharged (count_of (usages_of (current_usages old) head) kind)
      (count_of (used_usages (at_depth answer head)) kind) (of_kind o kind)) (sym (current_at head))
      (charged_own (at_depth (current_usages old) head) old.candidate_usages (at_depth answer head) kind)

  module _ (reach : LieBelow (suc parent.0) answer) (h : IsTallied parent.0 (tally_of old fs)) where
    -- all that was counted is counted
    carries : Carries parent.0 (tally_of old fs) (tally_of new fs) (λ _. Unit {0})
    carries = record {
      lower = λ head there. elim (cases_eq head.0 parent.0) [
        | inl own ↦ h.lower head (subst IsSome (t.heads head ∙ rw (eq-eqb head.0 parent.0 own) refl) there)
        | inr apart ↦ elim (joined_there step (at_depth old.heads head) (at_depth answer head)
            (subst IsSome (heads_other head apart) there)) [
              | inl was ↦ h.lower head was
              | inr came ↦ let within = reach head came in omega (arith, within, apart)
            ]
      ];
      heads = λ depth head at.
          let lower = h.lower depth (ap is_some at) in
          subst (λ o. IsSomeAnd o (KeepsPaths head))
          (sym (heads_other depth (omega (arith, lower)) ∙ ap (λ o. joined_over step o (at_depth answer depth)) at))
          (paths_kept step head (at_depth answer depth));
      covers = λ head kind m covers.
          let up_to = (charged_current head kind).up_to in
          covers_less (of_kind (counted parent.0 (tally_of new fs) head) kind)
          (candidates_count (tally_of old fs) head kind + m
          + min (count_of (used_usages (at_depth answer head)) kind) 1)
          (candidates_count (tally_of new fs) head kind + m)
          (raised_counted head kind (candidates_count (tally_of old fs) head kind + m) covers) (omega (arith, up_to));
      used = λ number stays head kind.
          under_each_number
          (λ before after. count_of (usages_of before head) kind ≢ 0 → count_of (usages_of after head) kind ≢ 0)
          (λ counts used. used) fs (current_usages old) (current_usages new) (charged_current head kind).stays number;
    }

    -- the goal's counts still agree, and what was used outside candidates or by one of them stays so
    pub taken_tallied : IsTallied parent.0 (tally_of new fs)
    taken_tallied = record {
      lower = carries.lower;
      known = λ number head there.
          let came = under_each_number
          (λ before after. IsSome (at_depth after head) → IsSome (at_depth before head) ⊎ IsSome (at_depth answer head))
          (λ counts has. inl has) fs (current_usages old) (current_usages new)
          (λ has. over_there (at_depth (current_usages old) head) old.candidate_usages (at_depth answer head)
          (subst IsSome (current_at head) has)) number there in
          counted_has head (elim came [ inl was ↦ inl (h.known number head was) | inr has ↦ inr has ]);
      bounded = λ number head kind.
          under_each_number (λ before after.
          count_of (usages_of before head) kind ≤ 2 ^ 32 - 1 → count_of (usages_of after head) kind ≤ 2 ^ 32 - 1)
          (λ counts within. within) fs (current_usages old) (current_usages new)
          (charged_current head kind).bounded number (h.bounded number head kind);
      covered = covered_still parent.0 (tally_of old fs) (tally_of new fs) (λ _. Unit {0}) carries h;
    }

    pub taken_keeps : (c : Option ℕ) → Includes (heads_of (tally_of old fs) c) (heads_of (tally_of new fs) c)
    taken_keeps c = carried parent.0 (tally_of old fs) (tally_of new fs) (λ _. Unit {0}) carries h c tt

    -- outside candidates nothing more is used by one
    same_total : old.candidate_usages ≡ None → (depth : StackDepth) (kind : PathKind)
        → candidates_count (tally_of new fs) depth kind ≡ candidates_count (tally_of old fs) depth kind
    same_total none_open depth kind =
        ap (λ o. of_kind o kind + sum_by (λ counts. count_of (usages_of counts depth) kind) fs)
        (current_at depth
        ∙ ap (λ o. usages_over (at_depth (current_usages old) depth) (taken_in o (at_depth answer depth))) none_open)

    comes_to_spare : old.candidate_usages ≡ None → (depth : StackDepth) (other : CycleHead)
        → at_depth new.heads depth ≡ Some other → (kind : PathKind)
        → count_of (used_usages (at_depth answer depth)) kind ≢ 0
        → count_of (spare (tally_of new fs) depth other.usages) kind ≢ 0
    comes_to_spare none_open depth other is kind some =
        let same = same_total none_open depth kind in
        (spare_is (tally_of new fs) depth other.usages kind).1
        (covers_less (count_of other.usages kind)
        (candidates_count (tally_of old fs) depth kind + min (count_of (used_usages (at_depth answer depth)) kind) 1)
        (candidates_count (tally_of new fs) depth kind + 1)
        (subst (λ o. IsCovered (of_kind o kind)
        (candidates_count (tally_of old fs) depth kind + min (count_of (used_usages (at_depth answer depth)) kind) 1))
        (counted_head parent.0 (tally_of new fs) carries.lower depth other is)
        (raised_counted depth kind (candidates_count (tally_of old fs) depth kind) (h.covered depth kind)))
        (omega (arith, same, some)))

    -- in a candidate it uses the heads
    comes_to_candidate : (counts : UsagesByHead) → old.candidate_usages ≡ Some counts
        → (depth : StackDepth) (kind : PathKind) → count_of (used_usages (at_depth answer depth)) kind ≢ 0
        → count_of (usages_of (candidate_at (tally_of new fs) (length fs)) depth) kind ≢ 0
    comes_to_candidate counts is_open depth kind some =
        subst (λ o. count_of (usages_of (unwrap_or o []) depth) kind ≢ 0) (sym (get_end fs (current_usages new)))
        (subst (λ o. of_kind o kind ≢ 0) (sym (current_at depth
        ∙ ap (λ o. usages_over (at_depth (current_usages old) depth) (taken_in o (at_depth answer depth))) is_open))
        (covers_some (of_kind (usages_over (at_depth (current_usages old) depth) (at_depth answer depth)) kind)
        (0 + min (count_of (used_usages (at_depth answer depth)) kind) 1)
        (raised_own (at_depth (current_usages old) depth) (at_depth answer depth) kind 0 (inr (omega arith)))
        (omega (arith, some))))

    comes_in : (current : Option UsagesByHead) → old.candidate_usages ≡ current → TakesIn parent.0 (rank_of step)
        (heads_shape answer) (heads_of (tally_of new fs) (if is_some current then Some (length fs) else None))
    comes_in None none_open depth path cycle lower recorded =
        comes_joined (spare (tally_of new fs) (record { 0 = depth })) step (at_depth old.heads (record { 0 = depth }))
        (at_depth answer (record { 0 = depth })) (at_depth new.heads (record { 0 = depth }))
        (heads_other (record { 0 = depth }) (omega (arith, lower)))
        (comes_to_spare none_open (record { 0 = depth })) path cycle recorded
    comes_in (Some counts) is_open depth path cycle lower recorded =
        comes_joined (λ usages. usages_of (candidate_at (tally_of new fs) (length fs)) (record { 0 = depth })) step
        (at_depth old.heads (record { 0 = depth })) (at_depth answer (record { 0 = depth }))
        (at_depth new.heads (record { 0 = depth })) (heads_other (record { 0 = depth }) (omega (arith, lower)))
        (λ other is. comes_to_candidate counts is_open (record { 0 = depth })) path cycle recorded

    -- the answer's heads come in where it was asked: outside candidates, or with the open one
    pub taken_comes_in : TakesIn parent.0 (rank_of step) (heads_shape answer)
        (heads_of (tally_of new fs) (if is_some old.candidate_usages then Some (length fs) else None))
    taken_comes_in = comes_in old.candidate_usages refl
