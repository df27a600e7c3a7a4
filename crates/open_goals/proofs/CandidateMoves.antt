-- The newest goal's candidates: what is read of them, and what changes when their usages are taken away.
use Rattle.std.proofs.Common.{◌≡◌, ℕ, ◌-◌, ◌<◌, List, [], ◌∷◌, length, get_or, slice_get, slice_set, Option, Some, None}
use Rattle.std.proofs.Common.{IsSome, IfSome, is_some, true, refl, sym, ap, ◌∙◌, subst, arith}
use Rattle.std.specs.Option.{IsSomeAnd}
use Rattle.std.proofs.lemmas.Option.{slice_get_within}
use Rattle.open_goals.specs.Below.{change_last, StackEntry, EntryState, StackDepth, UsagesByHead, Run}
use Rattle.goal_changes.specs.Words.{paired, newest, CanIgnore, CanIgnoreUsages, CanIgnoreNewest, Ignores}
use Rattle.goal_changes.specs.Words.{IgnoresUsages, IgnoresNewest}
use Rattle.open_goals.proofs.Pairs.{last_pair, LastPair, length_of_view}
use Rattle.open_goals.proofs.Changes.{newest_state}
use Rattle.goal_changes.specs.OpenGoal.{OpenGoal}

-- what is there, where something of it holds
there_is : {A : Type 0} (o : Option A) (P : A → Type 0) → IsSomeAnd o P → (x : A) × (o ≡ Some x)
there_is None P holds = absurd holds
there_is (Some x) P holds = (x, refl)

-- where a candidate's usages can be taken away, there is a goal
pub some_counted : {X F I R A T : Type 0} (candidate : UsagesByHead) (view : List (OpenGoal X F I R A T))
    → CanIgnoreUsages candidate view → 0 < length view
some_counted candidate [] can = absurd can
some_counted candidate (s ∷ below) can = omega arith

-- and so where one of its candidates can be ignored
pub some_goal : {X F I R A T : Type 0} (number : ℕ) (view : List (OpenGoal X F I R A T))
    → CanIgnoreNewest number view → 0 < length view
some_goal number [] can = absurd can
some_goal number (s ∷ below) can = omega arith

module _ {X F I R A T : Type 0} (es : List (StackEntry X I R A T)) (fs : List (Run X F I R A T))
    (view : List (OpenGoal X F I R A T)) (same : length es ≡ length fs) (is : paired [] es fs ≡ view) where
  module _ (some : 0 < length view) (w x : EntryState X I R A T)
      (w_is : (d : StackEntry X I R A T) → w ≡ (get_or es (length es - 1) d).state) where
    -- a candidate of the newest goal is open
    pub open_candidate : IfSome (newest view) (λ s. is_some s.0.state.candidate_usages ≡ true)
        → IsSome w.candidate_usages
    open_candidate holds =
        let n = newest_state es fs view same is some w x w_is in
        subst (λ (s : EntryState X I R A T). IsSome s.candidate_usages) n.state_is
        (subst (λ v. IfSome (newest v) (λ s. is_some s.0.state.candidate_usages ≡ true)) n.was holds)

    pub candidate_used : (used : UsagesByHead) → w.candidate_usages ≡ Some used
        → IfSome (newest view) (λ s. s.0.state.candidate_usages ≡ Some used)
    candidate_used used found =
        let n = newest_state es fs view same is some w x w_is in
        subst (λ v. IfSome (newest v) (λ s. s.0.state.candidate_usages ≡ Some used)) (sym n.was)
        (ap (λ (s : EntryState X I R A T). s.candidate_usages) n.state_is ∙ found)

    module _ (candidate : UsagesByHead) (parent : StackDepth) (last_place : parent.0 ≡ length es - 1) where
      -- all that the candidate used is counted by the last entry
      pub newest_counts : CanIgnoreUsages candidate view → CanIgnore parent candidate w
      newest_counts can =
          let n = newest_state es fs view same is some w x w_is in
          let place : parent ≡ record { 0 = length n.below } = λ i. record { 0 = (last_place ∙ n.depth_is) i } in
          subst (λ p. CanIgnore p candidate w) (sym place) (subst (CanIgnore (record { 0 = length n.below }) candidate)
          n.state_is (subst (CanIgnoreUsages candidate) n.was can))

      pub newest_ignores : Ignores parent candidate w x
          → IgnoresUsages candidate view (paired [] (change_last (λ e. record e { state = x }) es) fs)
      newest_ignores ignores =
          let n = newest_state es fs view same is some w x w_is in
          let place : parent ≡ record { 0 = length n.below } = λ i. record { 0 = (last_place ∙ n.depth_is) i } in
          record {
            entry = n.entry;
            run = n.run;
            below = n.below;
            state = x;
            was = n.was;
            is = n.is;
            ignores = subst (λ p. Ignores p candidate n.entry.state x) place
                (subst (λ (s : EntryState X I R A T). Ignores parent candidate s x) (sym n.state_is) ignores);
          }

  module _ (number n : ℕ) (run : Run X F I R A T) (at : n ≡ length fs - 1) (run_is : run ≡ get_or fs n run)
      (can : CanIgnoreNewest number view) where
    top : LastPair [] es fs n run
    top = last_pair [] es fs n run same
        (omega (arith, at, (length_of_view es fs view same is).1, some_goal number view can))

    view_was : view ≡ (top.entry, run) ∷ top.rest
    view_was = sym is ∙ top.is ∙ ap (λ r. (top.entry, r) ∷ top.rest) (sym run_is)

    can_here : CanIgnoreNewest number ((top.entry, run) ∷ top.rest)
    can_here = subst (CanIgnoreNewest number) view_was can

    -- the candidate is finished
    pub is_finished : number < length run.candidates
    is_finished =
        let found = there_is (slice_get run.candidates number)
        (λ candidate. CanIgnore (record { 0 = length top.rest }) candidate top.entry.state) can_here in
        slice_get_within run.candidates number found.0 found.1

    module _ (candidate : UsagesByHead) (taken : slice_get run.candidates number ≡ Some candidate)
        (left : List UsagesByHead) (left_is : left ≡ slice_set run.candidates number []) where
      -- and all that it used is counted still when it is taken
      pub taken_counts : CanIgnoreUsages candidate (paired [] es (slice_set fs n (record run { candidates = left })))
      taken_counts = subst (CanIgnoreUsages candidate) (sym (top.after_set (record run { candidates = left }))) (subst
          (λ o. IsSomeAnd o (λ used. CanIgnore (record { 0 = length top.rest }) used top.entry.state)) taken can_here)

      -- the newest goal after its state became this one
      abbrev Becomes : EntryState X I R A T → (old new : List (OpenGoal X F I R A T)) → Type 0
      Becomes state [] new = ⊥
      Becomes state (s ∷ below) new = (new ≡ (record s.0 { state = state }, s.1) ∷ below)
          × Ignores (record { 0 = length below }) candidate s.0.state state

      becomes : (old new : List (OpenGoal X F I R A T)) (i : IgnoresUsages candidate old new) → Becomes i.state old new
      becomes old new i = subst (λ v. Becomes i.state v new) (sym i.was) (i.is, i.ignores)

      pub taken_ignored : (new : List (OpenGoal X F I R A T))
          → IgnoresUsages candidate (paired [] es (slice_set fs n (record run { candidates = left }))) new
          → IgnoresNewest number view new
      taken_ignored new i =
          let b =
          subst (λ v. Becomes i.state v new) (top.after_set (record run { candidates = left })) (becomes _ new i) in
          record {
            entry = top.entry;
            run = run;
            below = top.rest;
            candidate = candidate;
            state = i.state;
            was = view_was;
            is_at = taken;
            is = b.0
                ∙ ap (λ l. (record top.entry { state = i.state }, record run { candidates = l }) ∷ top.rest) left_is;
            ignores = b.1;
          }
