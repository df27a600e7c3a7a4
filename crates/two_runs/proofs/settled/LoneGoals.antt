-- A goal of which a success without nested goals is stored is answered by that wherever it is asked, if no question
-- leads out of a list of goals and there is depth enough for all of them. So it is never pushed, and no goal under
-- evaluation is such a goal.
use Rattle.std.proofs.Common.{◌≡◌, ◌≢◌, ℕ, suc, ◌+◌, ◌≤◌, max, nat_le, if◌then◌else◌, Bool, true, false, ◌||◌, ◌⊎◌}
use Rattle.std.proofs.Common.{List, [], ◌∷◌, ◌++◌, length, All, Contains, Option, None, Some, inl, inr, refl, sym, ap}
use Rattle.std.proofs.Common.{ap₂, ◌∙◌, subst, arith, slice_set}
use Rattle.std.proofs.Math.Nat.{max-eq_left, max-eq_right}
use Rattle.std.proofs.lemmas.Bool.{cases_lt}
use Rattle.std.proofs.lemmas.List.Elements.{All-cons, All-head, All-nil, All-tail}
use Rattle.std.proofs.lemmas.Bool.Decides.{nat_tests}
use Rattle.std.specs.Option.{IsSomeAnd}
use Rattle.two_runs.specs.Below.{AnswersNewest, AreSeen, AvailableDepth, CacheNode, CxOf, DelegateOf, Done}
use Rattle.two_runs.specs.Below.{EnterCandidate, EntryState, Evaluate, EvaluationResult, FinishCandidate}
use Rattle.two_runs.specs.Below.{first_accepted, HasStepped, Heads, Hit, Ignore, IsAllowed, NestedPaths, NestsAnswer}
use Rattle.two_runs.specs.Below.{NestsHead, Next, NodeId, NotesCandidate, OpenGoal, PathKind, paths_at, PathsToNested}
use Rattle.two_runs.specs.Below.{place_of, Received, received_by, Request, requested, rerun_with, Stood, Store}
use Rattle.two_runs.specs.Below.{stored_at, stored_from, StoredResult, Success, TakesStored, usable, with_depth}
use Rattle.two_runs.specs.Below.{with_nested_goals, with_no_record, WithOverflow}
use Rattle.goal_paths.specs.Nested.{joined_paths, JoinsPaths}
use Rattle.global_cache.specs.Hits.{hit_at, successes, overflows}
use Rattle.global_cache.proofs.Stores.{put_cases}
use Rattle.goal_changes.specs.NestedGoals.{NestsItself, Nothing, Joined, TakesNestedGoals}
use Rattle.run_records.specs.declared.runs.Fate.TheVariants as becomes
use Rattle.evaluations.specs.Frames.{Frame, fresh, stepped}
use Rattle.evaluations.specs.Plain.{IsOnStack}
use Rattle.evaluations.specs.Enclosed.{AreDistinct, StayEnclosed}
use Rattle.evaluations.proofs.Enclosed.{few_frames, left_calm}
use Rattle.search_rules.specs.Words.{answered_by, Asking, Call, CallIsEnclosed, final_answer, HasAsked, is_applicable}
use Rattle.search_rules.specs.Words.{IsNewestStored, KeepsStore, LeavesNested, NewestLeaves, Pushes, Put, Reruns}
use Rattle.search_rules.specs.Words.{seen, StoresAnswer}
use Rattle.two_runs.specs.Lone.{AreLone, HasLone, IsLone, LoneRequire, NoneIsLone}
use Rattle.search_rules.specs.Results.{NotStored}
use Rattle.search_rules.proofs.moves.LookUps.{empty_is_applicable}
use Rattle.search_rules.proofs.moves.Moves.{enclosed_asks}

-- a value of which something holds is there
pub some_and : {S : Type 0} (o : Option S) (P : S → Type 0) → IsSomeAnd o P → (s : S) × (o ≡ Some s) × P s
some_and None P h = absurd h
some_and (Some s) P h = (s, refl, h)

-- goals that were joined by one are some
pub joined_are_some : {I : Type 0} (same : I → I → Bool) (old new : NestedPaths I) (own : I) (paths : PathsToNested)
    → JoinsPaths same old new own paths → new ≡ [] → ⊥
joined_are_some same old new own paths joins none =
    by (paths_at same old own) (sym (ap (λ l. paths_at same l own) none) ∙ joins.here)
  where
    by : (o : Option PathsToNested) → None ≡ joined_paths o (Some paths) → ⊥
    by None is = cc
    by (Some other) is = cc

-- heads that are not some are none
pub no_heads_if : (heads : Heads) → (heads ≢ [] → ⊥) → heads ≡ []
no_heads_if [] none = refl
no_heads_if (head ∷ heads) none = absurd (none (λ is. cc))

-- ---- what is stored

-- a success that requires no more than the depth is used, if its nested goals are accepted
module _ {I R T : Type 0} (accepts : NestedPaths I → Bool) (depth : ℕ) where
  success_found : (s : StoredResult I R T) (more : List (Hit I R T))
      → accepts s.nested_goals ≡ true → s.required_depth ≤ depth
      → first_accepted accepts (successes depth (Some s) ++ more) ≡ Some (hit_at s.required_depth false s)
  success_found s more accepted within =
      let fits : nat_le s.required_depth depth ≡ true = grind (arith, nat_tests) in
      rw fits (rw accepted refl)

  pub lone_found :
      (same : I → I → Bool) (results : Store I (StoredResult I R T)) (goal : I) (s : StoredResult I R T)
      → stored_at same results goal Success ≡ Some s → accepts s.nested_goals ≡ true → s.required_depth ≤ depth
      → first_accepted accepts (usable same results goal depth) ≡ Some (hit_at s.required_depth false s)
  lone_found same results goal s at accepted within =
      ap (λ o. first_accepted accepts
      (successes depth o ++ overflows depth (stored_at same results goal (WithOverflow depth)))) at
      ∙ success_found s (overflows depth (stored_at same results goal (WithOverflow depth))) accepted within

-- ---- lone goals, from one store to another

-- goals that were lone are lone still
module _ {I R T : Type 0} (same : I → I → Bool) (old new : Store I (StoredResult I R T))
    (stay : (goal : I) → IsLone same old goal → IsLone same new goal) (goals : List I) where
  are_lone_kept : (lone : List I) → AreLone same old goals lone → AreLone same new goals lone
  are_lone_kept [] h = tt
  are_lone_kept (goal ∷ others) h = (h.0, stay goal h.1, h.2, are_lone_kept others h.3)

  pub has_lone_kept : (many : ℕ) → HasLone same old goals many → HasLone same new goals many
  has_lone_kept many h = record { lone = h.lone; long = h.long; are_lone = are_lone_kept h.lone h.are_lone }

  module _ (goal : I) (not_yet : IsLone same old goal → ⊥) where
    others_differ : (lone : List I) → AreLone same old goals lone → All (λ other. other ≢ goal) lone
    others_differ [] h = All-nil (λ other. other ≢ goal)
    others_differ (other ∷ others) h = All-cons (λ other. other ≢ goal) other others
        (λ is. not_yet (subst (IsLone same old) is h.1)) (others_differ others h.3)

    -- and one more is
    pub one_more : (many : ℕ) → Contains goals goal → IsLone same new goal
        → HasLone same old goals many → HasLone same new goals (many + 1)
    one_more many within lone h =
        let long : length h.lone ≡ many = h.long in
        record {
          lone = goal ∷ h.lone;
          long = omega (arith, long);
          are_lone = (within, lone, others_differ h.lone h.are_lone, are_lone_kept h.lone h.are_lone);
        }

module _ {I R T : Type 0} (same : I → I → Bool) (results : Store I (StoredResult I R T)) (goals : List I) where
  none_needed : HasLone same results goals 0
  none_needed = record { lone = []; long = refl; are_lone = tt }

  most_needed : (a b : ℕ) → HasLone same results goals a → HasLone same results goals b
      → HasLone same results goals (max a b)
  most_needed a b first second = elim (cases_lt a b) [
    | inl less ↦ subst (HasLone same results goals) (sym (max-eq_right (omega (arith, less)))) second
    | inr at_least ↦ subst (HasLone same results goals) (sym (max-eq_left at_least)) first
  ]

-- ---- an answer is stored

module _ {X I R A T : Type 0} (same : I → I → Bool) (by_value : (x y : I) → same x y ≡ true → x ≡ y)
    (old new : Store I (StoredResult I R T)) (goal : I) (answer : EvaluationResult X I R A T) where
  -- no goal but this one is lone that was not
  lone_before : StoresAnswer same old new goal answer → (other : I) → IsLone same new other
      → (goal ≡ other) ⊎ IsLone same old other
  lone_before (NotStored is) other lone = inr (subst (λ results. IsLone same results other) is lone)
  lone_before (Put token none puts) other lone =
      elim (put_cases same by_value old new goal (place_of answer) (stored_from answer token) puts other Success) [
        | inl w ↦ inl w.0
        | inr unchanged ↦ inr (subst (λ o. IsSomeAnd o (λ s. s.nested_goals ≡ [])) unchanged lone)
      ]

  module _ (not_yet : IsLone same old goal → ⊥) where
    -- and if it was not lone, all goals that were are lone still
    pub lone_after : StoresAnswer same old new goal answer → (other : I) → IsLone same old other → IsLone same new other
    lone_after (NotStored is) other lone = subst (λ results. IsLone same results other) (sym is) lone
    lone_after (Put token none puts) other lone =
        elim (put_cases same by_value old new goal (place_of answer) (stored_from answer token) puts other Success) [
          | inl w ↦ absurd (not_yet (subst (IsLone same old) (sym w.0) lone))
          | inr unchanged ↦ subst (λ o. IsSomeAnd o (λ s. s.nested_goals ≡ [])) (sym unchanged) lone
        ]

    module _ (goals : List I) (stores : StoresAnswer same old new goal answer) where
      -- lone goals require as many others as before, and this one as many as it was known to require
      pub lone_require_stored : Contains goals goal
          → (answer.nested_goals ≡ [] → HasLone same old goals answer.required_depth)
          → LoneRequire same old goals → LoneRequire same new goals
      lone_require_stored within requires h = by stores
        where
          by : StoresAnswer same old new goal answer → LoneRequire same new goals
          by (NotStored is) = subst (λ results. LoneRequire same results goals) (sym is) h
          by (Put token none puts) = λ other s among at empty. elim (put_cases same by_value old new goal
              (place_of answer) (stored_from answer token) puts other Success) [
                | inl w ↦
                    let here : stored_at same new other Success ≡ Some (stored_from answer token) =
                    ap₂ (stored_at same new) (sym w.0) (sym w.1) ∙ puts.here in
                    let found : Some (stored_from answer token) ≡ Some s = sym here ∙ at in
                    let is : stored_from answer token ≡ s = cc in
                    let lone : IsLone same new other =
                    subst (λ o. IsSomeAnd o (λ (t : StoredResult I R T). t.nested_goals ≡ [])) (sym at) empty in
                    let nothing : answer.nested_goals ≡ [] =
                    ap (λ (t : StoredResult I R T). t.nested_goals) is ∙ empty in
                    subst (λ (t : StoredResult I R T). HasLone same new goals (t.required_depth + 1)) is
                    (one_more same old new (lone_after stores) goals goal not_yet answer.required_depth within
                    (subst (IsLone same new) (sym w.0) lone) (requires nothing))
                | inr unchanged ↦ has_lone_kept same old new (lone_after stores) goals (s.required_depth + 1)
                    (h other s among (sym unchanged ∙ at) empty)
              ]

      -- and of other goals under evaluation none is lone still
      pub none_lone_stored : {F : Type 0} (items : List (OpenGoal X F I R A T)) → All (λ s. s.0.input ≢ goal) items
          → NoneIsLone same old goals items → NoneIsLone same new goals items
      none_lone_stored [] differ h = tt
      none_lone_stored (s ∷ below) differ h = (
        λ lone. elim (lone_before stores s.0.input lone) [
          | inl is ↦ All-head (λ t. t.0.input ≢ goal) s below differ (sym is)
          | inr before ↦ h.0 before
        ],
        λ empty. has_lone_kept same old new (lone_after stores) goals s.0.state.required_depth (h.1 empty),
        none_lone_stored below (All-tail (λ t. t.0.input ≢ goal) s below differ) h.2,
      )

-- ---- the newest goal changes

module _ {I R T : Type 0} (same : I → I → Bool) (results : Store I (StoredResult I R T)) (goals : List I) where
  -- another newest goal of the same input, which may be in more need of lone goals
  newest_kept : {F X A : Type 0} (s t : OpenGoal X F I R A T) (below : List (OpenGoal X F I R A T))
      → t.0.input ≡ s.0.input → ((s.0.state.nested_goals ≡ [] → HasLone same results goals s.0.state.required_depth)
      → t.0.state.nested_goals ≡ [] → HasLone same results goals t.0.state.required_depth)
      → NoneIsLone same results goals (s ∷ below) → NoneIsLone same results goals (t ∷ below)
  newest_kept s t below is requires h = (λ lone. h.0 (subst (IsLone same results) is lone), requires h.1, h.2)

  -- what the newest goal needs once it has taken over the nested goals of an answer that required the depth
  taken_needs : (own : I) (step : PathKind) (answer was after : NestedPaths I) (a b : ℕ)
      → TakesNestedGoals same own step answer was after → (answer ≡ [] → HasLone same results goals (b + 1))
      → (was ≡ [] → HasLone same results goals a) → after ≡ [] → HasLone same results goals (max a (b + 1))
  taken_needs own step answer was after a b (Nothing none is) needs before empty =
      most_needed same results goals a (b + 1) (before (sym is ∙ empty)) (needs none)
  taken_needs own step answer was after a b (Joined between some joined itself) needs before empty =
      absurd (joined_are_some same between after own _ itself empty)

  module _ {F X A : Type 0} (old new : List (OpenGoal X F I R A T)) where
    -- it takes over an answer that has its own nested goals, and the depth that it required
    pub answered_none_lone : (step : PathKind) (required : ℕ) (overflow : Bool) (heads : Heads) (nested : NestedPaths I)
        → (nested ≡ [] → HasLone same results goals (required + 1)) → AnswersNewest step required overflow heads old new
        → NestsAnswer same step nested old new → NoneIsLone same results goals old → NoneIsLone same results goals new
    answered_none_lone step required overflow heads nested needs a nests h =
        let takes : TakesNestedGoals same a.entry.input step nested a.entry.state.nested_goals a.state.nested_goals =
        subst (λ l. NestsAnswer same step nested ((a.entry, a.run) ∷ a.below) l) a.is
        (subst (λ l. NestsAnswer same step nested l new) a.was nests) in
        let depth : a.state.required_depth ≡ max a.entry.state.required_depth (required + 1) =
        ap (λ (s : EntryState X I R A T). s.required_depth) a.takes.others in
        subst (NoneIsLone same results goals) (sym a.is)
        (newest_kept (a.entry, a.run) (record a.entry { state = a.state }, a.run) a.below refl
        (λ before empty. subst (HasLone same results goals) (sym depth) (taken_needs a.entry.input step nested
        a.entry.state.nested_goals a.state.nested_goals a.entry.state.required_depth required takes needs before empty))
        (subst (NoneIsLone same results goals) a.was h))

    -- or the head of a cycle that its question closed
    pub cycled_none_lone : (step : PathKind) (required : ℕ) (overflow : Bool) (heads : Heads) (goal : I)
        → AnswersNewest step required overflow heads old new → NestsHead same step goal old new
        → NoneIsLone same results goals old → NoneIsLone same results goals new
    cycled_none_lone step required overflow heads goal a nests h =
        let takes = subst (λ l. NestsHead same step goal ((a.entry, a.run) ∷ a.below) l) a.is
        (subst (λ l. NestsHead same step goal l new) a.was nests) in
        subst (NoneIsLone same results goals) (sym a.is)
        (newest_kept (a.entry, a.run) (record a.entry { state = a.state }, a.run) a.below refl
        (λ before empty.
        absurd (joined_are_some same takes.between a.state.nested_goals a.entry.input _ takes.itself empty))
        (subst (NoneIsLone same results goals) a.was h))

    -- or a provisional entry
    pub provisional_none_lone : (step : PathKind) (required : ℕ) (overflow : Bool) (heads : Heads)
        → AnswersNewest step required overflow heads old new → NestsItself same old new
        → NoneIsLone same results goals old → NoneIsLone same results goals new
    provisional_none_lone step required overflow heads a nests h =
        let joins = subst (λ l. NestsItself same ((a.entry, a.run) ∷ a.below) l) a.is
        (subst (λ l. NestsItself same l new) a.was nests) in
        subst (NoneIsLone same results goals) (sym a.is)
        (newest_kept (a.entry, a.run) (record a.entry { state = a.state }, a.run) a.below refl
        (λ before empty.
        absurd (joined_are_some same a.entry.state.nested_goals a.state.nested_goals a.entry.input _ joins empty))
        (subst (NoneIsLone same results goals) a.was h))

    -- or it takes a stored result
    pub taken_none_lone : (step : PathKind) (hit : Hit I R T)
        → (hit.nested_goals ≡ [] → HasLone same results goals (hit.required_depth + 1))
        → TakesStored same step hit old new → NoneIsLone same results goals old → NoneIsLone same results goals new
    taken_none_lone step hit needs t h =
        subst (NoneIsLone same results goals) (sym t.is)
        (newest_kept (t.entry, t.run) (
          record t.entry {
            state = with_nested_goals (with_depth t.entry.state hit.required_depth hit.encountered_overflow) t.nested;
          },
          t.run,
        ) t.below refl
        (λ before empty. taken_needs t.entry.input step hit.nested_goals t.entry.state.nested_goals t.nested
        t.entry.state.required_depth hit.required_depth t.takes needs before empty)
        (subst (NoneIsLone same results goals) t.was h))

  -- a stored result is used that met no overflow; if it has no nested goals, its goal is lone
  used_needs : (accepts : NestedPaths I → Bool) (depth : ℕ)
      (success overflow : Option (StoredResult I R T)) (hit : Hit I R T)
      → overflow ≡ None → first_accepted accepts (successes depth success ++ overflows depth overflow) ≡ Some hit
      → IsSomeAnd success (λ s. (s.nested_goals ≡ hit.nested_goals) × (s.required_depth ≡ hit.required_depth))
  used_needs accepts depth None None hit none found = absurd cc
  used_needs accepts depth None (Some s) hit none found = absurd cc
  used_needs accepts depth (Some s) (Some t) hit none found = absurd cc
  used_needs accepts depth (Some s) None hit none found =
      by (nat_le s.required_depth depth) (accepts s.nested_goals) refl found
    where
      by : (fits accepted : Bool) → accepts s.nested_goals ≡ accepted
          → first_accepted accepts ((if fits then hit_at s.required_depth false s ∷ [] else []) ++ []) ≡ Some hit
          → (s.nested_goals ≡ hit.nested_goals) × (s.required_depth ≡ hit.required_depth)
      by false accepted is at = absurd cc
      by true true is at =
          let same_hit : Some (hit_at s.required_depth false s) ≡ Some hit =
          sym (ap (λ b. if b then Some (hit_at s.required_depth false s) else None) is) ∙ at in
          let one : hit_at s.required_depth false s ≡ hit = cc in
          (ap (λ (h : Hit I R T). h.nested_goals) one, ap (λ (h : Hit I R T). h.required_depth) one)
      by true false is at =
          let no_hit : None ≡ Some hit =
          sym (ap (λ b. if b then Some (hit_at s.required_depth false s) else None) is) ∙ at in
          absurd cc

  pub found_needs : (accepts : NestedPaths I → Bool) (goal : I) (depth : ℕ) (hit : Hit I R T) → Contains goals goal
      → stored_at same results goal (WithOverflow depth) ≡ None
      → first_accepted accepts (usable same results goal depth) ≡ Some hit → LoneRequire same results goals
      → hit.nested_goals ≡ [] → HasLone same results goals (hit.required_depth + 1)
  found_needs accepts goal depth hit within no_overflow found h empty =
      let w = some_and (stored_at same results goal Success) _ (used_needs accepts depth
      (stored_at same results goal Success) (stored_at same results goal (WithOverflow depth)) hit no_overflow found) in
      subst (λ n. HasLone same results goals (n + 1)) w.2.1 (h goal w.0 within w.1 (w.2.0 ∙ empty))

-- ---- requests, and the moves that push a goal, run it again and pop it

module _ {D C V P F I R A T : Type 0} (G : DelegateOf D C V P F I R A T) (X : CxOf C I R A T) (cx : C)
    (same : I → I → Bool) (results : Store I (StoredResult I R T)) (goals : List I) where
  -- the newest goal takes a step,
  pub stepped_none_lone : (given : Received R) (request : Request I R) (old new : List (OpenGoal C F I R A T))
      → HasStepped G X cx given request old new → NoneIsLone same results goals old → NoneIsLone same results goals new
  stepped_none_lone given request old new s h =
      subst (NoneIsLone same results goals) (sym s.is)
      (newest_kept same results goals (s.entry, s.run) (
        s.entry,
        record s.run { frame = s.frame; progress = requested (received_by G X cx s.run given s.verdict) request },
      ) s.below refl (λ before. before)
      (subst (NoneIsLone same results goals) s.was h))

  -- or a goal that is not lone is pushed,
  pub pushed_none_lone : (input : I) (kind : PathKind) (depth : AvailableDepth) (before after : List (CacheNode I R))
      (old new : List (OpenGoal C F I R A T)) → Pushes G X cx input kind depth before after old new
      → (IsLone same results input → ⊥) → NoneIsLone same results goals old → NoneIsLone same results goals new
  pushed_none_lone input kind depth before after old new p not_lone h =
      subst (NoneIsLone same results goals) (sym p.is) (not_lone, λ empty. none_needed same results goals, h)

  -- or the newest goal is run again
  pub rerun_none_lone : (r : R) (old new : List (OpenGoal C F I R A T)) → Reruns G X cx r old new
      → NoneIsLone same results goals old → NoneIsLone same results goals new
  rerun_none_lone r old new a h =
      subst (NoneIsLone same results goals) (sym a.is)
      (newest_kept same results goals a.item
      (rerun_with r a.target a.frame a.own (with_no_record a.item)) a.below refl (λ before. before)
      (subst (NoneIsLone same results goals) a.was h))

module _ {X F I R A T : Type 0} (same : I → I → Bool)
    (results : Store I (StoredResult I R T)) (goals : List I) where
  -- what it notes of candidates changes neither its nested goals nor the depth that it requires
  pub noted_none_lone : (request : Request I R) (old new : List (OpenGoal X F I R A T)) → NotesCandidate request old new
      → NoneIsLone same results goals old → NoneIsLone same results goals new
  noted_none_lone (Evaluate kind goal) old new noted h = subst (NoneIsLone same results goals) (sym noted) h
  noted_none_lone EnterCandidate [] new noted h = subst (NoneIsLone same results goals) (sym noted) h
  noted_none_lone EnterCandidate (s ∷ below) new noted h = subst (NoneIsLone same results goals) (sym noted) h
  noted_none_lone FinishCandidate [] new noted h = subst (NoneIsLone same results goals) (sym noted) h
  noted_none_lone FinishCandidate (s ∷ below) new noted h = subst (NoneIsLone same results goals) (sym noted) h
  noted_none_lone (Ignore n) old new noted h =
      subst (NoneIsLone same results goals) (sym noted.is)
      (newest_kept same results goals (noted.entry, noted.run) (
        record noted.entry { state = noted.state },
        record noted.run { candidates = slice_set noted.run.candidates n [] },
      ) noted.below refl
      (λ before empty. subst (HasLone same results goals)
      (sym (ap (λ (x : EntryState X I R A T). x.required_depth) noted.ignores.others))
      (before (sym (ap (λ (x : EntryState X I R A T). x.nested_goals) noted.ignores.others) ∙ empty)))
      (subst (NoneIsLone same results goals) noted.was h))
  noted_none_lone (Done r) old new noted h = subst (NoneIsLone same results goals) (sym noted) h

  -- the newest goal was popped, and the goal below it has its answer, if there is one
  pub popped_none_lone : (r : R) (s : OpenGoal X F I R A T) (below new : List (OpenGoal X F I R A T)) (next : Next R)
      → (s.0.state.nested_goals ≡ [] → HasLone same results goals (s.0.state.required_depth + 1))
      → NewestLeaves r (s ∷ below) next new → LeavesNested same (s ∷ below) new
      → NoneIsLone same results goals below → NoneIsLone same results goals new
  popped_none_lone r s [] new next needs leaves nested h = subst (NoneIsLone same results goals) (sym leaves.2) tt
  popped_none_lone r s (p ∷ below) new next needs leaves nested h =
      answered_none_lone same results goals (p ∷ below) new s.0.step_kind_from_parent s.0.state.required_depth
      (s.0.state.encountered_overflow || s.1.met_overflow_before) s.0.state.heads
      s.0.state.nested_goals needs leaves.2 nested h

  -- and the popped goal is lone if it has no nested goals, met no overflow, and was stored
  pub popped_needs :
      (token : I → T) (s : OpenGoal X F I R A T) (below : List (OpenGoal X F I R A T)) (r : R) (target : Option NodeId)
      → (s.0.state.encountered_overflow || s.1.met_overflow_before) ≡ false → s.1.fate ≡ becomes.Stored
      → (s.0.state.heads ≢ [] → s.0.state.nested_goals ≢ []) → IsNewestStored same token (s ∷ below) r target results
      → Contains goals s.0.input → LoneRequire same results goals → s.0.state.nested_goals ≡ []
      → HasLone same results goals (s.0.state.required_depth + 1)
  popped_needs token s below r target calm stores heads stored within h empty =
      h s.0.input (stored_from (final_answer s r target) (token s.0.input)) within
      (subst (λ b. stored_at same results s.0.input (if b then WithOverflow s.0.state.required_depth else Success)
      ≡ Some (stored_from (final_answer s r target) (token s.0.input)))
      calm (stored stores (no_heads_if s.0.state.heads (λ some. heads some empty)))) empty

-- ---- where a lone goal is asked

module _ {D C V P F I R A T : Type 0} (G : DelegateOf D C V P F I R A T) (X : CxOf C I R A T) (cx : C)
    (same : I → I → Bool) (results : Store I (StoredResult I R T)) (goals : List I) where
  -- a lone goal is not under evaluation
  lone_not_on_stack : (items : List (OpenGoal C F I R A T)) (frames : List (Frame I R))
      → AreSeen (seen G X cx) (Stood G X cx) items frames → NoneIsLone same results goals items → (goal : I)
      → IsLone same results goal → IsOnStack (G.script cx) goal frames → ⊥
  lone_not_on_stack [] [] m h goal lone on = on
  lone_not_on_stack [] (f ∷ fs) m h goal lone on = absurd m
  lone_not_on_stack (s ∷ below) [] m h goal lone on = absurd m
  lone_not_on_stack (s ∷ below) (f ∷ fs) m h goal lone on = elim on [
    | inl is ↦ h.0 (subst (IsLone same results) (sym is ∙ ap (λ (g : Frame I R). g.goal) m.0.is) lone)
    | inr lower ↦ lone_not_on_stack below fs m.1 h.2 goal lone lower
  ]

  -- the goals above the frames, each as a frame
  abbrev above : List I → List (Frame I R) → List (Frame I R)
  above [] frames = frames
  above (goal ∷ others) frames = fresh goal 0 0 ∷ above others frames

  above_length : (lone : List I) (frames : List (Frame I R)) → length (above lone frames) ≡ length lone + length frames
  above_length [] frames = omega arith
  above_length (goal ∷ others) frames = let rest = above_length others frames in omega (arith, rest)

  module _ (frames : List (Frame I R))
      (absent : (goal : I) → IsLone same results goal → IsOnStack (G.script cx) goal frames → ⊥) where
    above_absent : (goal : I) (others : List I) → IsLone same results goal → All (λ other. other ≢ goal) others
        → IsOnStack (G.script cx) goal (above others frames) → ⊥
    above_absent goal [] lone differ on = absent goal lone on
    above_absent goal (other ∷ others) lone differ on = elim on [
      | inl is ↦ All-head (λ x. x ≢ goal) other others differ is
      | inr lower ↦ above_absent goal others lone (All-tail (λ x. x ≢ goal) other others differ) lower
    ]

    above_distinct : (lone : List I) → AreLone same results goals lone → AreDistinct (G.script cx) goals frames
        → AreDistinct (G.script cx) goals (above lone frames)
    above_distinct [] h d = d
    above_distinct (goal ∷ others) h d = (h.0, above_absent goal others h.1 h.2, above_distinct others h.3 d)

    -- so the lone goals and those under evaluation are no more than all goals
    few_lone : (many : ℕ) → HasLone same results goals many → AreDistinct (G.script cx) goals frames
        → many + length frames ≤ length goals
    few_lone many h d = elim (cases_lt (length goals) (length (above h.lone frames))) [
      | inl more ↦
          absurd (few_frames (G.script cx) goals (above h.lone frames) (above_distinct h.lone h.are_lone d) more)
      | inr few ↦ let long : length h.lone ≡ many = h.long in let is = above_length h.lone frames in
          omega (arith, few, long, is)
    ]

-- what answers a goal with a builder that does not record, and outside a scope, is what is found
found_of_answered : {H : Type 0} (noop in_scope : Bool) (found : Option H) → noop ≡ true → in_scope ≡ false
    → answered_by noop in_scope found ≡ None → found ≡ None
found_of_answered true false found records scoped none = none
found_of_answered true true found records scoped none = absurd cc
found_of_answered false in_scope found records scoped none = absurd cc

pub hit_of_answered : {H : Type 0} (noop in_scope : Bool) (found : Option H) (hit : H)
    → answered_by noop in_scope found ≡ Some hit → found ≡ Some hit
hit_of_answered true false found hit is = is
hit_of_answered true true found hit is = absurd cc
hit_of_answered false in_scope found hit is = absurd cc

-- goals under evaluation are others than one that is not on the stack
items_differ : {D C V P F I R A T : Type 0} (G : DelegateOf D C V P F I R A T) (X : CxOf C I R A T) (cx : C) (goal : I)
    (items : List (OpenGoal C F I R A T)) (frames : List (Frame I R))
    → AreSeen (seen G X cx) (Stood G X cx) items frames
    → (IsOnStack (G.script cx) goal frames → ⊥) → All (λ t. t.0.input ≢ goal) items
items_differ G X cx goal [] frames m absent = All-nil (λ t. t.0.input ≢ goal)
items_differ G X cx goal (s ∷ below) [] m absent = absurd m
items_differ G X cx goal (s ∷ below) (f ∷ fs) m absent =
    All-cons (λ t. t.0.input ≢ goal) s below (λ is. absent (inl (ap (λ (g : Frame _ _). g.goal) m.0.is ∙ is)))
    (items_differ G X cx goal below fs m.1 (λ on. absent (inr on)))

module _ {D C V P F I R A T : Type 0} (G : DelegateOf D C V P F I R A T) (X : CxOf C I R A T) (cx : C) (call : Call I)
    (same : I → I → Bool) (results : Store I (StoredResult I R T)) (enclosed : CallIsEnclosed G X cx call)
    (require : LoneRequire same results call.goals) where
  -- a lone goal that the newest goal asks is answered by what is stored of it
  pub lone_is_answered : (ahead : ℕ) (kind : PathKind) (goal : I) (items : List (OpenGoal C F I R A T)) (starts : ℕ)
      (met : Bool) (depth : ℕ) → ((s : OpenGoal C F I R A T) (below : List (OpenGoal C F I R A T)) → items ≡ s ∷ below
      → IsAllowed (seen G X cx s) depth) → HasAsked G X cx call ahead (Evaluate kind goal) items starts met
      → NoneIsLone same results call.goals items → IsLone same results goal → (accepts : NestedPaths I → Bool)
      → ((nested : NestedPaths I) → nested ≡ [] → true ≡ accepts nested)
      → first_accepted accepts (usable same results goal depth) ≡ None → ⊥
  lone_is_answered ahead kind goal [] starts met depth may h none lone accepts accepted absent = absurd h.asked.mirror
  lone_is_answered ahead kind goal (s ∷ below) starts met depth may h none lone accepts accepted absent =
      let w = some_and (stored_at same results goal Success) _ lone in
      let stays : StayEnclosed (G.script cx) call.goals call.root (h.asked.f ∷ h.asked.below) =
      h.asked.evaluating.enclosed enclosed in
      let few : w.0.required_depth + 1 + length (h.asked.f ∷ h.asked.below) ≤ length call.goals =
      few_lone G X cx same results call.goals (h.asked.f ∷ h.asked.below) (lone_not_on_stack G X cx same results
      call.goals (s ∷ below) (stepped h.asked.f h.asked.left ∷ h.asked.below) h.asked.mirror none)
      (w.0.required_depth + 1) (require goal w.0
      (enclosed_asks G X cx call ahead kind goal (s ∷ below) starts met enclosed h) w.1 w.2) stays.distinct in
      let at : h.asked.f.available + length h.asked.below ≡ call.root = stays.depths.0 in
      let same_depth : h.asked.f.available ≡ s.0.available_depth.0 =
      ap (λ (g : Frame I R). g.available) h.asked.mirror.0.is in
      let calm : s.0.state.encountered_overflow ≡ false =
      sym (ap (λ (g : Frame I R). g.met_overflow) h.asked.mirror.0.is) ∙ stays.depths.1 in
      let next : s.0.available_depth.0 ≡ suc depth = (may s below refl).is_next calm in
      let fits : length call.goals ≤ call.root = enclosed.fits in
      let found : first_accepted accepts (usable same results goal depth) ≡ Some (hit_at w.0.required_depth false w.0) =
      lone_found accepts depth same results goal w.0 w.1 (sym (accepted w.0.nested_goals w.2))
      (omega (arith, few, at, same_depth, next, fits)) in
      absurd cc

  -- so no lone goal is pushed: of a question that is answered neither by an entry nor by a stored
  -- result the goal is not lone
  pub asked_not_lone : (ahead : ℕ) (kind : PathKind) (goal : I) (items : List (OpenGoal C F I R A T)) (starts : ℕ)
      (met : Bool) (depth : ℕ) → ((s : OpenGoal C F I R A T) (below : List (OpenGoal C F I R A T))
      → items ≡ s ∷ below → IsAllowed (seen G X cx s) depth)
      → HasAsked G X cx call ahead (Evaluate kind goal) items starts met → NoneIsLone same results call.goals items
      → (asking : Asking C I R A T) (noop in_scope : Bool) → noop ≡ true → in_scope ≡ false
      → answered_by noop in_scope (first_accepted (is_applicable same asking) (usable same results goal depth)) ≡ None
      → IsLone same results goal → ⊥
  asked_not_lone ahead kind goal items starts met depth may h none asking noop in_scope records scoped unanswered lone =
      lone_is_answered ahead kind goal items starts met depth may h none lone
      (is_applicable same asking) (empty_is_applicable same asking)
      (found_of_answered noop in_scope (first_accepted (is_applicable same asking) (usable same results goal depth))
      records scoped unanswered)

  -- nor is the goal of the call, if nothing stored answers it
  pub top_not_lone : (accepts : NestedPaths I → Bool) → ((nested : NestedPaths I) → nested ≡ [] → true ≡ accepts nested)
      → first_accepted accepts (usable same results call.top call.root) ≡ None → IsLone same results call.top → ⊥
  top_not_lone accepts accepted absent lone =
      let w = some_and (stored_at same results call.top Success) _ lone in
      let few : w.0.required_depth + 1 + length {A = Frame I R} [] ≤ length call.goals =
      few_lone G X cx same results call.goals [] (λ goal lone on. on) (w.0.required_depth + 1)
      (require call.top w.0 enclosed.within w.1 w.2) tt in
      let fits : length call.goals ≤ call.root = enclosed.fits in
      let found : first_accepted accepts (usable same results call.top call.root)
      ≡ Some (hit_at w.0.required_depth false w.0) =
      lone_found accepts call.root same results call.top w.0 w.1
      (sym (accepted w.0.nested_goals w.2)) (omega (arith, few, fits)) in
      absurd cc

  -- a goal that is answered by what is stored requires as many lone goals as that, so none under
  -- evaluation is lone still
  pub stored_none_lone : (ahead : ℕ) (kind : PathKind) (goal : I) (items new : List (OpenGoal C F I R A T))
      (starts : ℕ) (met : Bool) (depth : ℕ)
      → HasAsked G X cx call ahead (Evaluate kind goal) items starts met → KeepsStore G X cx same call met results
      → (accepts : NestedPaths I → Bool) (noop in_scope : Bool) (hit : Hit I R T)
      → answered_by noop in_scope (first_accepted accepts (usable same results goal depth)) ≡ Some hit
      → TakesStored same kind hit items new → NoneIsLone same results call.goals items
      → NoneIsLone same results call.goals new
  stored_none_lone ahead kind goal items new starts met depth h store accepts noop in_scope hit answered takes =
      let within : Contains call.goals goal = enclosed_asks G X cx call ahead kind goal items starts met enclosed h in
      taken_none_lone same results call.goals items new kind hit
      (found_needs same results call.goals accepts goal depth hit within
      (store.overflow (inr enclosed) goal (inr within) depth)
      (hit_of_answered noop in_scope (first_accepted accepts (usable same results goal depth)) hit answered) require)
      takes

  -- the newest goal's answer was stored, and the goal popped
  pub popped_lone : (by_value : (x y : I) → same x y ≡ true → x ≡ y) (token : I → T) (ahead : ℕ) (request : Request I R)
      (s : OpenGoal C F I R A T) (below after : List (OpenGoal C F I R A T)) (starts : ℕ) (met : Bool) (r : R)
      (target : Option NodeId) (next : Next R) (later : Store I (StoredResult I R T))
      → HasAsked G X cx call ahead request (s ∷ below) starts met → s.1.fate ≡ becomes.Stored
      → (s.0.state.heads ≢ [] → s.0.state.nested_goals ≢ [])
      → StoresAnswer same results later s.0.input (final_answer s r target)
      → IsNewestStored same token (s ∷ below) r target later
      → NewestLeaves r (s ∷ below) next after → LeavesNested same (s ∷ below) after
      → NoneIsLone same results call.goals (s ∷ below)
      → LoneRequire same later call.goals × NoneIsLone same later call.goals after
  popped_lone by_value token ahead request s below after starts met r target next later h fate
      heads stores stored leaves nested none =
      let stays : StayEnclosed (G.script cx) call.goals call.root (h.asked.f ∷ h.asked.below) =
      h.asked.evaluating.enclosed enclosed in
      let is : h.asked.f.goal ≡ s.0.input = ap (λ (g : Frame I R). g.goal) h.asked.mirror.0.is in
      let within : Contains call.goals s.0.input = subst (Contains call.goals) is stays.distinct.0 in
      let calm : (s.0.state.encountered_overflow || s.1.met_overflow_before) ≡ false =
      sym (ap (λ (g : Frame I R). g.met_overflow || g.met_before) h.asked.mirror.0.is)
      ∙ left_calm I R call.root h.asked.f h.asked.below stays.depths in
      let differ : All (λ (t : OpenGoal C F I R A T). t.0.input ≢ s.0.input) below =
      items_differ G X cx s.0.input below h.asked.below h.asked.mirror.1
      (subst (λ goal. IsOnStack (G.script cx) goal h.asked.below → ⊥) is stays.distinct.1) in
      let required : LoneRequire same later call.goals =
      lone_require_stored same by_value results later s.0.input (final_answer s r target) none.0
      call.goals stores within none.1 require in (
        required,
        popped_none_lone same later call.goals r s below after next (popped_needs same later call.goals token s below r
            target calm fate heads stored within required) leaves nested
            (none_lone_stored same by_value results later s.0.input (final_answer s r target) none.0
            call.goals stores below differ none.2),
      )
