-- Each move keeps the kinds of questions.
use Rattle.std.proofs.Common.{◌≡◌, ◌≢◌, ℕ, ◌==◌, if◌then◌else◌, filter, Bool, true, false, List, [], ◌∷◌, length}
use Rattle.std.proofs.Common.{slice_get, slice_set, IsSome, Option, None, Some, All, Contains, option_map, refl, sym}
use Rattle.std.proofs.Common.{ap, ap₂, ◌∙◌, subst, inl, inr, arith}
use Rattle.std.specs.List.{find}
use Rattle.std.proofs.lemmas.Bool.{cases_eq, false≢true}
use Rattle.std.proofs.lemmas.List.Elements.{All-contains, All-filter}
use Rattle.global_cache.proofs.Stores.{put_cases}
use Rattle.list_lemmas.proofs.Members.{contains_later}
use Rattle.cycle_heads.proofs.HeadLists.{at_depth-rest}
use Rattle.goal_changes.specs.Candidates.{less_head}
use Rattle.goal_changes.specs.NestedGoals.{NestsItself}
use Rattle.search_graph.specs.Reaching.{AsksNewest, here}
use Rattle.two_runs.specs.Below.{AnswersNewest, at_depth, CxOf, CycleHead, DelegateOf, Done, EnterCandidate, enters}
use Rattle.two_runs.specs.Below.{entries_at, EntryState, Evaluate, EvaluationResult, FinishCandidate, finishes}
use Rattle.two_runs.specs.Below.{HasStepped, Heads, HeadUsages, Hit, Ignore, Lists, may_be_used, NestedPaths}
use Rattle.two_runs.specs.Below.{NestsAnswer, NestsHead, NotesCandidate, OpenGoal, PathKind, paths_at, place_of}
use Rattle.two_runs.specs.Below.{ProvisionalCacheEntry, RebaseReason, Received, received_by, Reply, Request, requested}
use Rattle.two_runs.specs.Below.{rerun_with, StackDepth, StackEntry, Store, stored_at, stored_from, StoredResult}
use Rattle.two_runs.specs.Below.{Success, TakesStored, with_no_record}
use Rattle.search_rules.specs.LookUp.{usable_entry}
use Rattle.search_rules.specs.Moves.{Reruns}
use Rattle.search_rules.specs.Results.{NotStored, Put, StoresAnswer}
use Rattle.search_rules.specs.Words.{RebasesEntries}
use Rattle.two_runs.specs.Kinds.{AreJoined, EntriesSuit, EntryIsLinked, IsGoalAt, IsJoinedTo, KeepsKinds}
use Rattle.two_runs.specs.Kinds.{ReachesNested, StoredReachNested}
use Rattle.two_runs.proofs.kinds.PoppedEntries.{disabled_popped, entries_popped}
use Rattle.two_runs.proofs.kinds.Stack.{at_read, stack_of}
use Rattle.two_runs.proofs.kinds.TakenAnswers.{answered_linked, at_changed, cycled_linked, entries_kept, newest_linked}
use Rattle.two_runs.proofs.kinds.TakenAnswers.{provisional_linked, stored_at_places, stored_linked, taken_at}
use Rattle.two_runs.proofs.kinds.UsedEntries.{HaveHeads}

found_among : {E : Type 0} (p : E → Bool) (xs : List E) (x : E) → find p xs ≡ Some x → Contains xs x
found_among p [] x is = absurd cc
found_among p (y ∷ ys) x is = by (p y) (found_among p ys x) is
  where
    by : (b : Bool) → (find p ys ≡ Some x → Contains ys x)
        → (if b then Some y else find p ys) ≡ Some x → Contains (y ∷ ys) x
    by true rest found = let one : y ≡ x = cc in (0, omega arith, one)
    by false rest found = contains_later x y ys (rest found)

usable_among :
    {X I R A T : Type 0} (same : I → I → Bool) (enabled : Bool) (stack : List (StackEntry X I R A T)) (step : PathKind)
    (entries : Lists I (ProvisionalCacheEntry X I R A T)) (goal : I) (entry : ProvisionalCacheEntry X I R A T)
    → usable_entry same enabled (record { stack = stack; entries = entries; step = step }) goal ≡ Some entry
    → Contains (entries_at same entries goal) entry
usable_among same true stack step entries goal entry is =
    found_among (may_be_used stack step) (entries_at same entries goal) entry is
usable_among same false stack step entries goal entry is = absurd cc

-- the only head of a cycle
one_head : (head depth : StackDepth) (c : CycleHead) → IsSome (at_depth ((head, c) ∷ []) depth) → depth.0 ≡ head.0
one_head head depth c there = elim (cases_eq depth.0 head.0) [
  | inl is ↦ is
  | inr other ↦ absurd (false≢true (subst IsSome (at_depth-rest head depth c [] other) there))
]

module _ {X F I R A T : Type 0} (scripts : I → List (Reply R) → Request I R)
    (same : I → I → Bool) (enabled : Bool) where
  -- ---- the newest goal changes

  -- it has no other heads, and the same nested goals
  pub newest_keeps : (s t : OpenGoal X F I R A T) (below : List (OpenGoal X F I R A T))
      (entries : Lists I (ProvisionalCacheEntry X I R A T))
      → s.0.input ≡ t.0.input → s.0.step_kind_from_parent ≡ t.0.step_kind_from_parent
      → ((depth : StackDepth) → IsSome (at_depth t.0.state.heads depth) → IsSome (at_depth s.0.state.heads depth))
      → s.0.state.nested_goals ≡ t.0.state.nested_goals
      → KeepsKinds scripts same enabled (s ∷ below) entries → KeepsKinds scripts same enabled (t ∷ below) entries
  newest_keeps s t below entries is same_step heads nested k = record {
    goals_are = newest_linked scripts same s t below is same_step
        (λ depth there.
        subst (λ g. IsJoinedTo scripts below g depth.0) is (k.goals_are.0.heads depth (heads depth there)))
        (subst (λ n. ReachesNested scripts same t.0.input n) nested
        (subst (λ g. ReachesNested scripts same g s.0.state.nested_goals) is k.goals_are.0.nested)) k.goals_are;
    entries_are = entries_kept scripts (s ∷ below) (t ∷ below) (at_changed s t below is) same entries k.entries_are;
    disabled = k.disabled;
  }

  module _ (by_value : (x y : I) → same x y ≡ true → x ≡ y) (old new : List (OpenGoal X F I R A T)) (step : PathKind)
      (goal : I) (asks : AsksNewest scripts old step goal) (entries : Lists I (ProvisionalCacheEntry X I R A T))
      (k : KeepsKinds scripts same enabled old entries) where
    -- its question is answered by an entry,
    pub entry_keeps_kinds : (entry : ProvisionalCacheEntry X I R A T) (required : ℕ) (overflow : Bool)
        → usable_entry same enabled (record { stack = stack_of old; entries = entries; step = step }) goal ≡ Some entry
        → AnswersNewest step required overflow entry.heads old new → NestsItself same old new
        → KeepsKinds scripts same enabled new entries
    entry_keeps_kinds entry required overflow is a nests =
        let e = All-contains (EntryIsLinked scripts same old goal) (entries_at same entries goal) entry
        (k.entries_are goal) (usable_among same enabled (stack_of old) step entries goal entry is) in
        record {
          goals_are = provisional_linked scripts same by_value old new step goal k.goals_are asks required
              overflow entry.heads a e.heads nests;
          entries_are = entries_kept scripts old new (taken_at scripts same by_value old new step goal k.goals_are asks
              required overflow entry.heads a e.heads) same entries k.entries_are;
          disabled = k.disabled;
        }

    -- by a stored result,
    pub stored_keeps_kinds : (hit : Hit I R T) → TakesStored same step hit old new
        → ReachesNested scripts same goal hit.nested_goals → KeepsKinds scripts same enabled new entries
    stored_keeps_kinds hit t reached = record {
      goals_are = stored_linked scripts same by_value old new step goal k.goals_are asks hit t reached;
      entries_are = entries_kept scripts old new
          (stored_at_places scripts same by_value old new step goal k.goals_are asks hit t) same entries k.entries_are;
      disabled = k.disabled;
    }

    -- or by the head of a cycle
    module _ (head : StackDepth) (c : CycleHead) (entry : StackEntry X I R A T)
        (is_at : slice_get (stack_of old) head.0 ≡ Some entry) (of_goal : entry.input ≡ goal) where
      cycle_joined : AreJoined scripts old goal ((head, c) ∷ [])
      cycle_joined depth there = record {
        head = goal;
        is_at = subst (λ place. IsGoalAt old place goal) (sym (one_head head depth c there))
            (subst (IsGoalAt old head.0) of_goal (at_read old head.0 entry is_at));
        there = here;
        back = here;
      }

      pub cycle_keeps_kinds : (required : ℕ) (overflow : Bool)
          → AnswersNewest step required overflow ((head, c) ∷ []) old new → NestsHead same step goal old new
          → KeepsKinds scripts same enabled new entries
      cycle_keeps_kinds required overflow a nests = record {
        goals_are = cycled_linked scripts same by_value old new step goal k.goals_are asks required overflow
            ((head, c) ∷ []) a cycle_joined nests;
        entries_are = entries_kept scripts old new (taken_at scripts same by_value old new step goal k.goals_are asks
            required overflow ((head, c) ∷ []) a cycle_joined) same entries k.entries_are;
        disabled = k.disabled;
      }

  -- ---- goals and entries come and go

  -- a goal is pushed that has neither heads nor nested goals yet
  pub pushed_keeps_kinds : (s : OpenGoal X F I R A T) (below : List (OpenGoal X F I R A T))
      (entries : Lists I (ProvisionalCacheEntry X I R A T))
      → AsksNewest scripts below s.0.step_kind_from_parent s.0.input → s.0.state.heads ≡ []
      → s.0.state.nested_goals ≡ [] → KeepsKinds scripts same enabled below entries
      → KeepsKinds scripts same enabled (s ∷ below) entries
  pushed_keeps_kinds s below entries asks no_heads none_nested k = record {
    goals_are = (
      record {
        asked = asks;
        heads = λ depth there. absurd (false≢true (subst (λ (hs : Heads). IsSome (at_depth hs depth)) no_heads there));
        nested = λ other paths found. (let wrong : None ≡ Some paths =
            sym (ap (λ (n : NestedPaths I). paths_at same n other) none_nested) ∙ found in absurd cc);
      },
      k.goals_are,
    );
    entries_are = entries_kept scripts below (s ∷ below) (λ place goal at. inr at) same entries k.entries_are;
    disabled = k.disabled;
  }

  -- entries are cleared
  pub cleared_keeps_kinds : (goals : List (OpenGoal X F I R A T)) (old new : Lists I (ProvisionalCacheEntry X I R A T))
      (stays : ProvisionalCacheEntry X I R A T → Bool)
      → ((goal : I) → entries_at same new goal ≡ filter stays (entries_at same old goal))
      → KeepsKinds scripts same enabled goals old → KeepsKinds scripts same enabled goals new
  cleared_keeps_kinds goals old new stays cleared k = record {
    goals_are = k.goals_are;
    entries_are = λ goal. subst (All (EntryIsLinked scripts same goals goal)) (sym (cleared goal))
        (All-filter stays (EntryIsLinked scripts same goals goal) (entries_at same old goal) (k.entries_are goal));
    disabled = λ off goal. cleared goal ∙ ap (filter stays) (k.disabled off goal);
  }

  -- there are no goals and no entries
  pub none_keeps_kinds : (entries : Lists I (ProvisionalCacheEntry X I R A T))
      → ((goal : I) → entries_at same entries goal ≡ []) → KeepsKinds {F = F} scripts same enabled [] entries
  none_keeps_kinds entries none = record {
    goals_are = tt;
    entries_are = λ goal. subst (All (EntryIsLinked scripts same [] goal)) (sym (none goal))
        (λ i d within. absurd (omega (arith, within)));
    disabled = λ off goal. none goal;
  }

  -- the newest goal is popped, and the one below it takes its answer over
  module _ (by_value : (x y : I) → same x y ≡ true → x ≡ y) (suits : EntriesSuit enabled scripts)
      (propagated : I → A → R) (overflow : I → R) (reason : Option (RebaseReason X I R A T)) (r : R)
      (s p : OpenGoal X F I R A T) (below : List (OpenGoal X F I R A T))
      (old entries : Lists I (ProvisionalCacheEntry X I R A T))
      (k : KeepsKinds scripts same enabled (s ∷ p ∷ below) old) (have : HaveHeads same old)
      (apart : reason ≡ None → (goal : I)
      → All (λ entry. (depth : StackDepth) → IsSome (at_depth entry.heads depth) → depth.0 ≢ length (p ∷ below))
      (entries_at same old goal))
      (rebases : RebasesEntries same enabled propagated overflow reason r s (p ∷ below) old entries)
      (new : List (OpenGoal X F I R A T)) (met : Bool) where
    pub popped_keeps_kinds : AnswersNewest s.0.step_kind_from_parent s.0.state.required_depth met s.0.state.heads
        (p ∷ below) new → NestsAnswer same s.0.step_kind_from_parent s.0.state.nested_goals (p ∷ below) new
        → KeepsKinds scripts same enabled new entries
    popped_keeps_kinds a nests =
        let here_is = k.goals_are.0 in
        record {
          goals_are = answered_linked scripts same by_value (p ∷ below) new s.0.step_kind_from_parent s.0.input
              k.goals_are.1 here_is.asked s.0.state.required_depth met s.0.state.heads a here_is.heads
              s.0.state.nested_goals here_is.nested nests;
          entries_are = entries_kept scripts (p ∷ below) new
              (taken_at scripts same by_value (p ∷ below) new s.0.step_kind_from_parent s.0.input k.goals_are.1
              here_is.asked s.0.state.required_depth met s.0.state.heads a here_is.heads) same entries
              (entries_popped scripts same s (p ∷ below) k.goals_are by_value enabled suits propagated overflow reason
              r old entries k have apart rebases);
          disabled = disabled_popped scripts same s (p ∷ below) k.goals_are by_value enabled suits propagated overflow
              reason r old entries k have apart rebases;
        }

-- the answer of a goal that reaches its nested goals was stored, or nothing was
pub stored_reach_nested : {X I R A T : Type 0} (scripts : I → List (Reply R) → Request I R) (same : I → I → Bool)
    (by_value : (x y : I) → same x y ≡ true → x ≡ y) (goals : List I) (results later : Store I (StoredResult I R T))
    (goal : I) (answer : EvaluationResult X I R A T)
    → ReachesNested scripts same goal answer.nested_goals → StoresAnswer same results later goal answer
    → StoredReachNested scripts same goals results → StoredReachNested scripts same goals later
stored_reach_nested scripts same by_value goals results later goal answer reached (NotStored is) h =
    subst (StoredReachNested scripts same goals) (sym is) h
stored_reach_nested {X} {I} {R} {A} {T} scripts same by_value goals results later goal answer reached
    (Put token none puts) h = λ other s among at.
    elim (put_cases same by_value results later goal (place_of answer) (stored_from answer token) puts other Success) [
      | inl w ↦
          let found : stored_at same later other Success ≡ Some (stored_from answer token) =
          ap₂ (stored_at same later) (sym w.0) (sym w.1) ∙ puts.here in
          let both : Some (stored_from answer token) ≡ Some s = sym found ∙ at in
          let is : stored_from answer token ≡ s = cc in
          subst (λ g. ReachesNested scripts same g s.nested_goals) w.0
          (subst (λ (n : StoredResult I R T). ReachesNested scripts same goal n.nested_goals) is reached)
      | inr unchanged ↦ h other s among (sym unchanged ∙ at)
    ]

-- ---- the newest goal's step, and what it notes of candidates

left_head : (here : Bool) (usages : Option HeadUsages) (was now : Option CycleHead)
    → now ≡ (if here then was else option_map (less_head usages) was) → IsSome now → IsSome was
left_head true usages was now is some = subst IsSome is some
left_head false usages None now is some = subst IsSome is some
left_head false usages (Some head) now is some = refl

module _ {X F I R A T : Type 0} (scripts : I → List (Reply R) → Request I R) (same : I → I → Bool) (enabled : Bool)
    (entries : Lists I (ProvisionalCacheEntry X I R A T)) where
  pub noted_keeps_kinds : (request : Request I R) (old new : List (OpenGoal X F I R A T))
      → NotesCandidate request old new → KeepsKinds scripts same enabled old entries
      → KeepsKinds scripts same enabled new entries
  noted_keeps_kinds (Evaluate kind goal) old new noted k =
      subst (λ l. KeepsKinds scripts same enabled l entries) (sym noted) k
  noted_keeps_kinds (Done r) old new noted k = subst (λ l. KeepsKinds scripts same enabled l entries) (sym noted) k
  noted_keeps_kinds EnterCandidate [] new noted k = subst (λ l. KeepsKinds scripts same enabled l entries) (sym noted) k
  noted_keeps_kinds EnterCandidate (s ∷ below) new noted k = subst (λ l. KeepsKinds scripts same enabled l entries)
      (sym noted) (newest_keeps scripts same enabled s (enters s) below entries refl refl (λ depth there. there) refl k)
  noted_keeps_kinds FinishCandidate [] new noted k =
      subst (λ l. KeepsKinds scripts same enabled l entries) (sym noted) k
  noted_keeps_kinds FinishCandidate (s ∷ below) new noted k =
      subst (λ l. KeepsKinds scripts same enabled l entries) (sym noted)
      (newest_keeps scripts same enabled s (finishes s) below entries refl refl (λ depth there. there) refl k)
  noted_keeps_kinds (Ignore n) old new noted k =
      subst (λ l. KeepsKinds scripts same enabled l entries) (sym noted.is)
      (newest_keeps scripts same enabled (noted.entry, noted.run) (
        record noted.entry { state = noted.state },
        record noted.run { candidates = slice_set noted.run.candidates n [] },
      ) noted.below entries refl refl
      (λ depth there. left_head (depth.0 == length noted.below) (at_depth noted.candidate depth)
      (at_depth noted.entry.state.heads depth) (at_depth noted.state.heads depth) (noted.ignores.heads depth) there)
      (ap (λ (x : EntryState X I R A T). x.nested_goals) (sym noted.ignores.others))
      (subst (λ l. KeepsKinds scripts same enabled l entries) noted.was k))

module _ {D C V P F I R A T : Type 0} (G : DelegateOf D C V P F I R A T) (X : CxOf C I R A T) (cx : C)
    (same : I → I → Bool) (enabled : Bool) (entries : Lists I (ProvisionalCacheEntry C I R A T))
    (old new : List (OpenGoal C F I R A T)) where
  pub stepped_keeps_kinds : (given : Received R) (request : Request I R) → HasStepped G X cx given request old new
      → KeepsKinds (G.script cx) same enabled old entries → KeepsKinds (G.script cx) same enabled new entries
  stepped_keeps_kinds given request s k =
      subst (λ l. KeepsKinds (G.script cx) same enabled l entries) (sym s.is)
      (newest_keeps (G.script cx) same enabled (s.entry, s.run) (
        s.entry,
        record s.run { frame = s.frame; progress = requested (received_by G X cx s.run given s.verdict) request },
      ) s.below entries refl refl (λ depth there. there) refl
      (subst (λ l. KeepsKinds (G.script cx) same enabled l entries) s.was k))

  -- it is run again
  pub rerun_keeps_kinds : (r : R) → Reruns G X cx r old new → KeepsKinds (G.script cx) same enabled old entries
      → KeepsKinds (G.script cx) same enabled new entries
  rerun_keeps_kinds r a k =
      subst (λ l. KeepsKinds (G.script cx) same enabled l entries) (sym a.is)
      (newest_keeps (G.script cx) same enabled a.item (rerun_with r a.target a.frame a.own (with_no_record a.item))
      a.below entries refl refl (λ depth there. there) refl
      (subst (λ l. KeepsKinds (G.script cx) same enabled l entries) a.was k))
