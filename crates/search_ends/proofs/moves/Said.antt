-- What a call keeps of the provisional entries where the newest goal is run again or popped.
use Rattle.std.proofs.Common.{◌≡◌, ℕ, ◌&&◌, ◌||◌, if◌then◌else◌, Bool, true, false, List, [], ◌∷◌, map, reverse, All}
use Rattle.std.proofs.Common.{Option, Some, None, Result, Ok, refl, sym, subst}
use Rattle.std.specs.List.{filter}
use Rattle.std.proofs.lemmas.List.Elements.{All-append, All-cons, All-filter, All-nil}
use Rattle.search_rules.specs.Below.{NodeId}
use Rattle.search_ends.specs.Below.{StackDepth, CycleHead, PathKind, HeadUsages, highest, has_usages, other_usages}
use Rattle.search_ends.specs.Below.{DelegateOf, CxOf, Done, StoredResult, ProvisionalCacheEntry, RebaseReason}
use Rattle.search_ends.specs.Below.{EvaluationResult, OpenGoal, StackEntry, IsDefinite, IsNeither, Lists, entries_at}
use Rattle.search_ends.specs.Below.{but_highest, rebased, changed_for, with_unused, with_used, Store, Verdicts}
use Rattle.search_ends.specs.Below.{verdicts, Unstable, Call, CallMeetsNone, HasAsked, KeepsAnswers, KeepsStore}
use Rattle.search_ends.specs.Below.{final_answer, entries_for, entry_of, rebased_for, RebasesEntries, RebasesNewest}
use Rattle.search_ends.specs.Below.{MayPutNewest, IsReason, IsEndOfRun, Ambiguous, Initial, Limited, Repeated, Repeats}
use Rattle.search_ends.specs.Below.{Stable, WithoutUsages}
use Rattle.provisional_cache.specs.declared.RebaseReason.TheVariants as why
use Rattle.provisional_cache.proofs.RebasedEntryLists.{All-filter_map}
use Rattle.search_rules.specs.EndOfRun.{Unused}
use Rattle.search_rules.proofs.moves.DoneRuns.{calm_of, limited_keeps, put_keeps}
use Rattle.lean_runs.proofs.Verdicts.{neither_is}
use Rattle.search_rules.proofs.moves.Moves.{done_definite, met_none_before}
use Rattle.search_rules.proofs.rebasing.Cases.{HasNewHead, is_rebased, IsRebased, NotUsed, Still, Used}

-- ---- what is said of whether entries met overflow, and of their results

module _ {X I R A T : Type 0} (P : Bool → R → Type 0) where
  -- it holds of the entry
  abbrev pub SaidOf : ProvisionalCacheEntry X I R A T → Type 0
  SaidOf entry = P entry.encountered_overflow entry.result

  -- what is changed so keeps it
  abbrev pub KeepsSaid :
      (HeadUsages → ProvisionalCacheEntry X I R A T → Option (ProvisionalCacheEntry X I R A T)) → Type 0
  KeepsSaid change_entry = (usages : HeadUsages) (entry kept : ProvisionalCacheEntry X I R A T)
      → change_entry usages entry ≡ Some kept → SaidOf entry → SaidOf kept

  module _ (stack : List (StackEntry X I R A T)) (done : StackEntry X I R A T) where
    -- a new highest head changes nothing of it
    new_head_said : (entry after : ProvisionalCacheEntry X I R A T)
        → HasNewHead stack done entry after → SaidOf entry → SaidOf after
    new_head_said entry after new h = subst (λ met. P met after.result) (sym new.same_overflow)
        (subst (P entry.encountered_overflow) (sym new.same_result) h)

    -- nor does rebasing, but for how entries are changed
    rebased_said :
        (change_entry : HeadUsages → ProvisionalCacheEntry X I R A T → Option (ProvisionalCacheEntry X I R A T))
        → KeepsSaid change_entry → (entry after : ProvisionalCacheEntry X I R A T) → SaidOf entry
        → rebased stack done change_entry entry ≡ Some after → SaidOf after
    rebased_said change_entry keeps entry after h is = at (is_rebased stack done change_entry entry after is)
      where
        at : IsRebased stack done change_entry entry after → SaidOf after
        at (Still other same) = subst SaidOf same h
        at (NotUsed head top place none new) =
            new_head_said (record entry { heads = with_unused done.state.heads (but_highest entry.heads) }) after new h
        at (Used head changed top place used kinds ends new) = new_head_said (record changed {
          heads = with_used done.state.heads head.1.paths_to_head (but_highest changed.heads);
        }) after new (keeps head.1.usages entry changed ends h)

  -- rebasing for the reason keeps what is said, if it may be said of what an ambiguous goal and one that
  -- had its most runs leave
  changed_said : (propagated : A → R) (overflow : R) (reason : RebaseReason X I R A T)
      → ((info : A) → reason ≡ why.Ambiguity info → (met : Bool) (r : R) → P met r → P met (propagated info))
      → (reason ≡ why.Overflow → (met : Bool) (r : R) → P met r → P met overflow)
      → KeepsSaid (changed_for propagated overflow reason)
  changed_said propagated overflow why.NoCycleUsages ambiguous limited usages entry kept is h = absurd cc
  changed_said propagated overflow (why.Ambiguity info) ambiguous limited usages entry kept is h =
      let same : record entry { result = propagated info; node = None } ≡ kept = cc in
      subst SaidOf same (ambiguous info refl entry.encountered_overflow entry.result h)
  changed_said propagated overflow why.Overflow ambiguous limited usages entry kept is h =
      let same : record entry { result = overflow; node = None } ≡ kept = cc in
      subst SaidOf same (limited refl entry.encountered_overflow entry.result h)
  changed_said propagated overflow (why.ReachedFixpoint None) ambiguous limited usages entry kept is h =
      let same : entry ≡ kept = cc in
      subst SaidOf same h
  changed_said propagated overflow (why.ReachedFixpoint (Some kind)) ambiguous limited usages entry kept is h =
      tested (has_usages (other_usages usages kind)) is
    where
      tested : (b : Bool) → (if b then None else Some entry) ≡ Some kept → SaidOf kept
      tested true is = absurd cc
      tested false is = let same : entry ≡ kept = cc in subst SaidOf same h

  -- the same of all entries of a goal,
  left_said : (propagated : A → R) (overflow : R) (reason : Option (RebaseReason X I R A T))
      (stack : List (StackEntry X I R A T)) (done : StackEntry X I R A T)
      (entries : List (ProvisionalCacheEntry X I R A T))
      → ((reasoned : RebaseReason X I R A T) → reason ≡ Some reasoned
      → KeepsSaid (changed_for propagated overflow reasoned))
      → All SaidOf entries → All SaidOf (rebased_for propagated overflow reason stack done entries)
  left_said propagated overflow None stack done entries keeps all = all
  left_said propagated overflow (Some reasoned) stack done entries keeps all =
      All-filter_map SaidOf SaidOf (rebased stack done (changed_for propagated overflow reasoned))
      (rebased_said stack done (changed_for propagated overflow reasoned) (keeps reasoned refl)) entries all

  -- and of the entry for an answer
  entry_said : (stack : List (StackEntry X I R A T)) (step : PathKind) (answer : EvaluationResult X I R A T)
      → P answer.encountered_overflow answer.result → All SaidOf (entries_for stack step answer)
  entry_said stack step answer h = at (highest answer.heads)
    where
      at : (o : Option (StackDepth × CycleHead))
          → All SaidOf (elim o [ None ↦ [] | Some head ↦ entry_of stack head.0.0 step answer ∷ [] ])
      at None = All-nil SaidOf
      at (Some head) = All-cons SaidOf (entry_of stack head.0.0 step answer) [] h (All-nil SaidOf)

  put_said : (b : Bool) (stack : List (StackEntry X I R A T)) (step : PathKind) (answer : EvaluationResult X I R A T)
      → P answer.encountered_overflow answer.result → All SaidOf (if b then entries_for stack step answer else [])
  put_said true stack step answer h = entry_said stack step answer h
  put_said false stack step answer h = All-nil SaidOf

  -- it is said of each entry
  abbrev pub SaidOfAll : (I → I → Bool) → Lists I (ProvisionalCacheEntry X I R A T) → Type 0
  SaidOfAll same lists = (goal : I) → All SaidOf (entries_at same lists goal)

  -- some of the entries are left
  pub cleared_said : (same : I → I → Bool) (left : ProvisionalCacheEntry X I R A T → Bool)
      (old new : Lists I (ProvisionalCacheEntry X I R A T))
      → ((goal : I) → entries_at same new goal ≡ filter left (entries_at same old goal))
      → SaidOfAll same old → SaidOfAll same new
  cleared_said same left old new cleared all =
      λ goal. subst (All SaidOf) (sym (cleared goal)) (All-filter left SaidOf (entries_at same old goal) (all goal))

  -- the newest goal was popped, of whose answer it may be said
  taken_said : {F : Type 0} (same : I → I → Bool) (enabled : Bool) (propagated : I → A → R) (overflow : I → R)
      (reason : Option (RebaseReason X I R A T)) (r : R) (s : OpenGoal X F I R A T)
      (below : List (OpenGoal X F I R A T)) (old new : Lists I (ProvisionalCacheEntry X I R A T))
      → ((goal : I) (reasoned : RebaseReason X I R A T) → reason ≡ Some reasoned
      → KeepsSaid (changed_for (propagated goal) (overflow goal) reasoned))
      → P (s.0.state.encountered_overflow || s.1.met_overflow_before) r
      → RebasesEntries same enabled propagated overflow reason r s below old new
      → SaidOfAll same old → SaidOfAll same new
  taken_said same enabled propagated overflow reason r s below old new keeps here rebases all = λ goal.
      subst (All SaidOf) (sym (rebases.entries goal))
      (All-append SaidOf (rebased_for (propagated goal) (overflow goal) reason
      (reverse (map (λ p. p.0) below)) s.0 (entries_at same old goal))
      (if enabled && same s.0.input goal then entries_for (reverse (map (λ p. p.0) below)) s.0.step_kind_from_parent
      (final_answer s r rebases.node) else [])
      (left_said (propagated goal) (overflow goal) reason (reverse (map (λ p. p.0) below)) s.0
      (entries_at same old goal) (keeps goal) (all goal))
      (put_said (enabled && same s.0.input goal) (reverse (map (λ p. p.0) below)) s.0.step_kind_from_parent
      (final_answer s r rebases.node) here))

-- ---- reasons

-- entries keep their results for the reason, or are dropped
abbrev pub LeavesResults : {X I R A T : Type 0} → RebaseReason X I R A T → Type 0
LeavesResults why.NoCycleUsages = Unit {0}
LeavesResults (why.Ambiguity info) = ⊥
LeavesResults why.Overflow = ⊥
LeavesResults (why.ReachedFixpoint kind) = Unit {0}

module _ {X I R A T : Type 0} (says : Verdicts R) (same : R → R → Bool)
    (initial_kind : R → Option PathKind) (ambiguity : R → Option A)
    (neither : (r : R) (info : A) → ambiguity r ≡ Some info → IsNeither says.is_yes says.is_no r) where
  -- a goal with a definite result isn't ambiguous
  reason_leaves : (earlier : Option R) (usages : HeadUsages) (r : R) (reason : RebaseReason X I R A T)
      → IsReason same initial_kind ambiguity earlier usages r reason → IsDefinite says r → LeavesResults reason
  reason_leaves earlier usages r reason (Repeated value is again) definite = tt
  reason_leaves earlier usages r reason (Initial kind first is single) definite = tt
  reason_leaves earlier usages r reason (WithoutUsages never none) definite = tt
  reason_leaves earlier usages r reason (Ambiguous info never used is) definite =
      absurd (definite (neither_is says r (neither r info is)))

  -- so where a run's end has a definite result and needs no other run, entries keep their results
  pub end_leaves : (limit : ℕ) (earlier : Option R) (usages : Option HeadUsages) (finished_runs : ℕ) (r : R)
      (end : Result (Option (RebaseReason X I R A T)) Unstable) (reason : Option (RebaseReason X I R A T))
      → IsEndOfRun same initial_kind ambiguity limit earlier usages finished_runs r end → end ≡ Ok reason
      → IsDefinite says r → (reasoned : RebaseReason X I R A T) → reason ≡ Some reasoned → LeavesResults reasoned
  end_leaves limit earlier usages finished_runs r end reason (Unused is) at definite reasoned found = absurd cc
  end_leaves limit earlier usages finished_runs r end reason (Stable used first is known) at definite reasoned found =
      let same : first ≡ reasoned = cc in
      subst LeavesResults same (reason_leaves earlier used r first known definite)
  end_leaves limit earlier usages finished_runs r end reason (Limited used is unstable many)
      at definite reasoned found = absurd cc
  end_leaves limit earlier usages finished_runs r end reason (Repeats used is unstable few) at definite reasoned found =
      absurd cc

-- ---- what a call keeps

module _ {D C V P F I R A T : Type 0} (G : DelegateOf D C V P F I R A T) (X : CxOf C I R A T) (cx : C)
    (call : Call I) (same : I → I → Bool) where
  -- before the first goal is done there are no entries
  pub no_entries : (results : Store I (StoredResult I R T)) (met : Bool) → KeepsStore G X cx same call met results
      → KeepsAnswers G X cx same call met results []
  no_entries results met store =
      record { store = store; met_none = λ meets goal. All-nil _; definite = λ decisive unmet goal. All-nil _ }

  -- a further run gives up some entries
  pub rerun_keeps : (results : Store I (StoredResult I R T)) (met : Bool)
      (left : ProvisionalCacheEntry C I R A T → Bool) (old new : Lists I (ProvisionalCacheEntry C I R A T))
      → ((goal : I) → entries_at same new goal ≡ filter left (entries_at same old goal))
      → KeepsAnswers G X cx same call met results old → KeepsAnswers G X cx same call met results new
  rerun_keeps results met left old new cleared keeps = record {
    store = keeps.store;
    met_none = λ meets. cleared_said (λ met r. met ≡ false) same left old new cleared (keeps.met_none meets);
    definite = λ decisive unmet.
        cleared_said (λ met r. IsDefinite (verdicts X) r) same left old new cleared (keeps.definite decisive unmet);
  }

  -- entries that a goal leaves met no overflow as long as the call meets none, whatever its result
  entries_met_none : (ahead : ℕ) (done r : R) (starts : ℕ) (met enabled : Bool)
      (reason : Option (RebaseReason C I R A T)) (s : OpenGoal C F I R A T) (below : List (OpenGoal C F I R A T))
      (old new : Lists I (ProvisionalCacheEntry C I R A T))
      → CallMeetsNone G X cx call met → HasAsked G X cx call ahead (Done done) (s ∷ below) starts met
      → RebasesEntries same enabled (G.propagated cx) (G.fixpoint_overflow cx) reason r s below old new
      → SaidOfAll (λ met r. met ≡ false) same old → SaidOfAll (λ met r. met ≡ false) same new
  entries_met_none ahead done r starts met enabled reason s below old new meets h rebases =
      taken_said (λ met r. met ≡ false) same enabled (G.propagated cx) (G.fixpoint_overflow cx) reason r s below old new
      (λ goal reasoned is. changed_said (λ met r. met ≡ false) (G.propagated cx goal) (G.fixpoint_overflow cx goal)
      reasoned (λ info ambiguous met r none. none) (λ limited met r none. none))
      (calm_of G X cx call ahead done starts met s below meets h) rebases

  -- a goal that had its most runs was popped, which meets a limit
  pub limited_keeps_answers : (target : Option NodeId) (ahead : ℕ) (done r : R) (starts : ℕ) (met enabled : Bool)
      (reason : Option (RebaseReason C I R A T)) → ((x y : I) → same x y ≡ true → x ≡ y)
      → (before after : Store I (StoredResult I R T)) (goals : List (OpenGoal C F I R A T))
      (old new : Lists I (ProvisionalCacheEntry C I R A T)) → MayPutNewest same goals r before after
      → RebasesNewest same enabled (G.propagated cx) (G.fixpoint_overflow cx) reason r target goals old new
      → HasAsked G X cx call ahead (Done done) goals starts met → KeepsAnswers G X cx same call met before old
      → KeepsAnswers G X cx same call true after new
  limited_keeps_answers target ahead done r starts met enabled reason by_value before after [] old
      new put rebases h keeps = absurd put
  limited_keeps_answers target ahead done r starts met enabled reason by_value before after (s ∷ below)
      old new put rebases h keeps = record {
        store =
            limited_keeps G X cx call same by_value before after ahead done r (s ∷ below) starts met put h keeps.store;
        met_none = λ meets. let was = met_none_before G X cx call met meets in
            entries_met_none ahead done r starts met enabled reason s below old new
            was h rebases.0 (keeps.met_none was);
        definite = λ decisive unmet. absurd cc;
      }

  module _ (ahead : ℕ) (done : R) (starts : ℕ) (met : Bool) (enabled : Bool) (reason : Option (RebaseReason C I R A T))
      (leaves_results : IsDefinite (verdicts X) done → (reasoned : RebaseReason C I R A T)
      → reason ≡ Some reasoned → LeavesResults reasoned) where
    -- the result is definite, so entries keep theirs
    results_stay : IsDefinite (verdicts X) done
        → (propagated : A → R) (overflow : R) (reasoned : RebaseReason C I R A T) → reason ≡ Some reasoned → KeepsSaid
        {X = C} {I = I} {T = T} (λ met r. IsDefinite (verdicts X) r) (changed_for propagated overflow reasoned)
    results_stay definite propagated overflow reasoned is =
        changed_said (λ met r. IsDefinite (verdicts X) r) propagated overflow reasoned
        (λ info ambiguous. absurd (subst LeavesResults ambiguous (leaves_results definite reasoned is)))
        (λ limited. absurd (subst LeavesResults limited (leaves_results definite reasoned is)))

    pub entries_definite : (s : OpenGoal C F I R A T) (below : List (OpenGoal C F I R A T))
        (old new : Lists I (ProvisionalCacheEntry C I R A T)) → IsDefinite (verdicts X) done
        → RebasesEntries same enabled (G.propagated cx) (G.fixpoint_overflow cx) reason done s below old new
        → SaidOfAll (λ met r. IsDefinite (verdicts X) r) same old
        → SaidOfAll (λ met r. IsDefinite (verdicts X) r) same new
    entries_definite s below old new definite rebases =
        taken_said (λ met r. IsDefinite (verdicts X) r) same enabled (G.propagated cx)
        (G.fixpoint_overflow cx) reason done s below old new
        (λ goal reasoned is. results_stay definite (G.propagated cx goal) (G.fixpoint_overflow cx goal) reasoned is)
        definite rebases

    -- the newest goal was popped
    pub done_keeps : (target : Option NodeId) → ((x y : I) → same x y ≡ true → x ≡ y)
        → (before after : Store I (StoredResult I R T)) (goals : List (OpenGoal C F I R A T))
        (old new : Lists I (ProvisionalCacheEntry C I R A T)) → MayPutNewest same goals done before after
        → RebasesNewest same enabled (G.propagated cx) (G.fixpoint_overflow cx) reason done target goals old new
        → HasAsked G X cx call ahead (Done done) goals starts met → KeepsAnswers G X cx same call met before old
        → KeepsAnswers G X cx same call met after new
    done_keeps target by_value before after [] old new put rebases h keeps = absurd put
    done_keeps target by_value before after (s ∷ below) old new put rebases h keeps = record {
      store = put_keeps G X cx call same by_value before after ahead done (s ∷ below) starts met put h keeps.store;
      met_none = λ meets. entries_met_none ahead done done starts met enabled reason s below old new
          meets h rebases.0 (keeps.met_none meets);
      definite = λ decisive unmet. entries_definite s below old new (done_definite G X cx call ahead done (s ∷ below)
          starts met h decisive unmet) rebases.0 (keeps.definite decisive unmet);
    }
