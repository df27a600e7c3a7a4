-- What follows of the end of a run: where the call goes on or stops, that all stays right, and what is kept.
use Rattle.std.proofs.Common.{◌≡◌, ◌<◌, ◌≤◌, ◌+◌, ◌∷◌, ℕ, Bool, max, true, List, Option, None, Some, Result, Ok, Err}
use Rattle.std.proofs.Common.{IfOk, IfErr, refl, sym, ap, subst}
use Rattle.between_moves.proofs.Keeping.{leaves_results}
use Rattle.goal_changes.specs.Entries.{is_in_cycle}
use Rattle.search_context.specs.Delegate.{IsNeither}
use Rattle.search_ends.proofs.moves.Said.{done_keeps, end_leaves, limited_keeps_answers, rerun_keeps}
use Rattle.search_ends.proofs.results.Causes.{memory_lasts}
use Rattle.search_ends.proofs.results.Remembering.{meets_compared, remembered}
use Rattle.search_ends.specs.Below.{Again, AtLimit, Begin, Cache, Call, ChangesCache, CountsOne, CxOf, DelegateOf, Done}
use Rattle.search_ends.specs.Below.{Fault, IsRight, IsRightNext, KeepsAnswers, KeepsStore, LeadsTo, Memory, Next}
use Rattle.search_ends.specs.Below.{OpenGoal, Overflow, RebaseReason, Requests, Run, runs_of, StackEntry, Step}
use Rattle.search_ends.specs.Below.{StopsWith, verdicts}
use Rattle.search_ends.specs.Words.{ComesToEnd, EndedAtLimit, EndedDone, HadMostRuns, IsDone, IsRunAgain, NotRunAgain}
use Rattle.search_ends.specs.Words.{PopsOrFails, RanAgain, RerunKeeps, RunEnds, RunLeads, RunsAgain, StoresOrFails}
use Rattle.search_rules.proofs.justified.Finishing.{begin_fits}
use Rattle.search_rules.proofs.moves.DoneRuns.{differs_definite, limited_keeps, memory_alone, put_keeps, stopped_by}
use Rattle.search_rules.proofs.moves.DoneRuns.{stopped_by_both, stopped_each}
use Rattle.search_rules.proofs.moves.EndOfRunLaws.{limited, newest_limited, newest_unstable, unstable}
use Rattle.search_rules.proofs.moves.Moves.{asked_stopped_by, failed_rerun_stopped, leave_leads, limited_leads}
use Rattle.search_rules.proofs.moves.Moves.{limited_stopped, met_none_before, rerun_goes_on}
use Rattle.search_rules.proofs.moves.Questions.{if_ok_then}
use Rattle.search_state.proofs.nodes.Noting.{noted_same}
use Rattle.search_state.specs.Drafts.{KeepsNoted}
use Rattle.search_state.specs.declared.evaluation.Evaluation.{Evaluation}

-- a rerun notes nothing
rerun_noted :
    {D C V P F I R A T : Type 0} {G : DelegateOf D C V P F I R A T} (same : I → I → Bool) {old new : Cache C I R T}
    {before after : Evaluation D C V P F I R A T} {starts later : ℕ}
    → RerunKeeps G old before starts new after later → KeepsNoted same old before.drafts new after.drafts
rerun_noted {C = C} {I = I} {R = R} {A = A} {T = T} same {old} {new} {before} {after} keeps =
    noted_same same old new before.drafts after.drafts (ap (λ a. a.drafts) keeps.rest)
    (ap (λ (cache : Cache C I R T). cache.results) keeps.cache)

module _ {D C V P F I R A T : Type 0} {G : DelegateOf D C V P F I R A T} {X : CxOf C I R A T} {same : I → I → Bool}
    {same_result : R → R → Bool} {outcome : R} {old : Cache C I R T}
    {before : Evaluation D C V P F I R A T} {starts : ℕ} where
  -- ---- where the end leads

  pub ended_leads :
      {result : Result (Next R) (Fault I R)} {new : Cache C I R T} {after : Evaluation D C V P F I R A T} {later : ℕ}
      → RunEnds G X same same_result outcome old before starts result new after later
      → IfOk result (λ next. RunLeads G X same same_result outcome old before next new after)
  ended_leads (EndedDone entry run reason result new after comes pop) =
      if_ok_then result _ _ pop.popped (λ next pops.
      IsDone entry run reason comes pops (ap (λ (a : Evaluation D C V P F I R A T). a.limits_met) pop.rest))
  ended_leads (EndedAtLimit entry run result new after comes pop) =
      if_ok_then result _ _ pop.popped
      (λ next pops. HadMostRuns entry run comes pops (ap (λ (a : Evaluation D C V P F I R A T). a.limits_met) pop.rest))
  ended_leads (RanAgain entry run new after later comes keeps reran counted) =
      IsRunAgain entry run comes reran refl (ap (λ (a : Evaluation D C V P F I R A T). a.limits_met) keeps.rest)
  ended_leads (NotRunAgain entry run new after later comes keeps) = tt

  pub ended_right :
      {result : Result (Next R) (Fault I R)} {new : Cache C I R T} {after : Evaluation D C V P F I R A T} {later : ℕ}
      → RunEnds G X same same_result outcome old before starts result new after later
      → IfOk result (λ next. IsRightNext G X same old.cx before.goals next new after)
  ended_right (EndedDone entry run reason result new after comes pop) =
      if_ok_then result _ _ pop.popped (λ next pops. pops.right)
  ended_right (EndedAtLimit entry run result new after comes pop) =
      if_ok_then result _ _ pop.popped (λ next pops. pops.right)
  ended_right (RanAgain entry run new after later comes keeps reran counted) =
      record {
        justified = (reran.right.justified, begin_fits (verdicts X) new.nodes (runs_of after.goals));
        free = reran.right.free;
        ready = reran.right.ready;
      }
  ended_right (NotRunAgain entry run new after later comes keeps) = tt

  -- ---- what is kept, and where that fails

  pub ended_cache :
      {result : Result (Next R) (Fault I R)} {new : Cache C I R T} {after : Evaluation D C V P F I R A T} {later : ℕ}
      → RunEnds G X same same_result outcome old before starts result new after later
      → ChangesCache same before.goals old new
  ended_cache (EndedDone entry run reason result new after comes pop) = pop.cache
  ended_cache (EndedAtLimit entry run result new after comes pop) = pop.cache
  ended_cache (RanAgain entry run new after later comes keeps reran counted) =
      leaves_results same before.goals old new keeps.cache keeps.kept keeps.earlier
  ended_cache (NotRunAgain entry run new after later comes keeps) =
      leaves_results same before.goals old new keeps.cache keeps.kept keeps.earlier

  pub ended_stores :
      {result : Result (Next R) (Fault I R)} {new : Cache C I R T} {after : Evaluation D C V P F I R A T} {later : ℕ}
      → RunEnds G X same same_result outcome old before starts result new after later
      → StoresOrFails G X same old before.drafts result new after.drafts
  ended_stores (EndedDone entry run reason result new after comes pop) =
      record { noted = pop.noted.keeps; fails = stopped_by result _ _ (λ fault fails. fails.stores) pop.fails }
  ended_stores (EndedAtLimit entry run result new after comes pop) =
      record { noted = pop.noted.keeps; fails = stopped_by result _ _ (λ fault fails. fails.stores) pop.fails }
  ended_stores (RanAgain entry run new after later comes keeps reran counted) =
      record { noted = rerun_noted same keeps; fails = tt }
  ended_stores (NotRunAgain entry run new after later comes keeps) = record {
    noted = rerun_noted same keeps;
    fails = record {
      caused = memory_lasts G X same new after.drafts _ refl;
      unstored = ap (λ (cache : Cache C I R T). cache.results) keeps.cache;
    };
  }

  -- ---- the call goes on, or stops

  module _ (by_value : (x y : I) → same x y ≡ true → x ≡ y)
      (ambiguous : (r : R) (info : A) → G.ambiguity r ≡ Some info → IsNeither X.is_yes X.is_no r)
      (right : IsRight G X same old.cx old before) (call : Call I) (ahead : ℕ)
      (h : Requests G X same old.cx (Done outcome) call ahead old before starts) where
    -- ---- the newest goal had its most runs,

    module _ {entry : StackEntry C I R A T} {run : Run C F I R A T}
        (comes : ComesToEnd G same_result outcome before entry run (Err AtLimit)) where
      has_most : (s : OpenGoal C F I R A T) (below : List (OpenGoal C F I R A T)) → before.goals ≡ s ∷ below
          → (is_in_cycle s.0.state ≡ true) × (max 1 G.FIXPOINT_STEP_LIMIT ≤ s.1.finished_runs + 1)
      has_most =
          newest_limited before.goals entry run comes.is_entry comes.is_run G.FIXPOINT_STEP_LIMIT
          (limited same_result G.initial_kind G.ambiguity G.FIXPOINT_STEP_LIMIT entry.state.provisional_result
          entry.state.usages run.finished_runs outcome (Err AtLimit) comes.ends refl)

      module _ {result : Result (Next R) (Fault I R)} {new : Cache C I R T} {after : Evaluation D C V P F I R A T}
          (pop : PopsOrFails G X same (G.fixpoint_overflow old.cx entry.input) (Some Overflow) old
          (record before { limits_met = true }) result new after) where
        limit_leads : IfOk result (λ next. LeadsTo G X same old.cx call ahead before.goals next new after starts)
        limit_leads =
            if_ok_then result _ _ pop.popped
            (λ next p.
            subst (λ a. LeadsTo G X same old.cx call ahead before.goals next new a starts) (sym pop.rest)
            (record {
              leads = limited_leads G X old.cx call ahead outcome (G.fixpoint_overflow old.cx entry.input) next
                  before.goals after.goals _ _ has_most p.left h.asked;
              answers = limited_keeps_answers G X old.cx call same _ ahead outcome
                  (G.fixpoint_overflow old.cx entry.input) _ _ _ _ by_value old.results new.results before.goals
                  before.provisional after.provisional pop.stored p.rebased h.asked h.answers;
              remembered =
                  remembered G X old.cx call same (X.token old.cx) ahead outcome
                  (G.fixpoint_overflow old.cx entry.input) _ before.limits_met new.results true
                  (met_none_before G X old.cx call before.limits_met) before.goals after.goals next
                  right.justified.tallies h.asked p.left p.stored;
              compared = meets_compared before.goals after.goals (G.fixpoint_overflow old.cx entry.input) next
                  right.justified.tallies p.left p.compared;
            }))

        limit_stops : IfErr result (λ fault. StopsWith G X same old.cx call fault new after starts)
        limit_stops =
            stopped_each result _
            (λ fault.
            subst (λ a. StopsWith G X same old.cx call fault new a starts) (sym pop.rest)
            (record {
              stopped = limited_stopped G X old.cx call ahead outcome before.goals fault _ _ has_most h.asked;
              store = limited_keeps G X old.cx call same by_value old.results new.results ahead outcome
                  (G.fixpoint_overflow old.cx entry.input) before.goals _ _ pop.stored h.asked h.answers.store;
            }))

    -- ---- or fewer, and is run again,

    module _ {entry : StackEntry C I R A T} {run : Run C F I R A T}
        (comes : ComesToEnd G same_result outcome before entry run (Err Again)) where
      has_fewer : (s : OpenGoal C F I R A T) (below : List (OpenGoal C F I R A T)) → before.goals ≡ s ∷ below
          → (is_in_cycle s.0.state ≡ true) × (s.1.finished_runs + 1 < max 1 G.FIXPOINT_STEP_LIMIT)
      has_fewer =
          newest_unstable before.goals entry run comes.is_entry comes.is_run G.FIXPOINT_STEP_LIMIT
          (unstable same_result G.initial_kind G.ambiguity G.FIXPOINT_STEP_LIMIT entry.state.provisional_result
          entry.state.usages run.finished_runs outcome (Err Again) comes.ends refl)

      module _ {new : Cache C I R T} {after : Evaluation D C V P F I R A T} {later : ℕ}
          (keeps : RerunKeeps G old before starts new after later) where
        rerun_leads : RunsAgain G X same outcome old before new after
            → (G.counts ≡ true → CountsOne G.last starts later) → LeadsTo G X same old.cx call ahead before.goals
            (Step (record { reply = Begin; node = None })) new after later
        rerun_leads reran counted =
            subst (λ a. LeadsTo G X same old.cx call ahead before.goals
            (Step (record { reply = Begin; node = None })) new a later) (sym keeps.rest)
            (record {
              leads = rerun_goes_on G X old.cx call ahead outcome before.goals after.goals _ _ before.limits_met
                  has_fewer keeps.at_most counted reran.reran h.asked;
              answers =
                  subst (λ results. KeepsAnswers G X old.cx same call before.limits_met results after.provisional)
                  (sym (ap (λ (cache : Cache C I R T). cache.results) keeps.cache))
                  (rerun_keeps G X old.cx call same old.results before.limits_met _ before.provisional
                  after.provisional reran.cleared h.answers);
              remembered = tt;
              compared = tt;
            })

        rerun_stops : StopsWith G X same old.cx call Memory new after later
        rerun_stops =
            subst (λ a. StopsWith G X same old.cx call Memory new a later) (sym keeps.rest)
            (record {
              stopped = failed_rerun_stopped G X old.cx call ahead outcome before.goals _ _ _
                  (λ s below is. (has_fewer s below is).1) keeps.at_least keeps.at_most h.asked;
              store = subst (KeepsStore G X old.cx same call before.limits_met)
                  (sym (ap (λ (cache : Cache C I R T). cache.results) keeps.cache)) h.answers.store;
            })

    -- ---- or is done

    module _ {entry : StackEntry C I R A T} {run : Run C F I R A T} {reason : Option (RebaseReason C I R A T)}
        (comes : ComesToEnd G same_result outcome before entry run (Ok reason)) {result : Result (Next R) (Fault I R)}
        {new : Cache C I R T} {after : Evaluation D C V P F I R A T}
        (pop : PopsOrFails G X same outcome reason old before result new after) where
      done_leads : IfOk result (λ next. LeadsTo G X same old.cx call ahead before.goals next new after starts)
      done_leads =
          if_ok_then result _ _ pop.popped
          (λ next p.
          subst (λ a. LeadsTo G X same old.cx call ahead before.goals next new a starts) (sym pop.rest)
          (record {
            leads =
                leave_leads G X old.cx call ahead outcome outcome next before.goals after.goals _ _ refl p.left h.asked;
            answers =
                done_keeps G X old.cx call same ahead outcome _ _ _ reason
                (end_leaves (verdicts X) same_result G.initial_kind G.ambiguity ambiguous G.FIXPOINT_STEP_LIMIT
                entry.state.provisional_result entry.state.usages run.finished_runs
                outcome (Ok reason) reason comes.ends refl)
                _ by_value old.results new.results before.goals before.provisional after.provisional
                pop.stored p.rebased h.asked h.answers;
            remembered = remembered G X old.cx call same (X.token old.cx) ahead outcome outcome _ _ new.results _
                (λ meets. meets) before.goals after.goals next right.justified.tallies h.asked p.left p.stored;
            compared = meets_compared before.goals after.goals outcome next right.justified.tallies p.left p.compared;
          }))

      done_stops : IfErr result (λ fault. StopsWith G X same old.cx call fault new after starts)
      done_stops =
          stopped_by_both result _ _ _
          (λ fault plain decided.
          subst (λ a. StopsWith G X same old.cx call fault new a starts) (sym pop.rest)
          (record {
            stopped = asked_stopped_by G X old.cx call ahead _ before.goals fault _ _ plain decided h.asked;
            store = put_keeps G X old.cx call same by_value old.results new.results ahead outcome before.goals _
                _ pop.stored h.asked h.answers.store;
          }))
          (memory_alone G X old.cx call ahead outcome _ _ result Memory before.goals pop.plain h.asked)
          (differs_definite G X old.cx call ahead outcome _ _ result before.goals
          (stopped_by result _ _ (λ fault fails. fails.differs) pop.fails) h.asked)

    pub ended_goes_on :
        {result : Result (Next R) (Fault I R)} {new : Cache C I R T} {after : Evaluation D C V P F I R A T}
        {later : ℕ} → RunEnds G X same same_result outcome old before starts result new after later
        → IfOk result (λ next. LeadsTo G X same old.cx call ahead before.goals next new after later)
    ended_goes_on (EndedDone entry run reason result new after comes pop) = done_leads comes pop
    ended_goes_on (EndedAtLimit entry run result new after comes pop) = limit_leads comes pop
    ended_goes_on (RanAgain entry run new after later comes keeps reran counted) = rerun_leads comes keeps reran counted
    ended_goes_on (NotRunAgain entry run new after later comes keeps) = tt

    pub ended_stops :
        {result : Result (Next R) (Fault I R)} {new : Cache C I R T} {after : Evaluation D C V P F I R A T}
        {later : ℕ} → RunEnds G X same same_result outcome old before starts result new after later
        → IfErr result (λ fault. StopsWith G X same old.cx call fault new after later)
    ended_stops (EndedDone entry run reason result new after comes pop) = done_stops comes pop
    ended_stops (EndedAtLimit entry run result new after comes pop) = limit_stops comes pop
    ended_stops (RanAgain entry run new after later comes keeps reran counted) = tt
    ended_stops (NotRunAgain entry run new after later comes keeps) = rerun_stops comes keeps
