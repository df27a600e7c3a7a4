-- What a call decides where the goals that it may reach decide.
use Rattle.std.proofs.Common.{◌≡◌, ◌⊎◌, ◌∙◌, ◌||◌, ℕ, Bool, true, false, List, [], ◌∷◌, All, None, Option, Some, Result}
use Rattle.std.proofs.Common.{Ok, Err, IfOk, IfErr, option_map, reverse, map, length, ◌-◌, not, slice_get, slice_set}
use Rattle.std.proofs.Common.{unwrap_or, inl, inr, refl, ap, ap₂, sym, subst}
use Rattle.std.specs.Option.{IfSome}
use Rattle.std.proofs.lemmas.List.Elements.{All-nil}
use Rattle.list_lemmas.proofs.Lists.{mapped_some}
use Rattle.evaluations.proofs.Mirrors.{requested_by}
use Rattle.global_cache.proofs.Stores.{put_cases}
use Rattle.goal_changes.specs.Entries.{cycle_head, first_entry, with_depth, with_nested_goals}
use Rattle.goal_changes.specs.Items.{rerun_with, with_no_record}
use Rattle.goal_changes.specs.Steps.{OutOfOrder}
use Rattle.run_records.specs.declared.runs.Fate.{Fate}
use Rattle.search_context.specs.Decisive.{AreDecided, IsDecidedKind, IsDecidedReply}
use Rattle.search_context.specs.declared.context.Answer.{Answer}
use Rattle.search_ends.proofs.moves.Said.{cleared_said, end_leaves, entries_definite}
use Rattle.search_ends.specs.Below.{depends_on, entries_at, RebaseReason, Run}
use Rattle.search_ends.specs.RunEnded.{EndedAtLimit, EndedDone, NotRunAgain, RanAgain}
use Rattle.search_ends.specs.Words.{Pops, RunEnds}
use Rattle.search_graph.proofs.called.Calling.{if_err_then, run_is_grounded, run_keeps, run_proves, run_refutes}
use Rattle.search_graph.proofs.called.Decided.{if_err_both, if_ok_all}
use Rattle.search_graph.proofs.called.Faults.{run_fails}
use Rattle.search_graph.proofs.called.LimitsMet.{turn_tells}
use Rattle.search_graph.proofs.called.Reaching.{AreReached, asked_by_newest, asks_newest, ran_reaches, reached_stepped}
use Rattle.search_graph.proofs.promises.Promises.{definite_decides}
use Rattle.search_graph.proofs.ran.Calls.{ran_keeps, ran_right, ran_waits}
use Rattle.search_graph.proofs.requests.Advancing.{requests}
use Rattle.search_graph.proofs.turns.Loops.{call_of, some_call_begins, stepped_some}
use Rattle.search_graph.specs.Below.{AreRuns, AreSoundResults, AvailableDepth, Awaits, bound, Cache, Call, CxOf}
use Rattle.search_graph.specs.Below.{Decides, DelegateOf, Done, EnterCandidate, enters, Evaluate, Fault, fates_of}
use Rattle.search_graph.specs.Below.{FinishCandidate, Finished, finishes, HasAsked, HasStepped, Ignore, IsCounted}
use Rattle.search_graph.specs.Below.{IsDefinite, IsMemoryOrOrder, IsRightFor, IsStepFault, limits, Memory, Next, NodeId}
use Rattle.search_graph.specs.Below.{NoMemoryLeft, NotesCandidate, OpenGoal, PathKind, Place, Protocol, Received, Reply}
use Rattle.search_graph.specs.Below.{Request, seen, StackEntry, Step, Store, stored_at, StoredResult, Stood, verdicts}
use Rattle.search_graph.specs.Below.{Verdicts, work_left}
use Rattle.search_graph.specs.Called.{Called, Evaluated, HasRun, WasStored, WasWorkedOut}
use Rattle.search_graph.specs.Deciding.{AreDefiniteFrom, DecidesFrom, StoresDefinite}
use Rattle.search_graph.specs.Faults.{FailsFor, goals_at_end, IsOfNewest, MemoryIsOut}
use Rattle.search_graph.specs.Laws.{AreLaws}
use Rattle.search_graph.specs.LimitsMet.{limits_met_in}
use Rattle.search_graph.specs.Ran.{Advanced, Answered, Asked, Began, Failed, FailedForGood, FrameFailed, GoesOn}
use Rattle.search_graph.specs.Ran.{NotAnswered, NotAsked, NotBegun, Noted, NotNoted, Ran, RunEnded, Then, Turned}
use Rattle.search_context.specs.declared.context.Fault.TheVariants.{Conflict, Validation}
use Rattle.search_graph.specs.Reaching.{here, MayReach}
use Rattle.search_graph.specs.Turns.{IsAtOutset}
use Rattle.search_questions.specs.Below.{IsCycleResult, IsNeither, path_kind_from}
use Rattle.search_questions.specs.Words.{AskingLeadsTo, asking, ByEntry, ByStored, OverCycle, Pushed, Refused}
use Rattle.search_rules.proofs.answers.Differing.{differs_then, IsAbout, memory_or_order}
use Rattle.search_rules.proofs.entries.Questions.{entry_is_one}
use Rattle.search_rules.proofs.moves.DecidedGoals.{below_decided, changed_decided, cycle_decided}
use Rattle.search_rules.proofs.moves.DecidedGoals.{newest_decided, pushed_decided}
use Rattle.search_rules.proofs.moves.Moves.{answered_decided, stepped_decided}
use Rattle.search_rules.specs.Claims.{HasOneOfEach, IfDiffers}
use Rattle.search_rules.specs.Decided.{AllDecided}
use Rattle.search_rules.specs.EndOfRun.{IsEndOfRun}
use Rattle.search_rules.specs.Moves.{first_run, NewestLeaves}
use Rattle.search_rules.specs.Provisional.{EntriesDefinite, RebasesNewest}
use Rattle.search_rules.specs.Results.{MayPut, MayPutNewest, place_of_item, Same, WithResult}
use Rattle.search_rules.specs.Runs.{node_given}
use Rattle.search_state.specs.declared.evaluation.Evaluation.{Evaluation}

-- ---- what is stored

module _ {I R T : Type 0} (says : Verdicts R) (same : I → I → Bool) where
  stores_nothing : (old new : Store I (StoredResult I R T)) → new ≡ old → StoresDefinite says same old new
  stores_nothing old new is = λ goal place s there.
      inr (ap (option_map (λ (t : StoredResult I R T). t.result.result))
      (ap (λ results. stored_at same results goal place) (sym is) ∙ there))

  stores_then : (old mid new : Store I (StoredResult I R T)) → StoresDefinite says same old mid
      → StoresDefinite says same mid new → StoresDefinite says same old new
  stores_then old mid new before after = λ goal place s there. elim (after goal place s there) [
    | inl definite ↦ inl definite
    | inr was ↦
        let found = mapped_some (λ (t : StoredResult I R T). t.result.result)
        (stored_at same mid goal place) s.result.result was in
        elim (before goal place found.0 found.1) [
          | inl definite ↦ inl (subst (IsDefinite says) found.2 definite)
          | inr older ↦ inr (older ∙ ap Some found.2)
        ]
  ]

  stores_one : ((x y : I) → same x y ≡ true → x ≡ y)
      → (old new : Store I (StoredResult I R T)) (goal : I) (place : Place) (required : ℕ) (r : R)
      → IsDefinite says r → MayPut same old new goal place required r → StoresDefinite says same old new
  stores_one by_value old new goal place required r definite (Same is) = stores_nothing old new is
  stores_one by_value old new goal place required r definite (WithResult s result depth puts) =
      λ other at t there. elim (put_cases same by_value old new goal place s puts other at) [
        | inl w ↦
            let stored : Some s ≡ Some t = sym puts.here ∙ ap₂ (stored_at same new) w.0 w.1 ∙ there in
            let one : s ≡ t = cc in
            inl (subst (IsDefinite says)
            (sym result ∙ ap (λ (u : StoredResult I R T). u.result.result) one) definite)
        | inr unchanged ↦
            inr (ap (option_map (λ (u : StoredResult I R T). u.result.result)) (sym unchanged ∙ there))
      ]

  -- so what was stored of a reached goal is yes or no still
  still_definite : (scripts : I → List (Reply R) → Request I R) (top : I) (old new : Store I (StoredResult I R T))
      → StoresDefinite says same old new → AreDefiniteFrom says scripts top same old
      → AreDefiniteFrom says scripts top same new
  still_definite scripts top old new stores all = λ goal reached place s there. elim (stores goal place s there) [
    | inl definite ↦ definite
    | inr was ↦
        let found = mapped_some (λ (t : StoredResult I R T). t.result.result)
        (stored_at same old goal place) s.result.result was in
        subst (IsDefinite says) found.2 (all goal reached place found.0 found.1)
  ]

-- ---- the goals under evaluation

-- one candidate more or less changes no reply
candidates_decided : {X F I R A T : Type 0} (says : Verdicts R) (request : Request I R)
    (old new : List (OpenGoal X F I R A T)) → NotesCandidate request old new → AllDecided says old → AllDecided says new
candidates_decided says EnterCandidate [] new is all = subst (AllDecided says) (sym is) all
candidates_decided says EnterCandidate (s ∷ below) new is all =
    subst (AllDecided says) (sym is) (changed_decided says s (enters s) below refl
    (λ was. record { replies = was.replies; provisional = was.provisional }) all)
candidates_decided says FinishCandidate [] new is all = subst (AllDecided says) (sym is) all
candidates_decided says FinishCandidate (s ∷ below) new is all =
    subst (AllDecided says) (sym is) (changed_decided says s (finishes s) below refl
    (λ was. record { replies = was.replies; provisional = was.provisional }) all)
candidates_decided says (Ignore number) old new n all =
    subst (AllDecided says) (sym n.is)
    (changed_decided says (n.entry, n.run) (
      record n.entry { state = n.state },
      record n.run { candidates = slice_set n.run.candidates number [] },
    ) n.below refl
    (λ was. record {
      replies = was.replies;
      provisional = subst (λ o. IfSome o (IsDefinite says))
          (sym (ap (λ s. s.provisional_result) n.ignores.others)) was.provisional;
    })
    (subst (AllDecided says) n.was all))
candidates_decided says (Evaluate kind goal) old new is all = subst (AllDecided says) (sym is) all
candidates_decided says (Done r) old new is all = subst (AllDecided says) (sym is) all

-- ---- what a move leads to

module _ {D C V P F I R A T : Type 0} (G : DelegateOf D C V P F I R A T)
    (X : CxOf C I R A T) (same : I → I → Bool) where
  -- All is yes or no that was answered so far: to the goals under evaluation, to the newest one with the next reply,
  -- and in the provisional cache.
  record HaveDecided (given : Received R) (e : Evaluation D C V P F I R A T) : Type 0 where
    goals : AllDecided (verdicts X) e.goals
    reply : IsDecidedReply (verdicts X) given.reply
    entries : EntriesDefinite (verdicts X) same e.provisional

  -- it is so of what comes next, and of a result that differs from the one that is stored
  abbrev DecidedNext : Result (Next R) (Fault I R) → Evaluation D C V P F I R A T → Type 0
  DecidedNext (Ok (Step given)) e = HaveDecided given e
  DecidedNext (Ok (Finished answer)) e = IsDefinite (verdicts X) answer.result
  DecidedNext (Err fault) e = IfDiffers fault (IsDefinite (verdicts X))

  record LeadsDecided (result : Result (Next R) (Fault I R)) (old new : Cache C I R T)
      (after : Evaluation D C V P F I R A T) : Type 0 where
    next : DecidedNext result after
    stores : StoresDefinite (verdicts X) same old.results new.results

  abbrev EndsDecided : Result (Answer R) (Fault I R) → Type 0
  EndsDecided (Ok answer) = IsDefinite (verdicts X) answer.result
  EndsDecided (Err fault) = IfDiffers fault (IsDefinite (verdicts X))

  ended_if : (result : Result (Answer R) (Fault I R)) → EndsDecided result
      → IfOk result (λ answer. IsDefinite (verdicts X) answer.result)
      × IfErr result (λ fault. IfDiffers fault (IsDefinite (verdicts X)))
  ended_if (Ok answer) h = (h, tt)
  ended_if (Err fault) h = (tt, h)

  -- letting nodes go changes no stored result
  lets_go_stores : (old : Store I (StoredResult I R T)) (mid new : Cache C I R T)
      → new ≡ record mid { nodes = new.nodes } → StoresDefinite (verdicts X) same old mid.results
      → StoresDefinite (verdicts X) same old new.results
  lets_go_stores old mid new rest stores =
      subst (StoresDefinite (verdicts X) same old) (ap (λ (c : Cache C I R T). c.results) (sym rest)) stores

  -- but for the drafts, the evaluation is the same
  next_drafted : (result : Result (Next R) (Fault I R)) (e after : Evaluation D C V P F I R A T)
      → after ≡ record e { drafts = after.drafts } → DecidedNext result e → DecidedNext result after
  next_drafted (Ok (Step given)) e after is h = record {
    goals = subst (AllDecided (verdicts X)) (ap (λ (a : Evaluation D C V P F I R A T). a.goals) (sym is)) h.goals;
    reply = h.reply;
    entries = subst (EntriesDefinite (verdicts X) same)
        (ap (λ (a : Evaluation D C V P F I R A T). a.provisional) (sym is)) h.entries;
  }
  next_drafted (Ok (Finished answer)) e after is h = h
  next_drafted (Err fault) e after is h = h

  -- a question
  module _ (initial_sort : (cx : C) (cycle : PathKind) (asked : I)
      → IsCycleResult X.is_yes X.is_no cycle (G.initial_result cx cycle asked)) (call : Call I) (kind : PathKind)
      (goal : I) {old : Cache C I R T} {e : Evaluation D C V P F I R A T} {starts : ℕ}
      (decided : IsDecidedKind kind) (all : AllDecided (verdicts X) e.goals)
      (entries : EntriesDefinite (verdicts X) same e.provisional)
      (stored : (place : Place) (s : StoredResult I R T) → stored_at same old.results goal place ≡ Some s
      → IsDefinite (verdicts X) s.result.result) where
    asking_decides : {noop : Bool} {given : Received R} {new : Cache C I R T} {after : Evaluation D C V P F I R A T}
        {later : ℕ} → AskingLeadsTo G X same old.cx kind goal noop old e starts given new after later
        → after.limits_met ≡ false → HaveDecided given after
    asking_decides (Refused goals none noted) unmet = absurd cc
    asking_decides (ByEntry depth entry goals at is takes nested) unmet = record {
      goals = answered_decided G X old.cx call kind 0 entry.encountered_overflow entry.heads e.goals goals takes all;
      reply = entry_is_one same (asking G X same old.cx kind goal e) goal entry G.ENABLE_PROVISIONAL_CACHE is
          (λ found. IsDefinite (verdicts X) found.result) (entries goal);
      entries = entries;
    }
    asking_decides (ByStored depth hit goals at none is takes usable) unmet = record {
      goals =
          subst (AllDecided (verdicts X)) (sym takes.is)
          (changed_decided (verdicts X) (takes.entry, takes.run) (
            record takes.entry {
              state = with_nested_goals
                  (with_depth takes.entry.state hit.required_depth hit.encountered_overflow) takes.nested;
            },
            takes.run,
          ) takes.below refl
          (λ was. record { replies = was.replies; provisional = was.provisional })
          (subst (AllDecided (verdicts X)) takes.was all));
      reply = subst (IsDefinite (verdicts X)) usable.result_is (stored usable.place usable.stored usable.is_stored);
      entries = entries;
    }
    asking_decides (OverCycle depth head received goals at none not_stored found closes) unmet =
        let cycle : PathKind = path_kind_from (reverse (map (λ s. s.0) e.goals)) head.0 kind in
        record {
          goals = answered_decided G X old.cx call kind 0 false ((
            head,
            cycle_head kind (path_kind_from (reverse (map (λ s. s.0) e.goals)) head.0 kind),
          ) ∷ []) e.goals goals closes.takes all;
          reply =
              subst (λ (r : Received R). IsDecidedReply (verdicts X) r.reply) (sym closes.is)
              (cycle_decided (verdicts X) e.goals head.0 kind closes.entry
              (G.initial_result old.cx (path_kind_from (reverse (map (λ s. s.0) e.goals)) head.0 kind) goal) all
              decided closes.is_at
              (initial_sort old.cx (path_kind_from (reverse (map (λ s. s.0) e.goals)) head.0 kind) goal));
          entries = entries;
        }
    asking_decides (Pushed depth goals held nodes later at none not_stored absent pushes fates holds fated one counted)
        unmet = record {
          goals =
              subst (AllDecided (verdicts X)) (sym pushes.is)
              (pushed_decided (verdicts X) (
                first_entry goal kind depth pushes.own,
                first_run G X old.cx pushes.frame pushes.own pushes.becomes,
              ) e.goals (record { replies = tt; provisional = tt }) decided all);
          reply = tt;
          entries = entries;
        }

  -- the end of a run
  module _ (by_value : (x y : I) → same x y ≡ true → x ≡ y)
      (ambiguous : (r : R) (info : A) → G.ambiguity r ≡ Some info → IsNeither X.is_yes X.is_no r) (call : Call I)
      (outcome : R) (old : Cache C I R T) (e : Evaluation D C V P F I R A T)
      (definite : IsDefinite (verdicts X) outcome) (all : AllDecided (verdicts X) e.goals)
      (entries : EntriesDefinite (verdicts X) same e.provisional) where
    newest_stores : (goals : List (OpenGoal C F I R A T)) (results : Store I (StoredResult I R T))
        → MayPutNewest same goals outcome old.results results → StoresDefinite (verdicts X) same old.results results
    newest_stores [] results puts = absurd puts
    newest_stores (s ∷ below) results puts = stores_one (verdicts X) same by_value old.results results s.0.input
        (place_of_item s) s.0.state.required_depth outcome definite puts

    -- the goal below gets the result, or the call ends with it
    left_decided : (goals : List (OpenGoal C F I R A T)) (next : Next R) (after : Evaluation D C V P F I R A T)
        → AllDecided (verdicts X) goals → NewestLeaves outcome goals next after.goals
        → EntriesDefinite (verdicts X) same after.provisional → DecidedNext (Ok next) after
    left_decided [] next after decided left rebased = absurd left
    left_decided (s ∷ []) next after decided left rebased = subst (λ n. DecidedNext (Ok n) after) (sym left.1) definite
    left_decided (s ∷ p ∷ below) next after decided left rebased =
        subst (λ n. DecidedNext (Ok n) after) (sym left.1)
        (record {
          goals = answered_decided G X old.cx call s.0.step_kind_from_parent s.0.state.required_depth
              (s.0.state.encountered_overflow || s.1.met_overflow_before) s.0.state.heads (p ∷ below) after.goals left.2
              (below_decided (verdicts X) s (p ∷ below) decided);
          reply = definite;
          entries = rebased;
        })

    module _ (same_result : R → R → Bool) (entry : StackEntry C I R A T) (run : Run C F I R A T)
        (reason : Option (RebaseReason C I R A T))
        (ends : IsEndOfRun same_result G.initial_kind G.ambiguity G.FIXPOINT_STEP_LIMIT entry.state.provisional_result
        entry.state.usages run.finished_runs outcome (Ok reason)) where
      rebased_decided :
          (goals : List (OpenGoal C F I R A T)) (after : Evaluation D C V P F I R A T) (target : Option NodeId)
          → RebasesNewest same G.ENABLE_PROVISIONAL_CACHE (G.propagated old.cx) (G.fixpoint_overflow old.cx) reason
          outcome target goals e.provisional after.provisional → EntriesDefinite (verdicts X) same after.provisional
      rebased_decided [] after target rebases = absurd rebases
      rebased_decided (s ∷ below) after target rebases =
          entries_definite G X old.cx call same 0 outcome 0 false G.ENABLE_PROVISIONAL_CACHE reason
          (λ done reasoned found. end_leaves (verdicts X) same_result G.initial_kind G.ambiguity ambiguous
          G.FIXPOINT_STEP_LIMIT entry.state.provisional_result entry.state.usages run.finished_runs outcome (Ok reason)
          reason ends refl done reasoned found)
          s below e.provisional after.provisional definite rebases.0 entries

      popped_decided :
          (result : Result (Next R) (Fault I R)) (new : Cache C I R T) (after : Evaluation D C V P F I R A T)
          → IfOk result (λ next. Pops G X same outcome reason old e next new after)
          → IfErr result (λ fault. IfDiffers fault (λ found. found ≡ outcome)) → DecidedNext result after
      popped_decided (Ok next) new after pops differs =
          left_decided e.goals next after all pops.left (rebased_decided e.goals after (node_given next) pops.rebased)
      popped_decided (Err fault) new after pops differs = differs_then fault (λ found. found ≡ outcome)
          (IsDefinite (verdicts X)) (λ found is. subst (IsDefinite (verdicts X)) (sym is) definite) differs

    end_decides : {same_result : R → R → Bool} {starts : ℕ} {result : Result (Next R) (Fault I R)}
        {new : Cache C I R T} {after : Evaluation D C V P F I R A T} {later : ℕ}
        → RunEnds G X same same_result outcome old e starts result new after later
        → after.limits_met ≡ false → LeadsDecided result old new after
    end_decides {same_result = same_result} (EndedDone entry run reason result new after comes pop) unmet = record {
      next = popped_decided same_result entry run reason comes.ends result new after pop.popped
          (if_err_then result pop.fails (λ fault fails. fails.differs));
      stores = newest_stores e.goals new.results pop.stored;
    }
    end_decides (EndedAtLimit entry run result new after comes pop) unmet =
        let clash : true ≡ false = sym (ap (λ (a : Evaluation D C V P F I R A T). a.limits_met) pop.rest) ∙ unmet in
        absurd cc
    end_decides (RanAgain entry run new after later comes keeps reran counted) unmet = record {
      next = record {
        goals =
            subst (AllDecided (verdicts X)) (sym reran.reran.is)
            (changed_decided (verdicts X) reran.reran.item
            (rerun_with outcome reran.reran.target reran.reran.frame reran.reran.own (with_no_record reran.reran.item))
            reran.reran.below refl
            (λ was. record { replies = tt; provisional = definite })
            (subst (AllDecided (verdicts X)) reran.reran.was all));
        reply = tt;
        entries = cleared_said (λ met r. IsDefinite (verdicts X) r) same
            (λ found. not (depends_on (record { 0 = length e.goals - 1 }) found)) e.provisional
            after.provisional reran.cleared entries;
      };
      stores = stores_nothing (verdicts X) same old.results new.results reran.results;
    }
    end_decides (NotRunAgain entry run new after later comes keeps) unmet = record {
      next = tt;
      stores = stores_nothing (verdicts X) same old.results new.results
          (ap (λ (c : Cache C I R T). c.results) keeps.cache);
    }

  -- a frame's fault tells of no results
  step_differs : (cx : C) (given : Received R) (goals : List (OpenGoal C F I R A T)) (fault : Fault I R)
      → IsStepFault G X cx given goals fault → IfDiffers fault (IsDefinite (verdicts X))
  step_differs cx given goals fault (NoMemoryLeft is) = subst (λ f. IfDiffers f (IsDefinite (verdicts X))) (sym is) tt
  step_differs cx given goals fault
      (OutOfOrder entry run frame verdict below request number was is_verdict taken disorderly is) =
      subst (λ f. IfDiffers f (IsDefinite (verdicts X))) (sym is) tt

-- no limit was met before, as none was met then
none_before : (before now after : Bool) → after ≡ (before || now) → after ≡ false → before ≡ false
none_before true now after is unmet = let clash : true ≡ false = sym is ∙ unmet in absurd cc
none_before false now after is unmet = refl

module _ {D C V P F I R A T : Type 0} {G : DelegateOf D C V P F I R A T} {X : CxOf C I R A T} {same : I → I → Bool}
    {same_result : R → R → Bool} (laws : AreLaws G X same same_result) where
  module _ {received : Received R} {old : Cache C I R T} {e : Evaluation D C V P F I R A T} {starts : ℕ}
      (right : IsRightFor G X same old.cx received old e) (call : Call I)
      (awaits : Awaits G X same old.cx call received old e starts)
      (top : I) (reached : AreReached (G.script old.cx) top (fates_of e.goals))
      (decides : DecidesFrom (verdicts X) (G.script old.cx) top)
      (stored : AreDefiniteFrom (verdicts X) (G.script old.cx) top same old.results)
      (decided : HaveDecided G X same received e) where
    -- the newest goal asks by a decided step, and comes to a result that is yes or no
    asked_by : (kind : PathKind) (goal : I) (goals : List (OpenGoal C F I R A T))
        → HasAsked G X old.cx call (work_left G X old.cx e.goals) (Evaluate kind goal) goals starts e.limits_met
        → AreReached (G.script old.cx) top (fates_of goals) → IsDecidedKind kind
    asked_by kind goal [] h there = absurd h.asked.mirror
    asked_by kind goal (s ∷ below) h there = decides.asks s.0.input goal kind there.0
        (asks_newest G X old.cx call (work_left G X old.cx e.goals) kind goal (s ∷ below) starts e.limits_met h)

    done_by : (done : R) (goals : List (OpenGoal C F I R A T))
        → HasAsked G X old.cx call (work_left G X old.cx e.goals) (Done done) goals starts e.limits_met
        → AreReached (G.script old.cx) top (fates_of goals)
        → AllDecided (verdicts X) goals → IsDefinite (verdicts X) done
    done_by done [] h there all = absurd h.asked.mirror
    done_by done (s ∷ below) h there all =
        let by = requested_by (seen G X old.cx) (Stood G X old.cx) (G.script old.cx) (limits G X old.cx call)
        (IsCounted G X old.cx call) call.top (bound G X old.cx call) (work_left G X old.cx e.goals) (Done done) s
        below starts e.limits_met h.asked in
        decides.ends s.0.input by.0 done there.0 by.2
        (subst (AreDecided (verdicts X)) by.1.1.replies_are (newest_decided (verdicts X) s below all).replies) by.3

    module _ {noop : Bool} where
      move_decides : {result : Result (Next R) (Fault I R)} {new : Cache C I R T}
          {after : Evaluation D C V P F I R A T} {later : ℕ}
          → Advanced G X same same_result noop received old e starts result new after later → after.limits_met ≡ false
          → LeadsDecided G X same result old new after
      move_decides (FrameFailed fault goals failed) unmet = record {
        next = step_differs G X same old.cx received e.goals fault failed;
        stores = stores_nothing (verdicts X) same old.results old.results refl;
      }
      move_decides (Asked kind goal goals given new after later stepped asking_leads asks) unmet =
          let asked = requests G X same old.cx old e received old.cx refl (Evaluate kind goal) goals stepped starts
          starts refl (Evaluate kind goal) refl right call awaits in
          let some = stepped_some G X old.cx received (Evaluate kind goal) e.goals goals stepped in
          let there = reached_stepped top stepped reached in
          let to = asked_by_newest (G.script old.cx) top kind goal goals some (asks_newest G X old.cx call
          (work_left G X old.cx e.goals) kind goal goals starts e.limits_met asked.asked) there in
          record {
            next =
                asking_decides G X same laws.initial_sort call kind goal (asked_by kind goal goals asked.asked there)
                (stepped_decided G X old.cx call received (Evaluate kind goal) e.goals goals stepped decided.reply
                decided.goals) decided.entries (stored goal to) asking_leads unmet;
            stores = stores_nothing (verdicts X) same old.results new.results asks.same_results;
          }
      move_decides (NotAsked kind goal goals new after later stepped fails asks) unmet =
          record { next = tt; stores = stores_nothing (verdicts X) same old.results new.results asks.same_results }
      move_decides (RunEnded outcome goals result new after later stepped runs ends) unmet =
          let asked = requests G X same old.cx old e received old.cx refl (Done outcome) goals stepped starts starts
          refl (Done outcome) refl right call awaits in
          let all =
          stepped_decided G X old.cx call received (Done outcome) e.goals goals stepped decided.reply decided.goals in
          end_decides G X same laws.by_value laws.ambiguous call outcome old (record e { goals = goals })
          (done_by outcome goals asked.asked (reached_stepped top stepped reached) all) all decided.entries ends unmet
      move_decides (Noted request goals noted stepped about notes) unmet = record {
        next = record {
          goals = candidates_decided (verdicts X) request goals noted notes
              (stepped_decided G X old.cx call received request e.goals goals stepped decided.reply decided.goals);
          reply = tt;
          entries = decided.entries;
        };
        stores = stores_nothing (verdicts X) same old.results old.results refl;
      }
      move_decides (NotNoted request goals left stepped) unmet =
          record { next = tt; stores = stores_nothing (verdicts X) same old.results old.results refl }

      turn_decides : {result : Result (Next R) (Fault I R)} {new : Cache C I R T}
          {after : Evaluation D C V P F I R A T} {later : ℕ}
          → Turned G X same same_result noop received old e starts result new after later → after.limits_met ≡ false
          → LeadsDecided G X same result old new after
      turn_decides (GoesOn given mid new between after later advanced goes is first kept) unmet =
          let moved =
          move_decides advanced (ap (λ (a : Evaluation D C V P F I R A T). a.limits_met) (sym is) ∙ unmet) in
          record {
            next = next_drafted G X same (Ok (Step given)) between after is moved.next;
            stores = lets_go_stores G X same old.results mid new goes.rest moved.stores;
          }
      turn_decides (Answered answer mid new after later advanced goes) unmet =
          let moved = move_decides advanced unmet in
          record { next = moved.next; stores = lets_go_stores G X same old.results mid new goes.rest moved.stores }
      turn_decides (NotAnswered answer new after later advanced) unmet =
          record { next = tt; stores = (move_decides advanced unmet).stores }
      turn_decides (Failed fault mid new between after later advanced goes is) unmet =
          let moved =
          move_decides advanced (ap (λ (a : Evaluation D C V P F I R A T). a.limits_met) (sym is) ∙ unmet) in
          record { next = moved.next; stores = lets_go_stores G X same old.results mid new goes.rest moved.stores }
      turn_decides (FailedForGood fault new between after later advanced is) unmet = record {
        next = tt;
        stores =
            (move_decides advanced (ap (λ (a : Evaluation D C V P F I R A T). a.limits_met) (sym is) ∙ unmet)).stores;
      }

  -- a turn, told of a context that its cache has, too
  decides_over :
      {noop : Bool} {cx : C} {given : Received R} {mid : Cache C I R T} {between : Evaluation D C V P F I R A T}
      {now : ℕ} (context : mid.cx ≡ cx) (call : Call I) (top : I)
      {result : Result (Next R) (Fault I R)} {new : Cache C I R T} {after : Evaluation D C V P F I R A T} {later : ℕ}
      (turned : Turned G X same same_result noop given mid between now result new after later)
      → IsRightFor G X same cx given mid between → Awaits G X same cx call given mid between now
      → AreReached (G.script cx) top (fates_of between.goals) → DecidesFrom (verdicts X) (G.script cx) top
      → AreDefiniteFrom (verdicts X) (G.script cx) top same mid.results → HaveDecided G X same given between
      → after.limits_met ≡ false → LeadsDecided G X same result mid new after
  decides_over {given = given} {mid = mid} {between = between} {now = now} context call
      top {result = result} {new = new} {after = after} turned =
      subst (λ c. IsRightFor G X same c given mid between → Awaits G X same c call given mid between now
      → AreReached (G.script c) top (fates_of between.goals) → DecidesFrom (verdicts X) (G.script c) top
      → AreDefiniteFrom (verdicts X) (G.script c) top same mid.results → HaveDecided G X same given between
      → after.limits_met ≡ false → LeadsDecided G X same result mid new after) context
      (λ right awaits reached decides stored decided unmet.
      turn_decides right call awaits top reached decides stored decided turned unmet)

  -- the whole call
  module _ {noop : Bool} {kind : PathKind} {goal : I} {fate : Fate R} {old : Cache C I R T}
      {e : Evaluation D C V P F I R A T} {starts : ℕ}
      (outset : IsAtOutset old e) (are_runs : AreRuns (verdicts X) (G.script old.cx) old.nodes)
      (sound : AreSoundResults same (verdicts X) (G.script old.cx) old.nodes old.results)
      (decides : DecidesFrom (verdicts X) (G.script old.cx) goal)
      (stored : AreDefiniteFrom (verdicts X) (G.script old.cx) goal same old.results) where
    ran_decides : {result : Result (Next R) (Fault I R)} {new : Cache C I R T} {after : Evaluation D C V P F I R A T}
        {later : ℕ} → Ran G X same same_result noop kind goal fate old e starts result new after later
        → after.limits_met ≡ false → LeadsDecided G X same result old new after
    ran_decides (Began goals held nodes later pushes fates holds nodes_kept one counted) unmet = record {
      next = record {
        goals =
            subst (AllDecided (verdicts X)) (sym pushes.is)
            (subst (λ below. AllDecided (verdicts X) ((
              first_entry goal kind e.root_depth pushes.own,
              first_run G X old.cx pushes.frame pushes.own pushes.becomes,
            ) ∷ below)) (sym outset.new.no_goals)
            (record { replies = tt; provisional = tt }));
        reply = tt;
        entries = subst (EntriesDefinite (verdicts X) same) (sym outset.new.no_entries) (λ other. All-nil _);
      };
      stores = stores_nothing (verdicts X) same old.results old.results refl;
    }
    ran_decides (NotBegun goals held later least one) unmet =
        record { next = tt; stores = stores_nothing (verdicts X) same old.results old.results refl }
    ran_decides (Then given mid between now result new after later ran turned) unmet =
        let known = call_of goal e.root_depth.0 starts e.limits_met false false outset.new.fits in
        let begins =
        some_call_begins G X old.cx same goal e.root_depth.0 starts e.limits_met outset.new.fits old.results in
        let before = ran_decides ran (none_before between.limits_met _ after.limits_met (turn_tells turned) unmet) in
        let then = decides_over (ran_keeps laws outset are_runs sound ran).context known goal turned
        (ran_right laws outset are_runs sound ran) (ran_waits laws outset are_runs sound known begins ran)
        (ran_reaches laws outset are_runs sound ran) decides
        (still_definite (verdicts X) same (G.script old.cx) goal old.results mid.results before.stores stored)
        before.next unmet in
        record {
          next = then.next;
          stores = stores_then (verdicts X) same old.results mid.results new.results before.stores then.stores;
        }

  evaluated_decides : {noop looks_up : Bool} {kind : PathKind} {goal : I} {old : Cache C I R T}
      {e : Evaluation D C V P F I R A T} {starts : ℕ}
      → IsAtOutset old e → AreRuns (verdicts X) (G.script old.cx) old.nodes
      → AreSoundResults same (verdicts X) (G.script old.cx) old.nodes old.results
      → DecidesFrom (verdicts X) (G.script old.cx) goal
      → AreDefiniteFrom (verdicts X) (G.script old.cx) goal same old.results
      → {result : Result (Answer R) (Fault I R)} {new : Cache C I R T} {after : Evaluation D C V P F I R A T}
      {later : ℕ} → Evaluated G X same same_result noop looks_up kind goal old e starts result new after later
      → after.limits_met ≡ false
      → EndsDecided G X same result × StoresDefinite (verdicts X) same old.results new.results
  evaluated_decides {goal = goal} {old = old} outset are_runs sound decides stored
      (WasStored hit found usable) unmet = (
        subst (IsDefinite (verdicts X)) usable.result_is (stored goal here usable.place usable.stored usable.is_stored),
        stores_nothing (verdicts X) same old.results old.results refl,
      )
  evaluated_decides outset are_runs sound decides stored
      (WasWorkedOut (Ok answer) new after later none fated ran) unmet =
      let h = ran_decides outset are_runs sound decides stored ran unmet in (h.next, h.stores)
  evaluated_decides outset are_runs sound decides stored
      (WasWorkedOut (Err fault) new after later none fated ran) unmet =
      let h = ran_decides outset are_runs sound decides stored ran unmet in (h.next, h.stores)

-- ---- what is promised

module _ {D C V P F I R A T : Type 0} {G : DelegateOf D C V P F I R A T} {X : CxOf C I R A T} {same : I → I → Bool}
    {same_result : R → R → Bool} {call : Called C I R A T} (ran : HasRun G X same same_result call)
    (decides : DecidesFrom (verdicts X) (G.script call.before.cache.cx) call.goal)
    (stored : AreDefiniteFrom (verdicts X) (G.script call.before.cache.cx) call.goal same call.before.cache.results)
    (unmet : call.after.graph.limits_met ≡ false) where
  run_is : EndsDecided G X same call.result
      × StoresDefinite (verdicts X) same call.before.cache.results call.after.cache.results
  run_is = evaluated_decides ran.laws ran.at_outset ran.was_sound.runs
      ran.was_sound.results decides stored ran.evaluated unmet

  pub run_is_decided : IfOk call.result (λ answer. IsDefinite (verdicts X) answer.result)
  run_is_decided = (ended_if G X same call.result run_is.0).0

  pub run_stores_decided : StoresDefinite (verdicts X) same call.before.cache.results call.after.cache.results
  run_stores_decided = run_is.1

  pub run_decides_it : IfOk call.result (λ answer. Decides X call.before.cache.cx call.goal answer.result)
  run_decides_it =
      if_ok_all call.result (run_proves ran) (run_refutes ran) run_is_decided
      (λ answer proved refuted definite.
      subst (λ cx. Decides X cx call.goal answer.result) (run_keeps ran).context
      (definite_decides G X call.after.cache call.goal answer.result answer.node proved refuted definite))

  -- a fault that tells of two results is one of a goal that was reached
  about_reached : (met : Bool) (goals : List (OpenGoal C F I R A T)) (fault : Fault I R)
      → FailsFor G same call.before.cache.cx call.after.cache.results met call.goal goals fault → (goal : I)
      → IsAbout fault goal → MayReach (G.script call.before.cache.cx) call.goal goal
  about_reached met goals fault (MemoryIsOut is) goal about = absurd (subst (λ f. IsAbout f goal) is about)
  about_reached met goals Memory (IsOfNewest s below are reaches is) goal about = absurd about
  about_reached met goals (Protocol number) (IsOfNewest s below are reaches is) goal about = absurd about
  about_reached met goals (Conflict other one found) (IsOfNewest s below are reaches is) goal about =
      subst (MayReach (G.script call.before.cache.cx) call.goal) (sym is.0 ∙ about) reaches
  about_reached met goals (Validation other one found) (IsOfNewest s below are reaches is) goal about =
      subst (MayReach (G.script call.before.cache.cx) call.goal) (sym is.0 ∙ about) reaches

  pub run_fails_for_good : HasOneOfEach (verdicts X) → IfErr call.result (λ fault. IsMemoryOrOrder fault)
  run_fails_for_good one =
      let all = still_definite (verdicts X) same (G.script call.before.cache.cx) call.goal call.before.cache.results
      call.after.cache.results run_stores_decided stored in
      let told : IfErr call.result (λ fault. FailsFor G same call.before.cache.cx call.after.cache.results
      (limits_met_in ran).most_runs call.goal (goals_at_end ran) fault × IfDiffers fault (IsDefinite (verdicts X))) =
      if_err_both call.result (run_fails ran) (ended_if G X same call.result run_is.0).1
      (λ fault whose decided. (whose, decided)) in
      if_err_both call.result told (run_is_grounded ran).caused
      (λ fault h caused. memory_or_order G X same call.after.cache one fault (λ goal about.
      all goal (about_reached (limits_met_in ran).most_runs (goals_at_end ran) fault h.0 goal about)) h.1 caused)
