-- What follows of a move: the call goes on or stops, all stays right, and what becomes of goals, cache and drafts.
use Rattle.std.proofs.Common.{◌∙◌, ℕ, Bool, List, Result, Ok, Err, IfOk, IfErr, OnOk, refl, sym, subst}
use Rattle.between_moves.proofs.Keeping.{cache_stays, later_keeps, stay_then}
use Rattle.between_moves.proofs.Scopes.{HoldScopesNext}
use Rattle.between_moves.specs.Scopes.{HoldScopes}
use Rattle.search_ends.proofs.moves.Ended.{ended_cache, ended_goes_on, ended_leads, ended_right}
use Rattle.search_ends.proofs.moves.Ended.{ended_stops, ended_stores}
use Rattle.search_ends.proofs.moves.EndedGoals.{ended_scopes, led_fates, led_from}
use Rattle.search_ends.proofs.results.Causes.{memory_lasts}
use Rattle.search_ends.specs.Storing.{HasLastingCause}
use Rattle.search_graph.specs.Laws.{AreLaws}
use Rattle.search_graph.proofs.requests.Advancing.{has_held, requests, step_stops, stepped_right}
use Rattle.search_graph.proofs.requests.Noted.{noted_is_justified, noting_goes_on, noting_keeps_free}
use Rattle.search_graph.proofs.turns.Causes.{step_has_cause, step_keeps_free}
use Rattle.search_graph.proofs.turns.Loops.{done_leads, next_before, step_asks_for, stepped_some}
use Rattle.search_graph.specs.Below.{Awaits, Cache, Call, ChangesCache, ChangesNewest, CxOf, DelegateOf, Done, Evaluate}
use Rattle.search_graph.specs.Below.{fates_of, Fault, HasStepped, IfFinished, IsFated, IsNewestToStore}
use Rattle.search_graph.specs.Below.{IsRememberedWhere, IsRightFor, IsRightNext, IsWaiting, LeadsTo, MeetsNewest}
use Rattle.search_graph.specs.Below.{MovesFates, Next, OpenGoal, Received, runs_of, StopsWith, verdicts, work_left}
use Rattle.search_graph.specs.Calls.{MovesGoals}
use Rattle.search_graph.specs.Ran.{Advanced, Asked, FrameFailed, NotAsked, Noted, NotNoted, RunEnded}
use Rattle.search_questions.proofs.moves.AskedGoals.{asked_fates, asked_from, asked_scopes}
use Rattle.search_questions.proofs.moves.Asking.{asked_goes_on, asked_right, asking_stops}
use Rattle.search_rules.proofs.entries.Moves.{noted_ready, stepped_ready}
use Rattle.search_rules.proofs.justified.Finishing.{noted_fits}
use Rattle.search_rules.proofs.moves.DoneRuns.{stopped_by}
use Rattle.search_rules.proofs.moves.Fates.{fates_of_candidates, fates_stepped}
use Rattle.search_rules.proofs.moves.Moves.{asked_stopped}
use Rattle.search_rules.proofs.moves.Questions.{if_ok_then}
use Rattle.search_rules.proofs.records.EarlierNodes.{stay_candidates, stay_stepped}
use Rattle.search_rules.specs.Fates.{Stay, Untouched}
use Rattle.search_state.proofs.nodes.Noting.{noted_same}
use Rattle.search_state.specs.Drafts.{KeepsNoted}
use Rattle.search_state.specs.declared.drafts.Drafts.{Drafts}
use Rattle.search_state.specs.declared.evaluation.Evaluation.{Evaluation}

-- what follows from an answer holds if there is one
pub on_ok_if : {V E P : Type 0} (r : Result V E) (Q : V → Type 0) → IfOk r Q → ((v : V) → Q v → P) → OnOk r P
on_ok_if (Ok v) Q h from = from v h
on_ok_if (Err fault) Q h from = tt

-- what leads on from the goals after a frame's step leads on from those before it
leads_before :
    {D C V P F I R A T : Type 0} (G : DelegateOf D C V P F I R A T) (X : CxOf C I R A T) (same : I → I → Bool) (cx : C)
    (call : Call I) (received : Received R) (outcome : R) {old goals : List (OpenGoal C F I R A T)}
    → HasStepped G X cx received (Done outcome) old goals
    → (next : Next R) {new : Cache C I R T} {after : Evaluation D C V P F I R A T} {later : ℕ}
    → LeadsTo G X same cx call (work_left G X cx old) goals next new after later
    → LeadsTo G X same cx call (work_left G X cx old) old next new after later
leads_before G X same cx call received outcome {old} {goals} stepped next {new} {after} {later} on = record {
  leads = done_leads G X cx received old goals cx (Done outcome) stepped call next
      after.goals later after.limits_met on.leads;
  answers = on.answers;
  remembered = subst (λ fs.
      IfFinished next (λ answer. IsNewestToStore fs → IsRememberedWhere G X cx same call new after.limits_met answer))
      (fates_stepped G X cx old goals received (Done outcome) stepped) on.remembered;
  compared = subst (λ fs. IfFinished next (λ answer. MeetsNewest fs answer.result))
      (fates_stepped G X cx old goals received (Done outcome) stepped) on.compared;
}

nothing_noted : {C I R T : Type 0} (same : I → I → Bool) (cache : Cache C I R T) (drafts : Drafts)
    → KeepsNoted same cache drafts cache drafts
nothing_noted same cache drafts = noted_same same cache cache drafts drafts refl refl

module _ {D C V P F I R A T : Type 0} {G : DelegateOf D C V P F I R A T} {X : CxOf C I R A T} {same : I → I → Bool}
    {same_result : R → R → Bool} {noop : Bool} {received : Received R} {old : Cache C I R T}
    {e : Evaluation D C V P F I R A T} {starts : ℕ} where
  -- ---- where the newest goal awaited the reply, the call goes on,

  module _ (laws : AreLaws G X same same_result) (right : IsRightFor G X same old.cx received old e) where
    pub advanced_leads :
        (call : Call I) → Awaits G X same old.cx call received old e starts
        → {result : Result (Next R) (Fault I R)} {new : Cache C I R T} {after : Evaluation D C V P F I R A T}
        {later : ℕ} → Advanced G X same same_result noop received old e starts result new after later
        → IfOk result (λ next. LeadsTo G X same old.cx call (work_left G X old.cx e.goals) e.goals next new after later)
    advanced_leads call h (FrameFailed fault goals failed) = tt
    advanced_leads call h (Asked kind goal goals given new after later stepped asks keeps) =
        let ready = stepped_ready G X old.cx same (G.script old.cx) old.nodes e.provisional received
        (Evaluate kind goal) e.goals goals stepped right.right.ready in
        let on =
        asked_goes_on G X same old.cx kind goal old (record e { goals = goals }) starts laws.divides laws.by_value
        laws.own (laws.initial_sort old.cx) noop given new after later asks ready call _
        (requests G X same old.cx old e received old.cx refl (Evaluate kind goal) goals stepped starts starts refl
        (Evaluate kind goal) refl right call h) in
        record { leads = on.goes_on; answers = on.answers; remembered = tt; compared = tt }
    advanced_leads call h (NotAsked kind goal goals new after later stepped fails keeps) = tt
    advanced_leads call h (RunEnded outcome goals result new after later stepped runs ends) =
        if_ok_then result _ _ (ended_goes_on laws.by_value laws.ambiguous
        (stepped_right G X same old.cx old e received old.cx refl (Done outcome) goals stepped refl right) call _
        (requests G X same old.cx old e received old.cx refl (Done outcome) goals stepped starts starts refl
        (Done outcome) refl right call h) ends)
        (λ next on. leads_before G X same old.cx call received outcome stepped next on)
    advanced_leads call h (Noted request goals noted stepped about notes) = record {
      leads = noting_goes_on G X old.cx call _ request goals noted _ _ about notes (requests G X same old.cx old e
          received old.cx refl request goals stepped starts starts refl request refl right call h).asked;
      answers = h.answers;
      remembered = tt;
      compared = tt;
    }
    advanced_leads call h (NotNoted request goals left stepped) = tt

    -- or it stops
    pub advanced_stops :
        (call : Call I) → Awaits G X same old.cx call received old e starts
        → {result : Result (Next R) (Fault I R)} {new : Cache C I R T} {after : Evaluation D C V P F I R A T}
        {later : ℕ} → Advanced G X same same_result noop received old e starts result new after later
        → IfErr result (λ fault. StopsWith G X same old.cx call fault new after later)
    advanced_stops call h (FrameFailed fault goals failed) =
        step_stops G X same old.cx old e received old.cx refl goals starts starts refl fault failed right call h
    advanced_stops call h (Asked kind goal goals given new after later stepped asks keeps) = tt
    advanced_stops call h (NotAsked kind goal goals new after later stepped fails keeps) =
        asking_stops G X same old.cx kind goal old (record e { goals = goals }) starts laws.divides fails call _
        (requests G X same old.cx old e received old.cx refl (Evaluate kind goal) goals stepped starts starts refl
        (Evaluate kind goal) refl right call h)
    advanced_stops call h (RunEnded outcome goals result new after later stepped runs ends) =
        ended_stops laws.by_value laws.ambiguous
        (stepped_right G X same old.cx old e received old.cx refl (Done outcome) goals stepped refl right) call _
        (requests G X same old.cx old e received old.cx refl (Done outcome) goals stepped starts starts refl
        (Done outcome) refl right call h) ends
    advanced_stops call h (Noted request goals noted stepped about notes) = tt
    advanced_stops call h (NotNoted request goals left stepped) = record {
      stopped = asked_stopped G X old.cx call _ request goals _ _ (requests G X same old.cx old e received old.cx refl
          request goals stepped starts starts refl request refl right call h).asked;
      store = h.answers.store;
    }

    -- ---- and all that comes next is right

    pub advanced_right :
        {result : Result (Next R) (Fault I R)} {new : Cache C I R T} {after : Evaluation D C V P F I R A T}
        {later : ℕ} → Advanced G X same same_result noop received old e starts result new after later
        → IfOk result (λ next. IsRightNext G X same old.cx e.goals next new after)
    advanced_right (FrameFailed fault goals failed) = tt
    advanced_right (Asked kind goal goals given new after later stepped asks keeps) =
        let on =
        asked_right G X same old.cx kind goal old (record e { goals = goals }) starts laws.stack_overflow
        (laws.initial_sort old.cx) noop given new after later asks
        (step_asks_for G X old.cx received e.goals goals old.cx (Evaluate kind goal) stepped kind goal refl)
        (stepped_right G X same old.cx old e received old.cx refl (Evaluate kind goal) goals stepped refl right) in
        record { justified = (on.right.justified, on.fits); free = on.right.free; ready = on.right.ready }
    advanced_right (NotAsked kind goal goals new after later stepped fails keeps) = tt
    advanced_right (RunEnded outcome goals result new after later stepped runs ends) =
        if_ok_then result _ _ (ended_right ends) (λ next on. record {
          justified = next_before G X old.cx received e.goals goals old.cx (Done outcome) stepped
              new.nodes after.goals next on.justified;
          free = on.free;
          ready = on.ready;
        })
    advanced_right (Noted request goals noted stepped about notes) = record {
      justified = (
        noted_is_justified G X old.cx old.nodes received request e.goals goals noted stepped
            right.fits right.right.justified notes,
        noted_fits (verdicts X) old.nodes (runs_of noted),
      );
      free = noting_keeps_free (verdicts X) same old.nodes old.results request goals noted notes (step_keeps_free G X
          old.cx same old.nodes old.results received request e.goals goals stepped right.right.free);
      ready = noted_ready (verdicts X) same (G.script old.cx) old.nodes e.provisional request goals noted notes
          (stepped_ready G X old.cx same (G.script old.cx) old.nodes e.provisional received request
          e.goals goals stepped right.right.ready);
    }
    advanced_right (NotNoted request goals left stepped) = tt

    -- a fault has its cause, which lasts
    pub advanced_lasts :
        (call : Call I) → IsWaiting G X old.cx call received.reply e.goals starts e.limits_met
        → {result : Result (Next R) (Fault I R)} {new : Cache C I R T} {after : Evaluation D C V P F I R A T}
        {later : ℕ} → Advanced G X same same_result noop received old e starts result new after later
        → IfErr result (HasLastingCause G X same new after.drafts)
    advanced_lasts call waiting (FrameFailed fault goals failed) =
        step_has_cause G X same old e.drafts received e.goals starts e.limits_met call
        right.fits waiting old.cx refl fault failed
    advanced_lasts call waiting (Asked kind goal goals given new after later stepped asks keeps) = tt
    advanced_lasts call waiting (NotAsked kind goal goals new after later stepped fails keeps) =
        memory_lasts G X same new after.drafts _ refl
    advanced_lasts call waiting (RunEnded outcome goals result new after later stepped runs ends) =
        stopped_by result _ _ (λ fault fails. fails.caused) (ended_stores ends).fails
    advanced_lasts call waiting (Noted request goals noted stepped about notes) = tt
    advanced_lasts call waiting (NotNoted request goals left stepped) = memory_lasts G X same old e.drafts _ refl

  -- ---- what becomes of the goals, of their results,

  pub advanced_goals :
      {result : Result (Next R) (Fault I R)} {new : Cache C I R T} {after : Evaluation D C V P F I R A T} {later : ℕ}
      → Advanced G X same same_result noop received old e starts result new after later
      → OnOk result (MovesGoals same (IsFated (G.scoped old.cx) (G.script old.cx) same old.results noop)
      old.nodes e.goals after.goals)
  advanced_goals (FrameFailed fault goals failed) = tt
  advanced_goals (Asked kind goal goals given new after later stepped asks keeps) = record {
    stays = stay_then old.nodes e.goals goals after.goals
        (stay_stepped G X old.cx old.nodes e.goals goals received (Evaluate kind goal) stepped)
        (asked_from G X same old.cx kind goal old (record e { goals = goals }) starts noop given new after later asks);
    fates = subst (λ fs. MovesFates same (IsFated (G.scoped old.cx) (G.script old.cx) same old.results noop) fs
        (fates_of after.goals)) (fates_stepped G X old.cx e.goals goals received (Evaluate kind goal) stepped)
        (asked_fates G X same old.cx (IsFated (G.scoped old.cx) (G.script old.cx) same old.results noop) kind goal old
        (record e { goals = goals }) starts noop given new after later
        (stepped_some G X old.cx received (Evaluate kind goal) e.goals goals stepped) (λ depth fate fated. fated) asks);
  }
  advanced_goals (NotAsked kind goal goals new after later stepped fails keeps) = tt
  advanced_goals (RunEnded outcome goals result new after later stepped runs ends) =
      on_ok_if result _ (ended_leads ends) (λ next leads. record {
        stays = stay_then old.nodes e.goals goals after.goals
            (stay_stepped G X old.cx old.nodes e.goals goals received (Done outcome) stepped)
            (led_from G X same old.cx same_result outcome old (record e { goals = goals }) next new after leads);
        fates = subst (λ fs. MovesFates same (IsFated (G.scoped old.cx) (G.script old.cx) same old.results noop) fs
            (fates_of after.goals)) (fates_stepped G X old.cx e.goals goals received (Done outcome) stepped)
            (led_fates G X same old.cx same_result (IsFated (G.scoped old.cx) (G.script old.cx) same old.results noop)
            outcome old (record e { goals = goals }) next new after leads);
      })
  advanced_goals (Noted request goals noted stepped about notes) = record {
    stays = stay_then old.nodes e.goals goals noted
        (stay_stepped G X old.cx old.nodes e.goals goals received request stepped)
        (stay_candidates old.nodes request goals noted notes);
    fates = Stay (fates_of_candidates request goals noted notes
        ∙ fates_stepped G X old.cx e.goals goals received request stepped);
  }
  advanced_goals (NotNoted request goals left stepped) = tt

  -- which of them hold scopes,

  pub advanced_scopes :
      {result : Result (Next R) (Fault I R)} {new : Cache C I R T} {after : Evaluation D C V P F I R A T} {later : ℕ}
      → HoldScopes (fates_of e.goals) e.scopes
      → Advanced G X same same_result noop received old e starts result new after later
      → IfOk result (λ next. HoldScopesNext next after.goals after.scopes)
  advanced_scopes h (FrameFailed fault goals failed) = tt
  advanced_scopes h (Asked kind goal goals given new after later stepped asks keeps) =
      asked_scopes G X same old.cx kind goal old (record e { goals = goals }) starts noop given new after later asks
      (has_held G X same old.cx old e received old.cx refl (Evaluate kind goal) goals stepped h)
  advanced_scopes h (NotAsked kind goal goals new after later stepped stops keeps) = tt
  advanced_scopes h (RunEnded outcome goals result new after later stepped runs ends) =
      ended_scopes ends (has_held G X same old.cx old e received old.cx refl (Done outcome) goals stepped h)
  advanced_scopes h (Noted request goals noted stepped about notes) =
      subst (λ fs. HoldScopes fs e.scopes) (sym (fates_of_candidates request goals noted notes))
      (has_held G X same old.cx old e received old.cx refl request goals stepped h)
  advanced_scopes h (NotNoted request goals left stepped) = tt

  -- of the cache,

  pub advanced_cache :
      {result : Result (Next R) (Fault I R)} {new : Cache C I R T} {after : Evaluation D C V P F I R A T} {later : ℕ}
      → Advanced G X same same_result noop received old e starts result new after later
      → ChangesCache same e.goals old new
  advanced_cache (FrameFailed fault goals failed) =
      record { keeps = cache_stays same e.goals old; changes = Untouched refl }
  advanced_cache (Asked kind goal goals given new after later stepped asks keeps) =
      record {
        keeps = later_keeps same e.goals goals old new
            (stay_stepped G X old.cx old.nodes e.goals goals received (Evaluate kind goal) stepped) keeps.cache;
        changes = Untouched keeps.same_results;
      }
  advanced_cache (NotAsked kind goal goals new after later stepped fails keeps) =
      record {
        keeps = later_keeps same e.goals goals old new
            (stay_stepped G X old.cx old.nodes e.goals goals received (Evaluate kind goal) stepped) keeps.cache;
        changes = Untouched keeps.same_results;
      }
  advanced_cache (RunEnded outcome goals result new after later stepped runs ends) = record {
    keeps = later_keeps same e.goals goals old new
        (stay_stepped G X old.cx old.nodes e.goals goals received (Done outcome) stepped) (ended_cache ends).keeps;
    changes = subst (λ fs. ChangesNewest same fs old.results new.results)
        (fates_stepped G X old.cx e.goals goals received (Done outcome) stepped) (ended_cache ends).changes;
  }
  advanced_cache (Noted request goals noted stepped about notes) =
      record { keeps = cache_stays same e.goals old; changes = Untouched refl }
  advanced_cache (NotNoted request goals left stepped) =
      record { keeps = cache_stays same e.goals old; changes = Untouched refl }

  -- and of the drafts

  pub advanced_noted :
      {result : Result (Next R) (Fault I R)} {new : Cache C I R T} {after : Evaluation D C V P F I R A T} {later : ℕ}
      → Advanced G X same same_result noop received old e starts result new after later
      → KeepsNoted same old e.drafts new after.drafts
  advanced_noted (FrameFailed fault goals failed) = nothing_noted same old e.drafts
  advanced_noted (Asked kind goal goals given new after later stepped asks keeps) =
      noted_same same old new e.drafts after.drafts keeps.same_drafts keeps.same_results
  advanced_noted (NotAsked kind goal goals new after later stepped fails keeps) =
      noted_same same old new e.drafts after.drafts keeps.same_drafts keeps.same_results
  advanced_noted (RunEnded outcome goals result new after later stepped runs ends) = (ended_stores ends).noted
  advanced_noted (Noted request goals noted stepped about notes) = nothing_noted same old e.drafts
  advanced_noted (NotNoted request goals left stepped) = nothing_noted same old e.drafts
