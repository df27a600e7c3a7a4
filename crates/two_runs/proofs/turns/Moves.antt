-- What follows of a move where two runs of a goal are enough: no limit is met, and what answers rest
-- on stays off the goals.
use Rattle.std.proofs.Common.{Err, IfErr, Ok, ◌≡◌, ℕ, Bool, false, List, Result, IfOk, OnErr, refl}
use Rattle.two_runs.proofs.settled.SettledStores.{settled_stays, store_settled}
use Rattle.two_runs.specs.Evaluations.{EntriesSuitCall, IsSettledStore, Settles, SettlesNext}
use Rattle.search_ends.proofs.moves.Ended.{ended_cache, ended_leads, ended_stores}
use Rattle.two_runs.proofs.ends.LimitsAtEnd.{ended_meets}
use Rattle.two_runs.proofs.ends.SettledEnds.{end_unmet, led_settles}
use Rattle.search_graph.specs.Laws.{AreLaws}
use Rattle.search_rules.proofs.moves.Questions.{if_ok_then}
use Rattle.search_graph.proofs.requests.Advancing.{requests, stepped_right}
use Rattle.two_runs.proofs.turns.Steps.{ask_unmet, noted_settles, noted_stays_off, stepped_entries}
use Rattle.two_runs.specs.Below.{Awaits, Cache, Call, CxOf, DelegateOf, Done, Evaluate, Fault, HasStepped, IsRight}
use Rattle.two_runs.specs.Below.{IsRightFor, Next, NotesCandidate, OpenGoal, Received, Request, Requests, runs_of}
use Rattle.two_runs.specs.Below.{verdicts, work_left}
use Rattle.search_graph.specs.Ran.{Advanced, Asked, FrameFailed, NotAsked, Noted, NotNoted, RunEnded}
use Rattle.two_runs.proofs.questions.Settling.{asked_settles}
use Rattle.two_runs.specs.Settled.{CallNeedsTwoRuns, IsSettling}
use Rattle.search_state.specs.declared.evaluation.Evaluation.{Evaluation}

-- what follows from a fault holds if there is one
on_err_if : {V E P : Type 0} (r : Result V E) (Q : E → Type 0) → IfErr r Q → ((fault : E) → Q fault → P) → OnErr r P
on_err_if (Ok v) Q h from = tt
on_err_if (Err fault) Q h from = from fault h

module _ {D C V P F I R A T : Type 0} {G : DelegateOf D C V P F I R A T} {X : CxOf C I R A T} {same : I → I → Bool}
    {same_result : R → R → Bool} {noop : Bool} {received : Received R} {old : Cache C I R T}
    {e : Evaluation D C V P F I R A T} {starts : ℕ}
    (laws : AreLaws G X same same_result) (right : IsRightFor G X same old.cx received old e) (call : Call I)
    (awaits : Awaits G X same old.cx call received old e starts) (needs : CallNeedsTwoRuns G X old.cx call noop)
    (s : Settles G X same old.cx call received old e) where
  -- a frame that asks or is done keeps all of that
  module _ (request : Request I R) (goals : List (OpenGoal C F I R A T))
      (stepped : HasStepped G X old.cx received request e.goals goals) where
    asks_so : Requests G X same old.cx request call (work_left G X old.cx e.goals)
        old (record e { goals = goals }) starts
    asks_so = requests G X same old.cx old e received old.cx refl request goals stepped starts
        starts refl request refl right call awaits

    module _ (notes : NotesCandidate request goals goals) where
      right_so : IsRight G X same old.cx old (record e { goals = goals })
      right_so = stepped_right G X same old.cx old e received old.cx refl request goals stepped notes right

      settling_so : IsSettling (verdicts X) same old.nodes old.results e.provisional call goals e.limits_met
      settling_so = noted_settles G X old.cx same old.nodes old.results e.provisional call e.limits_met received request
          e.goals goals goals stepped s.answer notes s.settling

      entries_so : EntriesSuitCall G same old.cx call old.results goals e.provisional
      entries_so = stepped_entries G X same old.cx old.cx refl call received request old.results e.goals goals goals
          e.provisional stepped notes s.entries

  pub advanced_unmet :
      {result : Result (Next R) (Fault I R)} {new : Cache C I R T} {after : Evaluation D C V P F I R A T} {later : ℕ}
      → Advanced G X same same_result noop received old e starts result new after later → after.limits_met ≡ false
  advanced_unmet (FrameFailed fault goals failed) = s.settling.unmet
  advanced_unmet (Asked kind goal goals given new after later stepped asks keeps) =
      ask_unmet G X same old.cx kind goal old (record e { goals = goals }) starts call _ noop needs
      (asks_so (Evaluate kind goal) goals stepped) after.limits_met s.settling.unmet keeps.meets
  advanced_unmet (NotAsked kind goal goals new after later stepped fails keeps) =
      ask_unmet G X same old.cx kind goal old (record e { goals = goals }) starts call _ noop needs
      (asks_so (Evaluate kind goal) goals stepped) after.limits_met s.settling.unmet keeps.meets
  advanced_unmet (RunEnded outcome goals result new after later stepped runs ends) =
      end_unmet G X same laws.by_value old (record e { goals = goals }) starts call _ noop outcome needs
      (asks_so (Done outcome) goals stepped) (right_so (Done outcome) goals stepped refl)
      (settling_so (Done outcome) goals stepped refl) (entries_so (Done outcome) goals stepped refl)
      same_result laws.own_result laws.one_sort (laws.clash old.cx) (laws.yes_is_proved old.cx)
      (laws.no_is_refuted old.cx) runs after.limits_met (ended_meets ends)
  advanced_unmet (Noted request goals noted stepped about notes) = s.settling.unmet
  advanced_unmet (NotNoted request goals left stepped) = s.settling.unmet

  pub advanced_settles :
      {result : Result (Next R) (Fault I R)} {new : Cache C I R T} {after : Evaluation D C V P F I R A T} {later : ℕ}
      → Advanced G X same same_result noop received old e starts result new after later
      → IfOk result (λ next. SettlesNext G X same old.cx call next new after)
  advanced_settles (FrameFailed fault goals failed) = tt
  advanced_settles (Asked kind goal goals given new after later stepped asks keeps) =
      asked_settles G X same laws.by_value laws.own laws.divides old.cx kind goal old (record e { goals = goals })
      starts call _ noop needs (asks_so (Evaluate kind goal) goals stepped)
      (right_so (Evaluate kind goal) goals stepped refl) (settling_so (Evaluate kind goal) goals stepped refl)
      (entries_so (Evaluate kind goal) goals stepped refl)
      given new after later asks
  advanced_settles (NotAsked kind goal goals new after later stepped fails keeps) = tt
  advanced_settles (RunEnded outcome goals result new after later stepped runs ends) =
      if_ok_then result _ _ (ended_leads ends)
      (λ next. led_settles G X same laws.by_value old (record e { goals = goals }) starts call _ noop outcome needs
      (asks_so (Done outcome) goals stepped) (right_so (Done outcome) goals stepped refl)
      (settling_so (Done outcome) goals stepped refl) (entries_so (Done outcome) goals stepped refl)
      same_result laws.own_result laws.one_sort (laws.clash old.cx) (laws.yes_is_proved old.cx)
      (laws.no_is_refuted old.cx) runs next new after)
  advanced_settles (Noted request goals noted stepped about notes) = record {
    settling = noted_settles G X old.cx same old.nodes old.results e.provisional call e.limits_met received request
        e.goals goals noted stepped s.answer notes s.settling;
    answer = noted_stays_off (verdicts X) same laws.by_value old.nodes old.results e.provisional noted;
    entries = stepped_entries G X same old.cx old.cx refl call received request old.results e.goals goals noted
        e.provisional stepped notes s.entries;
  }
  advanced_settles (NotNoted request goals left stepped) = tt

  -- a move that fails leaves the stored results settled
  pub advanced_leaves :
      {result : Result (Next R) (Fault I R)} {new : Cache C I R T} {after : Evaluation D C V P F I R A T} {later : ℕ}
      → Advanced G X same same_result noop received old e starts result new after later
      → OnErr result (IsSettledStore G X same old.cx call.goals new.nodes new.results)
  advanced_leaves (FrameFailed fault goals failed) = store_settled G X same old.cx call received old e s
  advanced_leaves (Asked kind goal goals given new after later stepped asks keeps) = tt
  advanced_leaves (NotAsked kind goal goals new after later stepped fails keeps) =
      settled_stays G X same old.cx call.goals old new (runs_of e.goals) right.right.free keeps.cache.nodes
      keeps.same_results (store_settled G X same old.cx call received old e s)
  advanced_leaves (RunEnded outcome goals result new after later stepped runs ends) =
      on_err_if result _ (ended_stores ends).fails
      (λ fault fails. settled_stays G X same old.cx call.goals old new (runs_of e.goals) right.right.free
      (ended_cache ends).keeps.nodes fails.unstored (store_settled G X same old.cx call received old e s))
  advanced_leaves (Noted request goals noted stepped about notes) = tt
  advanced_leaves (NotNoted request goals left stepped) = store_settled G X same old.cx call received old e s
