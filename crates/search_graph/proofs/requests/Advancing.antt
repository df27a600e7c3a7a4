-- The newest frame gets its reply and makes a request: what the moves after that may rest on.
use Rattle.std.proofs.Common.{◌≡◌, ℕ, Bool, List, sym, ◌∙◌, subst}
use Rattle.search_graph.specs.Below.{DelegateOf, CxOf, Request, Received, Cache, HasStepped, IsStepFault}
use Rattle.search_graph.specs.Below.{NotesCandidate, OpenGoal, Fault, Awaits, Call, fates_of, HasReply, HasRequest}
use Rattle.search_graph.specs.Below.{HaveExpected, IsRight, IsRightFor, Requests, StopsWith, work_left}
use Rattle.search_state.specs.declared.evaluation.Evaluation.{Evaluation}
use Rattle.between_moves.specs.Scopes.{HoldScopes}
use Rattle.search_graph.proofs.turns.Causes.{step_keeps_free}
use Rattle.search_graph.proofs.turns.Loops.{advance_asks, advance_justified, advance_stops, step_asks_for, stepped_some}
use Rattle.search_rules.proofs.moves.Fates.{fates_stepped}
use Rattle.search_rules.proofs.entries.Moves.{stepped_ready}

module _ {D C V P F I R A T : Type 0} (G : DelegateOf D C V P F I R A T) (X : CxOf C I R A T) (same : I → I → Bool)
    (cx : C) (cache : Cache C I R T) (e : Evaluation D C V P F I R A T) (given : Received R) where
  -- a frame that failed ends the call
  pub step_stops :
      (read : C) → read ≡ cx → (goals : List (OpenGoal C F I R A T)) (starts now : ℕ) → now ≡ starts
      → (fault : Fault I R) → IsStepFault G X read given e.goals fault
      → IsRightFor G X same cx given cache e → (call : Call I) → Awaits G X same cx call given cache e starts
      → StopsWith G X same cx call fault cache (record e { goals = goals }) now
  step_stops read reads goals starts now same_starts fault is h call w = record {
    stopped = advance_stops G X cx given e.goals goals read reads fault is starts now e.limits_met
        same_starts cache.nodes h.fits call w.waiting;
    store = w.answers.store;
  }

  module _ (read : C) (reads : read ≡ cx) (made : Request I R) (goals : List (OpenGoal C F I R A T))
      (stepped : HasStepped G X read given made e.goals goals) where
    pub requests :
        (starts now : ℕ) → now ≡ starts → (request : Request I R) → made ≡ request
        → IsRightFor G X same cx given cache e
        → (call : Call I) → Awaits G X same cx call given cache e starts
        → Requests G X same cx request call (work_left G X cx e.goals) cache (record e { goals = goals }) now
    requests starts now same_starts request is h call w = record {
      asked = advance_asks G X cx given request e.goals goals starts now e.limits_met read reads made is stepped
          same_starts cache.nodes h.fits call w.waiting;
      answers = w.answers;
    }

    pub stepped_right : NotesCandidate made goals goals → IsRightFor G X same cx given cache e
        → IsRight G X same cx cache (record e { goals = goals })
    stepped_right none h = record {
      justified =
          advance_justified G X cx given e.goals goals read made stepped none cache.nodes h.fits h.right.justified;
      free = step_keeps_free G X read same cache.nodes cache.results given made e.goals goals stepped h.right.free;
      ready = stepped_ready G X read same (G.script cx) cache.nodes e.provisional given made
          e.goals goals stepped h.right.ready;
    }

    -- the frame asks or is done: neither is a request about candidates
    pub has_request :
        (starts now : ℕ) → now ≡ starts → (request : Request I R) → made ≡ request → NotesCandidate request goals goals
        → HasReply G X same cx given cache e starts
        → HasRequest G X same cx request cache (record e { goals = goals }) now
    has_request starts now same_starts request is none h = record {
      some = stepped_some G X read given made e.goals goals stepped;
      call = h.call;
      ahead = work_left G X cx e.goals;
      asked = advance_asks G X cx given request e.goals goals starts now e.limits_met read reads made is stepped
          same_starts cache.nodes h.right.fits h.call h.waiting;
      on_record = λ kind goal asks. step_asks_for G X cx given e.goals goals read made stepped kind goal (is ∙ asks);
      right = stepped_right (subst (λ (q : Request I R). NotesCandidate q goals goals) (sym is) none) h.right;
    }

    -- and its step changed no result that is expected
    pub has_expected :
        HaveExpected (G.scoped cx) (G.script cx) same cache.results (fates_of e.goals)
        → HaveExpected (G.scoped cx) (G.script cx) same cache.results (fates_of goals)
    has_expected = subst (HaveExpected (G.scoped cx) (G.script cx) same cache.results)
        (sym (fates_stepped G X read e.goals goals given made stepped))

    -- nor which goals hold scopes
    pub has_held : HoldScopes (fates_of e.goals) e.scopes → HoldScopes (fates_of goals) e.scopes
    has_held = subst (λ fs. HoldScopes fs e.scopes) (sym (fates_stepped G X read e.goals goals given made stepped))
