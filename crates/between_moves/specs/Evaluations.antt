-- What holds of an evaluation between two of its moves, and what the moves lead to.
use Rattle.std.specs.Prelude.{◌≡◌, ◌<◌, ◌≤◌, ◌+◌, ◌^◌, ℕ, Bool, true, List, [], length, Result, IfOk, IfErr}
use Rattle.between_moves.specs.Below.{ChangesNewest, CountsOne, DelegateOf, CxOf, KeepsBuilder, Request, Fault}
use Rattle.between_moves.specs.Below.{Evaluate, Next, Received, Cache, KeepsFinished, KeepsResults, PathKind}
use Rattle.between_moves.specs.Below.{OpenGoal, verdicts}
use Rattle.search_state.specs.declared.evaluation.Evaluation.{Evaluation}
use Rattle.search_context.specs.declared.context.Answer.{Answer}
use Rattle.search_rules.specs.Calls.{Call, CallMeetsNone}
use Rattle.search_rules.specs.Claims.{IsRemembered}
use Rattle.search_rules.specs.Evaluating.{IsWaiting, HasAsked, CallGoesOn, HasEnded, HasStopped, Leads}
use Rattle.search_rules.specs.Evaluating.{KeepsStore, KeepsAnswers}
use Rattle.search_rules.specs.Fates.{fates_of, IsNewestToStore, MeetsNewest}
use Rattle.search_rules.specs.Free.{AreFree}
use Rattle.search_rules.specs.Justified.{AreJustified, NewestAsks, IsFit}
use Rattle.search_rules.specs.Provisional.{AreReady}
use Rattle.search_rules.specs.Runs.{IfFinished, KeepsEarlier, runs_of, IsJustifiedNext}

-- no goal is under evaluation, no scope is held, there are no provisional entries, and the root depth
-- is a number of a word
pub record IsNew {D C V P F I R A T : Type 0} (e : Evaluation D C V P F I R A T) : Type 0 where
  pub no_goals : e.goals ≡ []
  pub no_scopes : e.scopes ≡ []
  pub no_entries : e.provisional ≡ []
  pub fits : e.root_depth.0 < 2 ^ 64

-- What each move keeps of the cache: the context, stored results or equal ones, finished nodes, and all nodes that were
-- there before those of the goals' runs.
pub record KeepsCache {C F I R A T : Type 0} (same : I → I → Bool) (goals : List (OpenGoal C F I R A T))
    (old new : Cache C I R T) : Type 0 where
  pub context : new.cx ≡ old.cx
  pub results : KeepsResults same old.results new.results
  pub nodes : KeepsFinished old.nodes new.nodes
  pub earlier : KeepsEarlier goals old.nodes new.nodes

-- Besides, a move changes no stored results but those of the newest goal, if its result is to be stored.
pub record ChangesCache {C F I R A T : Type 0} (same : I → I → Bool) (goals : List (OpenGoal C F I R A T))
    (old new : Cache C I R T) : Type 0 where
  pub keeps : KeepsCache same goals old new
  pub changes : ChangesNewest same (fates_of goals) old.results new.results

-- At most one frame was started, and no more was counted; and one was, where starts are counted, if what
-- `done` says of it holds.
pub record StartsFrame {D C V P F I R A T : Type 0} (G : DelegateOf D C V P F I R A T)
    (done : Type 0 → Type 0) (old new : P) : Type 0 where
  pub builder : KeepsBuilder G.starts G.noop old new
  pub at_most : G.starts new ≤ G.starts old + 1
  pub counted : G.counts ≡ true → done (CountsOne G.last (G.starts old) (G.starts new))

-- As long as the call meets no overflow, the answer is stored.
abbrev pub IsRememberedWhere : {D C V P F I R A T : Type 0} → DelegateOf D C V P F I R A T → CxOf C I R A T → C
    → (I → I → Bool) → Call I → Cache C I R T → (met : Bool) → Answer R → Type 0
IsRememberedWhere G X cx same call cache met answer =
    CallMeetsNone G X cx call met → IsRemembered same cache.results call.top call.root answer

module _ {D C V P F I R A T : Type 0} (G : DelegateOf D C V P F I R A T) (X : CxOf C I R A T)
    (same : I → I → Bool) (cx : C) where
  -- Each definite answer that is there is right: those that the goals under evaluation had, the stored results, and
  -- the provisional entries.
  pub record IsRight (cache : Cache C I R T) (e : Evaluation D C V P F I R A T) : Type 0 where
    pub justified : AreJustified (verdicts X) cache.nodes (runs_of e.goals)
    pub free : AreFree (verdicts X) same cache.nodes (runs_of e.goals) cache.results
    pub ready : AreReady (verdicts X) same (G.script cx) cache.nodes (runs_of e.goals) e.provisional

  -- besides, the newest goal may be given the reply
  pub record IsRightFor (received : Received R) (cache : Cache C I R T)
      (e : Evaluation D C V P F I R A T) : Type 0 where
    pub right : IsRight cache e
    pub fits : IsFit (verdicts X) cache.nodes (runs_of e.goals) received.reply received.node

  -- what comes after a move is right: the reply for the goals, or the answer of the only goal
  pub record IsRightNext (goals : List (OpenGoal C F I R A T)) (next : Next R) (cache : Cache C I R T)
      (e : Evaluation D C V P F I R A T) : Type 0 where
    pub justified : IsJustifiedNext (verdicts X) cache.nodes goals e.goals next
    pub free : AreFree (verdicts X) same cache.nodes (runs_of e.goals) cache.results
    pub ready : AreReady (verdicts X) same (G.script cx) cache.nodes (runs_of e.goals) e.provisional

  -- the newest goal waits for the reply, in this call
  pub record Awaits (call : Call I) (received : Received R) (cache : Cache C I R T)
      (e : Evaluation D C V P F I R A T) (starts : ℕ) : Type 0 where
    pub waiting : IsWaiting G X cx call received.reply e.goals starts e.limits_met
    pub answers : KeepsAnswers G X cx same call e.limits_met cache.results e.provisional

  -- the newest goal made the request, in this call; `ahead` is the work that was left before it
  pub record Requests (request : Request I R) (call : Call I) (ahead : ℕ) (cache : Cache C I R T)
      (e : Evaluation D C V P F I R A T) (starts : ℕ) : Type 0 where
    pub asked : HasAsked G X cx call ahead request e.goals starts e.limits_met
    pub answers : KeepsAnswers G X cx same call e.limits_met cache.results e.provisional

  -- the newest goal made the request in some call, and has it on record, and all is right
  pub record HasRequest (request : Request I R) (cache : Cache C I R T)
      (e : Evaluation D C V P F I R A T) (starts : ℕ) : Type 0 where
    pub some : 0 < length e.goals
    pub call : Call I
    pub ahead : ℕ
    pub asked : HasAsked G X cx call ahead request e.goals starts e.limits_met
    pub on_record : (kind : PathKind) (goal : I) → request ≡ Evaluate kind goal → NewestAsks (runs_of e.goals) kind goal
    pub right : IsRight cache e

  -- the newest goal waits for the reply in some call, and all is right
  pub record HasReply (received : Received R) (cache : Cache C I R T)
      (e : Evaluation D C V P F I R A T) (starts : ℕ) : Type 0 where
    pub call : Call I
    pub waiting : IsWaiting G X cx call received.reply e.goals starts e.limits_met
    pub right : IsRightFor received cache e

  -- the newest goal gets the reply, and less work is left
  pub record GoesOnWith (call : Call I) (ahead : ℕ) (received : Received R) (cache : Cache C I R T)
      (e : Evaluation D C V P F I R A T) (starts : ℕ) : Type 0 where
    pub goes_on : CallGoesOn G X cx call ahead received.reply e.goals starts e.limits_met
    pub answers : KeepsAnswers G X cx same call e.limits_met cache.results e.provisional

  -- what comes after a request of the old goals: less work is left, or the call ends
  pub record LeadsTo (call : Call I) (ahead : ℕ) (old : List (OpenGoal C F I R A T)) (next : Next R)
      (cache : Cache C I R T) (e : Evaluation D C V P F I R A T) (starts : ℕ) : Type 0 where
    pub leads : Leads G X cx call ahead old next e.goals starts e.limits_met
    pub answers : KeepsAnswers G X cx same call e.limits_met cache.results e.provisional
    pub remembered : IfFinished next
        (λ answer. IsNewestToStore (fates_of old) → IsRememberedWhere G X cx same call cache e.limits_met answer)
    pub compared : IfFinished next (λ answer. MeetsNewest (fates_of old) answer.result)

  -- a fault ended the call
  pub record StopsWith (call : Call I) (fault : Fault I R) (cache : Cache C I R T)
      (e : Evaluation D C V P F I R A T) (starts : ℕ) : Type 0 where
    pub stopped : HasStopped G X cx call fault starts e.limits_met
    pub store : KeepsStore G X cx same call e.limits_met cache.results

  -- an answer ended the call, is stored where this holds, and its result is as this says
  pub record EndsWith (is_stored : Type 0) (is_expected : R → Type 0) (call : Call I) (answer : Answer R)
      (cache : Cache C I R T) (e : Evaluation D C V P F I R A T) (starts : ℕ) : Type 0 where
    pub ended : HasEnded G X cx call answer.result starts e.limits_met
    pub store : KeepsStore G X cx same call e.limits_met cache.results
    pub remembered : is_stored → IsRememberedWhere G X cx same call cache e.limits_met answer
    pub compared : is_expected answer.result

  -- a move after a request leads on, whatever call it is made in
  pub record Moves (request : Request I R) (old : Cache C I R T) (before : Evaluation D C V P F I R A T) (from : ℕ)
      (result : Result (Next R) (Fault I R)) (new : Cache C I R T)
      (after : Evaluation D C V P F I R A T) (to : ℕ) : Type 0 where
    pub leads : (call : Call I) (ahead : ℕ) → Requests request call ahead old before from
        → IfOk result (λ next. LeadsTo call ahead before.goals next new after to)
    pub stops : (call : Call I) (ahead : ℕ) → Requests request call ahead old before from
        → IfErr result (λ fault. StopsWith call fault new after to)
