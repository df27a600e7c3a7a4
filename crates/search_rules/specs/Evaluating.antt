-- What holds of the goals under evaluation between two moves of a call.
use Rattle.std.specs.Prelude.{◌≡◌, ℕ, ◌<◌, ◌≤◌, Bool, List, [], ◌∷◌, map}
use Rattle.search_rules.specs.Below.{DelegateOf, CxOf, Request, Reply, Fault, StoredResult, ProvisionalCacheEntry}
use Rattle.search_rules.specs.Below.{Lists, Store, Memory, Outcome, IsPlainTo, Ends, Stops, steps_ahead, Waits}
use Rattle.search_rules.specs.Below.{HasRequested, IsDecidedReply, IsDefinite, is_in_cycle, Item, Stood, Next, Step}
use Rattle.search_rules.specs.Below.{Finished, verdicts}
use Rattle.search_rules.specs.Results.{AreDefinite, HaveNoOverflowOf, RequireWithin}
use Rattle.evaluations.specs.Frames.{Frame}
use Rattle.search_rules.specs.Calls.{Call, CallMeetsNone, HadNoOverflow, Outset, runs, limits, bound}
use Rattle.search_rules.specs.Calls.{IsCounted, KeepsLimits}
use Rattle.search_rules.specs.Claims.{IfDiffers}
use Rattle.search_rules.specs.Decided.{AllDecided, WhereDecisive}
use Rattle.search_rules.specs.Provisional.{EntriesDefinite, EntriesMetNone}

module _ {D C V P F I R A T : Type 0} (G : DelegateOf D C V P F I R A T) (X : CxOf C I R A T) (cx : C) where
  -- an item as a frame of the theory, but for its replies
  abbrev pub seen : Item G X cx → Frame I R
  seen s = record {
    goal = s.0.input;
    replies = [];
    left = G.left s.1.frame;
    finished_runs = s.1.finished_runs;
    available = s.0.available_depth.0;
    required = s.0.state.required_depth;
    met_overflow = s.0.state.encountered_overflow;
    met_before = s.1.met_overflow_before;
    in_cycle = is_in_cycle s.0.state;
  }

  -- what holds where the delegate is decisive, and neither stored results nor limits stand against it
  abbrev pub Decidedly : Call I → Bool → Type 0 → Type 0
  Decidedly call met P = WhereDecisive (verdicts X) (G.script cx) call.all_definite met P

  -- the newest item waits for the reply
  pub record IsWaiting (call : Call I) (reply : Reply R) (goals : List (Item G X cx))
      (starts : ℕ) (met : Bool) : Type 0 where
    pub waits : Waits seen (Stood G X cx) (G.script cx) (limits G X cx call) (IsCounted G X cx call) call.top
        (bound G X cx call) reply goals starts met
    pub keeps : KeepsLimits G X cx call met
    pub decided : Decidedly call met (AllDecided (verdicts X) goals × IsDecidedReply (verdicts X) reply)

  -- What a call keeps of the stored results: as long as it meets none, none met overflow of a goal of which none did
  -- before; where the delegate is decisive, each is yes or no until a limit is met. Each requires no more than the root
  -- depth, or as much as one did before.
  pub record KeepsStore (same : I → I → Bool) (call : Call I) (met : Bool)
      (results : Store I (StoredResult I R T)) : Type 0 where
    pub overflow : CallMeetsNone G X cx call met → HaveNoOverflowOf (HadNoOverflow call) same results
    pub definite : Decidedly call met (AreDefinite (verdicts X) same results)
    pub within : RequireWithin same call.root call.stood results

  -- what a call keeps of those and of the answers in the provisional cache
  pub record KeepsAnswers (same : I → I → Bool) (call : Call I) (met : Bool)
      (results : Store I (StoredResult I R T)) (entries : Lists I (ProvisionalCacheEntry C I R A T)) : Type 0 where
    pub store : KeepsStore same call met results
    pub met_none : CallMeetsNone G X cx call met → EntriesMetNone same entries
    pub definite : Decidedly call met (EntriesDefinite (verdicts X) same entries)

  -- the call begins with these stored results
  pub record Begins (same : I → I → Bool) (call : Call I) (input : I) (root starts : ℕ) (met : Bool)
      (results : Store I (StoredResult I R T)) : Type 0 where
    pub outset : Outset call input root starts met
    pub store : KeepsStore same call met results

  -- the steps that are left at most
  abbrev pub work_left : List (Item G X cx) → ℕ
  work_left goals = steps_ahead (runs G X cx) (G.width cx) (map seen goals)

  -- the newest item made a request; `ahead` is the work that was left before its step
  pub record HasAsked (call : Call I) (ahead : ℕ) (request : Request I R) (goals : List (Item G X cx))
      (starts : ℕ) (met : Bool) : Type 0 where
    pub asked : HasRequested seen (Stood G X cx) (G.script cx) (limits G X cx call) (IsCounted G X cx call) call.top
        (bound G X cx call) ahead request goals starts met
    pub keeps : KeepsLimits G X cx call met
    pub decided : Decidedly call met (AllDecided (verdicts X) goals)

  -- the newest item waits for the reply, and less work is left
  pub record CallGoesOn (call : Call I) (ahead : ℕ) (reply : Reply R) (goals : List (Item G X cx))
      (starts : ℕ) (met : Bool) : Type 0 where
    pub waiting : IsWaiting call reply goals starts met
    pub falls : work_left goals < ahead

  -- the call ended with the result
  pub record HasEnded (call : Call I) (r : R) (starts : ℕ) (met : Bool) : Type 0 where
    pub outcome : Outcome R
    pub result_is : outcome.result ≡ r
    pub ends : Ends (G.script cx) (limits G X cx call) (IsCounted G X cx call) call.top
        (bound G X cx call) starts met outcome
    pub keeps : KeepsLimits G X cx call met
    pub decided : Decidedly call met (IsDefinite (verdicts X) r)

  -- The call stopped with a fault, which is want of memory where the goal's rank fits its depth. If another result is
  -- stored than a goal came to, the one that it came to is yes or no, where the delegate is decisive.
  pub record HasStopped (call : Call I) (fault : Fault I R) (starts : ℕ) (met : Bool) : Type 0 where
    pub stops : Stops (G.script cx) (limits G X cx call) (IsCounted G X cx call) call.top (bound G X cx call) starts met
    pub keeps : KeepsLimits G X cx call met
    pub plain : (n : ℕ) → IsPlainTo (G.script cx) n call.top → n ≤ call.root → fault ≡ Memory
    pub decided : Decidedly call met (IfDiffers fault (IsDefinite (verdicts X)))

  -- the item is the only one, and of this goal
  abbrev pub IsOnly : List (Item G X cx) → I → Type 0
  IsOnly [] goal = ⊥
  IsOnly (s ∷ []) goal = s.0.input ≡ goal
  IsOnly (s ∷ p ∷ below) goal = ⊥

  -- what may come after a request of the old goals
  abbrev pub Leads : Call I → ℕ → List (Item G X cx) → Next R → List (Item G X cx) → ℕ → Bool → Type 0
  Leads call ahead old (Step given) goals starts met = CallGoesOn call ahead given.reply goals starts met
  Leads call ahead old (Finished answer) goals starts met =
      (goals ≡ []) × IsOnly old call.top × HasEnded call answer.result starts met
