-- Why a step fails, that the cause of a fault lasts, and that stored results rest on no goal while steps are taken.
use Rattle.std.proofs.Common.{◌≡◌, ℕ, Bool, List, ◌∷◌, Option, Some, refl, sym, subst}
use Rattle.goal_changes.specs.Below.{fault_of, IsVerdict, Steps}
use Rattle.search_context.specs.Run.{fault_after, IsFitting}
use Rattle.search_graph.specs.Below.{DelegateOf, CxOf, Reply, Request, Run, StackEntry, Verdict, Fault, IsCaused}
use Rattle.search_graph.specs.Below.{NodeId, StoredResult, OpenGoal, Cache, CacheNode, Store, Received, requested}
use Rattle.search_graph.specs.Below.{HasStepped, IsStepFault, NoMemoryLeft, received_by, verdicts, Call, IsWaiting}
use Rattle.search_graph.specs.Below.{AreFree, IsFit, run_of, runs_of}
use Rattle.search_ends.specs.Storing.{HasLastingCause}
use Rattle.search_state.specs.declared.drafts.Drafts.{Drafts}
use Rattle.search_ends.proofs.results.Causes.{memory_lasts}
use Rattle.search_rules.specs.Claims.{OutOfOrder}
use Rattle.goal_changes.specs.Steps as steps
use Rattle.search_rules.proofs.moves.Moves.{can_step_record, fault_after_step}
use Rattle.search_rules.proofs.justified.Replies.{replies_sorted}
use Rattle.search_rules.proofs.answers.Free.{all_free_above}
use Rattle.search_questions.specs.Collecting.{LetsGoAtEnd}
use Rattle.search_state.specs.declared.evaluation.Evaluation.{Evaluation}

module _ {D C V P F I R A T : Type 0} (G : DelegateOf D C V P F I R A T) (X : CxOf C I R A T) (same : I → I → Bool)
    (cache : Cache C I R T) (drafts : Drafts) (given : Received R)
    (goals : List (OpenGoal C F I R A T)) (starts : ℕ) (met : Bool) where
  -- where the newest goal's request was out of order, its script made it after replies that fit
  pub disorderly_script :
      (call : Call I) → IsFit (verdicts X) cache.nodes (runs_of goals) given.reply given.node
      → IsWaiting G X cache.cx call given.reply goals starts met
      → (entry : StackEntry C I R A T) (run : Run C F I R A T) (frame : F) (verdict : Verdict)
      (below : List (OpenGoal C F I R A T)) (request : Request I R) (number : ℕ)
      → goals ≡ (entry, run) ∷ below → IsVerdict (verdicts X) given.reply verdict
      → Steps G.stands G.script run.frame given.reply request frame
      → fault_of (received_by G X cache.cx run given verdict) request ≡ Some number
      → (replies : List (Reply R)) × IsFitting (G.script cache.cx entry.input) replies
      × (fault_after (G.script cache.cx entry.input) replies ≡ Some number)
  disorderly_script call fit h entry run frame verdict below request number was is_verdict taken disorderly =
      let there : IsWaiting G X cache.cx call given.reply ((entry, run) ∷ below) starts met =
      subst (λ v. IsWaiting G X cache.cx call given.reply v starts met) was h in
      let stood = can_step_record G X cache.cx call given.reply (entry, run) below starts met there in (
        given.reply ∷ stood.0,
        stood.2,
        fault_after_step G X cache.cx call entry run frame verdict given request taken
            (replies_sorted G X cache.cx cache.nodes call given goals starts met h fit verdict is_verdict)
            number disorderly stood.0 stood.1 stood.2,
      )

  -- a step failed for want of memory, or since the newest goal's request was out of order
  lasting_at : (call : Call I) → IsFit (verdicts X) cache.nodes (runs_of goals) given.reply given.node
      → IsWaiting G X cache.cx call given.reply goals starts met → (fault : Fault I R)
      → IsStepFault G X cache.cx given goals fault → HasLastingCause G X same cache drafts fault
  lasting_at call fit h fault (NoMemoryLeft is) = memory_lasts G X same cache drafts fault is
  lasting_at call fit h fault
      (steps.OutOfOrder entry run frame verdict below request number was is_verdict taken disorderly is) =
      let asked =
      disorderly_script call fit h entry run frame verdict below request number was is_verdict taken disorderly in
      record {
        caused = OutOfOrder entry.input asked.0 number asked.1 asked.2 is;
        lasts = λ live left collected results noted. OutOfOrder entry.input asked.0 number asked.1 asked.2 is;
      }

  pub step_has_cause : (call : Call I) → IsFit (verdicts X) cache.nodes (runs_of goals) given.reply given.node
      → IsWaiting G X cache.cx call given.reply goals starts met → (read : C) → read ≡ cache.cx → (fault : Fault I R)
      → IsStepFault G X read given goals fault → HasLastingCause G X same cache drafts fault
  step_has_cause call fit h read is_cx fault failed =
      lasting_at call fit h fault (subst (λ x. IsStepFault G X x given goals fault) is_cx failed)

-- a step changes no node of the goals
pub step_keeps_free : {D C V P F I R A T : Type 0} (G : DelegateOf D C V P F I R A T) (X : CxOf C I R A T) (cx : C)
    (same : I → I → Bool) (nodes : List (CacheNode I R)) (results : Store I (StoredResult I R T))
    (given : Received R) (request : Request I R) (old new : List (OpenGoal C F I R A T))
    → HasStepped G X cx given request old new → AreFree (verdicts X) same nodes (runs_of old) results
    → AreFree (verdicts X) same nodes (runs_of new) results
step_keeps_free {C = C} {F = F} {I = I} {R = R} {A = A} {T = T} G X cx same nodes results given request old new s free =
    let was : AreFree (verdicts X) same nodes (run_of (s.entry, s.run) ∷ runs_of s.below) results =
    subst (λ (l : List (OpenGoal C F I R A T)). AreFree (verdicts X) same nodes (runs_of l) results) s.was free in
    subst (λ (l : List (OpenGoal C F I R A T)). AreFree (verdicts X) same nodes (runs_of l) results) (sym s.is)
    (all_free_above (verdicts X) same nodes (run_of (s.entry, s.run)) (run_of (
      s.entry,
      record s.run { frame = s.frame; progress = requested (received_by G X cx s.run given s.verdict) request },
    )) (runs_of s.below) results refl refl refl refl was)

-- the cause of a fault is one still when nodes are let go at the end of the call
pub cause_stays_at_end : {D C V P F I R A T : Type 0} (G : DelegateOf D C V P F I R A T) (X : CxOf C I R A T)
    (same : I → I → Bool) (e : Evaluation D C V P F I R A T) (old new : Cache C I R T) (target : Option NodeId)
    → LetsGoAtEnd same e target old new → (fault : Fault I R)
    → HasLastingCause G X same old e.drafts fault → IsCaused G X same new fault
cause_stays_at_end G X same e old new target goes fault h =
    subst (λ cache. IsCaused G X same cache fault) (sym goes.rest)
    (h.lasts goes.live new.nodes goes.collected goes.results goes.noted_are)
