-- The loop over the moves, whatever call it serves.
use Rattle.std.proofs.Common.{◌≡◌, ℕ, ◌+◌, ◌<◌, ◌≤◌, ◌^◌, Bool, true, false, List, [], ◌∷◌, length, Contains, Some}
use Rattle.std.proofs.Common.{refl, sym, ap, subst, inl, inr, arith}
use Rattle.search_graph.specs.Below.{CacheNode, DelegateOf, CxOf, Request, Begin, PathKind, AvailableDepth, OpenGoal}
use Rattle.search_graph.specs.Below.{StackEntry, Fault, Evaluate, CountsOne, CacheNode, Memory, Run, Received, Next}
use Rattle.search_graph.specs.Below.{Step, Finished, requested, IsReplySorted, HasGraph, HasStepped, IsStepFault}
use Rattle.search_graph.specs.Below.{received_by, StoredResult, Store, NotesCandidate, verdicts, NewestAsks}
use Rattle.search_graph.specs.Below.{AreJustified, IsFit, runs_of, IsJustifiedNext, Call, Outset, Pushes, AreDefinite}
use Rattle.search_graph.specs.Below.{HadNoOverflow, HaveNoOverflow, HaveNoOverflowOf, Begins, IsWaiting, HasAsked}
use Rattle.search_graph.specs.Below.{HasStopped, IsOnly, Leads, work_left}
use Rattle.search_context.specs.declared.context.Answer.{Answer}
use Rattle.search_rules.proofs.moves.Moves.{root_waits, failed_root_stopped, step_asks, step_stops}
use Rattle.search_graph.proofs.requests.Noted.{noted_is_justified}
use Rattle.search_graph.proofs.promises.StoredDepths.{required_before, stood_before}
use Rattle.search_rules.proofs.justified.Replies.{replies_sorted}

-- the call of a goal at a depth, and what is known of the stored results: of the depths that they require, nothing
abbrev pub call_of : {I : Type 0} (input : I) (root starts : ℕ) (met calm definite : Bool) → root < 2 ^ 64 → Call I
call_of input root starts met calm definite fits = record {
  top = input;
  root = root;
  fits = fits;
  starts = starts;
  limits_met = met;
  without_overflow = calm;
  goals = [];
  all_definite = definite;
  stood = λ goal place depth. true;
}

-- the call of which it is known that no result of these goals was stored that met overflow
abbrev pub call_among :
    {I : Type 0} (goals : List I) (input : I) (root starts : ℕ) (met : Bool) → root < 2 ^ 64 → Call I
call_among goals input root starts met fits = record (call_of input root starts met false false fits) { goals = goals }

-- what had none is one of no goals
had_none : {I : Type 0} (input : I) (root starts : ℕ) (met calm definite : Bool) (fits : root < 2 ^ 64) (goal : I)
    → HadNoOverflow (call_of input root starts met calm definite fits) goal → calm ≡ true
had_none input root starts met calm definite fits goal had =
    elim had [ inl none ↦ none | inr among ↦ absurd (omega (arith, among.1)) ]

-- the call of which the depths are known that stored results required before it
abbrev pub call_over : {I R T : Type 0} (same : I → I → Bool) (results : Store I (StoredResult I R T))
    (input : I) (root starts : ℕ) (met : Bool) → root < 2 ^ 64 → Call I
call_over same results input root starts met fits =
    record (call_of input root starts met false false fits) { stood = required_before same results }

module _ {D C V P F I R A T : Type 0} (G : DelegateOf D C V P F I R A T) (X : CxOf C I R A T) (cx : C)
    (same : I → I → Bool) (input : I) (root starts : ℕ) (met : Bool) (fits : root < 2 ^ 64)
    (results : Store I (StoredResult I R T)) where
  pub call_begins : (calm definite : Bool) → (calm ≡ true → HaveNoOverflow same results)
      → (definite ≡ true → AreDefinite (verdicts X) same results)
      → Begins G X cx same (call_of input root starts met calm definite fits) input root starts met results
  call_begins calm definite none all = record {
    outset = record { same_top = refl; same_root = refl; same_starts = refl; same_limits = refl };
    store = record {
      overflow = λ meets goal had depth. none (had_none input root starts met calm definite fits goal had) goal depth;
      definite = λ decisive unmet. all decisive.1;
      within = λ goal place s there. inr refl;
    };
  }

  -- the call of some goals
  pub call_among_begins : (goals : List I) → HaveNoOverflowOf (Contains goals) same results
      → Begins G X cx same (call_among goals input root starts met fits) input root starts met results
  call_among_begins goals none = record {
    outset = record { same_top = refl; same_root = refl; same_starts = refl; same_limits = refl };
    store = record {
      overflow = λ meets goal had depth. elim had [ inl calm ↦ absurd cc | inr among ↦ none goal among depth ];
      definite = λ decisive unmet. absurd cc;
      within = λ goal place s there. inr refl;
    };
  }

  -- the call of which nothing is known
  pub some_call_begins : Begins G X cx same
      (call_of input root starts met false false fits) input root starts met results
  some_call_begins = call_begins false false (λ e. absurd cc) (λ e. absurd cc)

  pub call_over_begins : Begins G X cx same
      (call_over same results input root starts met fits) input root starts met results
  call_over_begins = record {
    outset = record { same_top = refl; same_root = refl; same_starts = refl; same_limits = refl };
    store = record {
      overflow =
          λ meets goal had depth. let calm = had_none input root starts met false false fits goal had in absurd cc;
      definite = λ decisive unmet. absurd cc;
      within = λ goal place s there. inr (stood_before same results goal place s there);
    };
  }

-- a step was taken by some goal
pub stepped_some : {D C V P F I R A T : Type 0} (G : DelegateOf D C V P F I R A T) (X : CxOf C I R A T) (cx : C)
    (given : Received R) (request : Request I R) (old new : List (OpenGoal C F I R A T))
    → HasStepped G X cx given request old new → 0 < length new
stepped_some {C = C} {F = F} {I = I} {R = R} {A = A} {T = T} G X cx given request old new s =
    subst (λ (v : List (OpenGoal C F I R A T)). 0 < length v) (sym s.is) (omega arith)

module _ {D C V P F I R A T : Type 0} (G : DelegateOf D C V P F I R A T) (X : CxOf C I R A T) (cx : C) (input : I)
    (kind : PathKind) (depth : AvailableDepth) (starts now : ℕ) (met : Bool) where
  -- the first frame of a call waits,
  pub first_waits : (before after : List (CacheNode I R)) (new : List (OpenGoal C F I R A T)) → now ≤ starts + 1
      → (G.counts ≡ true → CountsOne G.last starts now) → Pushes G X cx input kind depth before after [] new
      → (call : Call I) → Outset call input depth.0 starts met → IsWaiting G X cx call Begin new now met
  first_waits before after new one counted push call at =
      subst (λ m. IsWaiting G X cx call Begin new now m) at.same_limits
      (root_waits G X cx call before after kind depth new now (sym at.same_root) (rw at.same_starts one)
      (rw at.same_starts counted) (rw at.same_top push))

  -- or it failed to start
  pub first_stopped : starts ≤ now → now ≤ starts + 1 → (call : Call I) → Outset call input depth.0 starts met
      → HasStopped G X cx call Memory now met
  first_stopped more one call at =
      subst (λ m. HasStopped G X cx call Memory now m) at.same_limits
      (failed_root_stopped G X cx call now (rw at.same_starts more) (rw at.same_starts one))

module _ {D C V P F I R A T : Type 0} (G : DelegateOf D C V P F I R A T) (X : CxOf C I R A T) (cx : C)
    (given : Received R) (request : Request I R)
    (old new : List (OpenGoal C F I R A T)) (starts now : ℕ) (met : Bool) where
  -- a step was taken, which starts no frame
  pub asked_after : (made : Request I R) → made ≡ request → (s : HasStepped G X cx given made old new)
      → IsReplySorted (verdicts X) given.reply s.verdict given.node → now ≡ starts → (call : Call I)
      → IsWaiting G X cx call given.reply old starts met
      → HasAsked G X cx call (work_left G X cx old) request new now met
  asked_after made is s sorted same call h =
      rw same (subst (λ r. HasAsked G X cx call (work_left G X cx old) r new starts met) is
      (step_asks G X cx call given made old new starts met s sorted h))

  -- the same, where the context was read and the reply fits
  pub advance_asks : (read : C) → read ≡ cx → (made : Request I R) → made ≡ request
      → HasStepped G X read given made old new → now ≡ starts → (nodes : List (CacheNode I R))
      → IsFit (verdicts X) nodes (runs_of old) given.reply given.node → (call : Call I)
      → IsWaiting G X cx call given.reply old starts met
      → HasAsked G X cx call (work_left G X cx old) request new now met
  advance_asks read is_cx made is s same nodes fit call h =
      let here : HasStepped G X cx given made old new = subst (λ x. HasStepped G X x given made old new) is_cx s in
      asked_after made is here
      (replies_sorted G X cx nodes call given old starts met h fit here.verdict here.is_verdict) same call h

module _ {D C V P F I R A T : Type 0} (G : DelegateOf D C V P F I R A T) (X : CxOf C I R A T) (cx : C)
    (given : Received R) (old new : List (OpenGoal C F I R A T)) where
  -- a step that failed
  pub advance_stops : (read : C) → read ≡ cx → (fault : Fault I R) → IsStepFault G X read given old fault
      → (starts now : ℕ) (met : Bool) → now ≡ starts → (nodes : List (CacheNode I R))
      → IsFit (verdicts X) nodes (runs_of old) given.reply given.node → (call : Call I)
      → IsWaiting G X cx call given.reply old starts met → HasStopped G X cx call fault now met
  advance_stops read is_cx fault failed starts now met same nodes fit call h =
      rw same (step_stops G X cx call given old fault starts met
      (replies_sorted G X cx nodes call given old starts met h fit)
      (subst (λ x. IsStepFault G X x given old fault) is_cx failed) h)

  -- a goal that asks, or is done, keeps the goals justified
  pub advance_justified : (read : C) (request : Request I R) → HasStepped G X read given request old new
      → NotesCandidate request new new → (nodes : List (CacheNode I R))
      → IsFit (verdicts X) nodes (runs_of old) given.reply given.node → AreJustified (verdicts X) nodes (runs_of old)
      → AreJustified (verdicts X) nodes (runs_of new)
  advance_justified read request s noted nodes fit h =
      noted_is_justified G X read nodes given request old new new s fit h noted

  -- the step keeps the newest goal
  only_at : (entry : StackEntry C I R A T) (run again : Run C F I R A T) (below : List (OpenGoal C F I R A T))
      (goal : I) → IsOnly G X cx ((entry, again) ∷ below) goal → IsOnly G X cx ((entry, run) ∷ below) goal
  only_at entry run again [] goal h = h
  only_at entry run again (p ∷ below) goal h = h

  pub only_before : (read : C) (request : Request I R) → HasStepped G X read given request old new → (goal : I)
      → IsOnly G X cx new goal → IsOnly G X cx old goal
  only_before read request s goal h =
      subst (λ (v : List (OpenGoal C F I R A T)). IsOnly G X cx v goal) (sym s.was)
      (only_at s.entry s.run
      (record s.run { frame = s.frame; progress = requested (received_by G X read s.run given s.verdict) request })
      s.below goal (subst (λ (v : List (OpenGoal C F I R A T)). IsOnly G X cx v goal) s.is h))

  leads_at : (read : C) (request : Request I R) → HasStepped G X read given request old new
      → (call : Call I) (ahead : ℕ) (next : Next R) (later : List (OpenGoal C F I R A T)) (starts : ℕ) (met : Bool)
      → Leads G X cx call ahead new next later starts met → Leads G X cx call ahead old next later starts met
  leads_at read request s call ahead (Step given) later starts met h = h
  leads_at read request s call ahead (Finished answer) later starts met h =
      (h.0, only_before read request s call.top h.1, h.2)

  -- what follows the end of a run
  pub done_leads : (read : C) (request : Request I R) → HasStepped G X read given request old new
      → (call : Call I) (next : Next R) (later : List (OpenGoal C F I R A T)) (starts : ℕ) (met : Bool)
      → Leads G X cx call (work_left G X cx old) new next later starts met
      → Leads G X cx call (work_left G X cx old) old next later starts met
  done_leads read request s call next later starts met h =
      leads_at read request s call (work_left G X cx old) next later starts met h

  -- the answer of the only goal is its own
  pub next_before : (read : C) (request : Request I R) → HasStepped G X read given request old new
      → (nodes : List (CacheNode I R)) (later : List (OpenGoal C F I R A T)) (next : Next R)
      → IsJustifiedNext (verdicts X) nodes new later next → IsJustifiedNext (verdicts X) nodes old later next
  next_before read request s nodes later (Step again) h = h
  next_before read request s nodes later (Finished answer) h =
      subst (λ (v : List (OpenGoal C F I R A T)). IsJustifiedNext (verdicts X) nodes v later (Finished answer))
      (sym s.was)
      (subst (λ (v : List (OpenGoal C F I R A T)). IsJustifiedNext (verdicts X) nodes v later (Finished answer)) s.is h)

  -- the goals ask what was requested
  pub step_asks_for : (read : C) (request : Request I R) → HasStepped G X read given request old new
      → (kind : PathKind) (goal : I) → request ≡ Evaluate kind goal → NewestAsks (runs_of new) kind goal
  step_asks_for read request s kind goal is =
      subst (λ (v : List (OpenGoal C F I R A T)). NewestAsks (runs_of v) kind goal) (sym s.is) (ap Some is)

-- the only goal's answer is that of the goal
pub only_has_graph : {D C V P F I R A T : Type 0} (G : DelegateOf D C V P F I R A T) (X : CxOf C I R A T) (cx : C)
    (nodes : List (CacheNode I R)) (old new : List (OpenGoal C F I R A T)) (goal : I) (answer : Answer R)
    → IsOnly G X cx old goal → IsJustifiedNext (verdicts X) nodes old new (Finished answer)
    → HasGraph (verdicts X) nodes goal answer.result answer.node
only_has_graph G X cx nodes [] new goal answer only h = absurd only
only_has_graph G X cx nodes (s ∷ []) new goal answer only h =
    subst (λ input. HasGraph (verdicts X) nodes input answer.result answer.node) only h
only_has_graph G X cx nodes (s ∷ p ∷ below) new goal answer only h = absurd only

-- where a goal is the only one, there is one, and no other
pub only_one : {D C V P F I R A T : Type 0} (G : DelegateOf D C V P F I R A T) (X : CxOf C I R A T) (cx : C)
    (goals : List (OpenGoal C F I R A T)) (goal : I)
    → IsOnly G X cx goals goal → (s : OpenGoal C F I R A T) × (goals ≡ s ∷ [])
only_one G X cx [] goal h = absurd h
only_one G X cx (s ∷ []) goal h = (s, refl)
only_one G X cx (s ∷ p ∷ below) goal h = absurd h
