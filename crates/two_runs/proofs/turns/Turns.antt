-- What follows of a turn where two runs of a goal are enough.
use Rattle.std.proofs.Common.{◌≡◌, ◌∙◌, ℕ, Bool, false, None, Result, IfOk, OnErr, sym, ap, subst}
use Rattle.two_runs.specs.Evaluations.{IsSettledStore, Settles, SettlesNext}
use Rattle.search_graph.specs.Laws.{AreLaws}
use Rattle.two_runs.proofs.turns.Moves.{advanced_leaves, advanced_settles, advanced_unmet}
use Rattle.two_runs.specs.Below.{Awaits, Cache, Call, CxOf, DelegateOf, Fault, IsRightFor, Next, Received}
use Rattle.search_graph.specs.Ran.{Answered, Failed, FailedForGood, GoesOn, NotAnswered, Turned}
use Rattle.two_runs.proofs.questions.LettingGo.{settles_stay, store_stays_at_end}
use Rattle.two_runs.specs.Settled.{CallNeedsTwoRuns}
use Rattle.search_state.specs.declared.evaluation.Evaluation.{Evaluation}
use Rattle.search_questions.specs.Collecting.{LetsGo}

-- what is kept when nodes are let go, before the newest goal gets a reply
module _ {D C V P F I R A T : Type 0} (G : DelegateOf D C V P F I R A T) (X : CxOf C I R A T) (same : I → I → Bool)
    (cx : C) (e after : Evaluation D C V P F I R A T) (mid new : Cache C I R T)
    (given : Received R) (goes : LetsGo same e given.node mid new)
    (is_after : after ≡ record e { drafts = after.drafts }) where
  pub turn_settles : (call : Call I) → Settles G X same cx call given mid e → Settles G X same cx call given new after
  turn_settles call h =
      let s = settles_stay G X same cx e mid new given goes call h in
      subst (Settles G X same cx call given new) (sym is_after)
      (record { settling = s.settling; answer = s.answer; entries = s.entries })

module _ {D C V P F I R A T : Type 0} {G : DelegateOf D C V P F I R A T} {X : CxOf C I R A T} {same : I → I → Bool}
    {same_result : R → R → Bool} {noop : Bool} {received : Received R} {old : Cache C I R T}
    {e : Evaluation D C V P F I R A T} {starts : ℕ}
    (laws : AreLaws G X same same_result) (right : IsRightFor G X same old.cx received old e) (call : Call I)
    (h : Awaits G X same old.cx call received old e starts) (needs : CallNeedsTwoRuns G X old.cx call noop)
    (s : Settles G X same old.cx call received old e) where
  pub turned_unmet :
      {result : Result (Next R) (Fault I R)} {new : Cache C I R T} {after : Evaluation D C V P F I R A T} {later : ℕ}
      → Turned G X same same_result noop received old e starts result new after later → after.limits_met ≡ false
  turned_unmet (GoesOn given mid new between after later advanced goes is first stored) =
      ap (λ (a : Evaluation D C V P F I R A T). a.limits_met) is ∙ advanced_unmet laws right call h needs s advanced
  turned_unmet (Answered answer mid new after later advanced goes) = advanced_unmet laws right call h needs s advanced
  turned_unmet (NotAnswered answer new after later advanced) = advanced_unmet laws right call h needs s advanced
  turned_unmet (Failed fault mid new between after later advanced goes is) =
      ap (λ (a : Evaluation D C V P F I R A T). a.limits_met) is ∙ advanced_unmet laws right call h needs s advanced
  turned_unmet (FailedForGood fault new between after later advanced is) =
      ap (λ (a : Evaluation D C V P F I R A T). a.limits_met) is ∙ advanced_unmet laws right call h needs s advanced

  pub turned_settles :
      {result : Result (Next R) (Fault I R)} {new : Cache C I R T} {after : Evaluation D C V P F I R A T} {later : ℕ}
      → Turned G X same same_result noop received old e starts result new after later
      → IfOk result (λ next. SettlesNext G X same old.cx call next new after)
  turned_settles (GoesOn given mid new between after later advanced goes is first stored) =
      turn_settles G X same old.cx between after mid new given goes is call
      (advanced_settles laws right call h needs s advanced)
  turned_settles (Answered answer mid new after later advanced goes) =
      store_stays_at_end G X same old.cx after mid new answer.node goes call.goals
      (advanced_settles laws right call h needs s advanced)
  turned_settles (NotAnswered answer new after later advanced) = tt
  turned_settles (Failed fault mid new between after later advanced goes is) = tt
  turned_settles (FailedForGood fault new between after later advanced is) = tt

  pub turned_leaves :
      {result : Result (Next R) (Fault I R)} {new : Cache C I R T} {after : Evaluation D C V P F I R A T} {later : ℕ}
      → Turned G X same same_result noop received old e starts result new after later
      → OnErr result (IsSettledStore G X same old.cx call.goals new.nodes new.results)
  turned_leaves (GoesOn given mid new between after later advanced goes is first stored) = tt
  turned_leaves (Answered answer mid new after later advanced goes) = tt
  turned_leaves (NotAnswered answer new after later advanced) = advanced_settles laws right call h needs s advanced
  turned_leaves (Failed fault mid new between after later advanced goes is) =
      store_stays_at_end G X same old.cx between mid new None goes call.goals
      (advanced_leaves laws right call h needs s advanced)
  turned_leaves (FailedForGood fault new between after later advanced is) =
      advanced_leaves laws right call h needs s advanced
