-- What follows of a turn, which is a move after which nodes are let go: the same as of the move.
use Rattle.std.proofs.Common.{◌≡◌, ◌∙◌, ℕ, Bool, None, Result, IfOk, IfErr, OnOk, refl, sym, subst}
use Rattle.search_graph.specs.Laws.{AreLaws}
use Rattle.between_moves.proofs.Scopes.{HoldScopesNext}
use Rattle.between_moves.specs.Scopes.{HoldScopes}
use Rattle.search_graph.proofs.ran.Moves.{advanced_cache, advanced_goals, advanced_lasts, advanced_leads}
use Rattle.search_graph.proofs.ran.Moves.{advanced_noted, advanced_right, advanced_scopes, advanced_stops}
use Rattle.search_graph.proofs.turns.Causes.{cause_stays_at_end}
use Rattle.search_graph.proofs.turns.Turns.{end_leads, end_right, end_stops, fault_stops, memory_stops, noted_of}
use Rattle.search_graph.proofs.turns.Turns.{turn_before, turn_has, turn_keeps, turn_leads, turn_right}
use Rattle.search_graph.specs.Below.{AreFrom, Awaits, Cache, Call, CxOf, DelegateOf, Fault, fates_of, IsCaused, IsFated}
use Rattle.search_graph.specs.Below.{IsRightFor, IsWaiting, KeepsFirst, LeadsTo, Next, OutOfMemory, Received}
use Rattle.search_graph.specs.Below.{StopsWith, work_left}
use Rattle.search_graph.specs.Calls.{MovesGoals}
use Rattle.search_graph.specs.Ran.{Advanced, Answered, Failed, FailedForGood, GoesOn, NotAnswered, Turned}
use Rattle.search_graph.specs.Turns.{HasDrafts, IsRightTurn, KeepsDrafts, TurnsCache}
use Rattle.search_questions.proofs.nodes.LettingGo.{noted_stay}
use Rattle.graph_nodes.specs.Collected.{StayBefore}
use Rattle.search_state.specs.Drafts.{AreNotedNodes}
use Rattle.search_state.specs.declared.evaluation.Evaluation.{Evaluation}

module _ {D C V P F I R A T : Type 0} {G : DelegateOf D C V P F I R A T} {X : CxOf C I R A T} {same : I → I → Bool}
    {same_result : R → R → Bool} {noop : Bool} {received : Received R} {old : Cache C I R T}
    {e : Evaluation D C V P F I R A T} {starts : ℕ} where
  -- ---- the call

  module _ (laws : AreLaws G X same same_result) (right : IsRightFor G X same old.cx received old e) where
    pub turned_leads :
        (call : Call I) → Awaits G X same old.cx call received old e starts
        → {result : Result (Next R) (Fault I R)} {new : Cache C I R T} {after : Evaluation D C V P F I R A T}
        {later : ℕ} → Turned G X same same_result noop received old e starts result new after later
        → IfOk result (λ next. LeadsTo G X same old.cx call (work_left G X old.cx e.goals) e.goals next new after later)
    turned_leads call h (GoesOn given mid new between after later advanced goes is first stored) =
        turn_leads G X same old.cx between after mid new given goes is call _ e.goals later
        (advanced_leads laws right call h advanced)
    turned_leads call h (Answered answer mid new after later advanced goes) =
        end_leads G X same old.cx after after mid new answer goes call _ e.goals later
        (advanced_leads laws right call h advanced)
    turned_leads call h (NotAnswered answer new after later advanced) = tt
    turned_leads call h (Failed fault mid new between after later advanced goes is) = tt
    turned_leads call h (FailedForGood fault new between after later advanced is) = tt

    pub turned_stops :
        (call : Call I) → Awaits G X same old.cx call received old e starts
        → {result : Result (Next R) (Fault I R)} {new : Cache C I R T} {after : Evaluation D C V P F I R A T}
        {later : ℕ} → Turned G X same same_result noop received old e starts result new after later
        → IfErr result (λ fault. StopsWith G X same old.cx call fault new after later)
    turned_stops call h (GoesOn given mid new between after later advanced goes is first stored) = tt
    turned_stops call h (Answered answer mid new after later advanced goes) = tt
    turned_stops call h (NotAnswered answer new after later advanced) =
        end_stops G X same old.cx after after new new answer call _ e.goals later
        (advanced_leads laws right call h advanced)
    turned_stops call h (Failed fault mid new between after later advanced goes is) =
        fault_stops G X same old.cx between after mid new call fault later goes.rest is
        (advanced_stops laws right call h advanced)
    turned_stops call h (FailedForGood fault new between after later advanced is) =
        memory_stops G X same old.cx between after new new call fault later refl is
        (advanced_stops laws right call h advanced)

    -- ---- all is right, and a fault has its cause

    pub turned_right :
        {result : Result (Next R) (Fault I R)} {new : Cache C I R T} {after : Evaluation D C V P F I R A T}
        {later : ℕ} → Turned G X same same_result noop received old e starts result new after later
        → IfOk result (λ next. IsRightTurn G X same old.cx e.goals next new after)
    turned_right (GoesOn given mid new between after later advanced goes is first stored) =
        turn_right G X same old.cx between after mid new given goes is e.goals (advanced_right laws right advanced)
    turned_right (Answered answer mid new after later advanced goes) =
        end_right G X same old.cx after after mid new answer goes e.goals (advanced_right laws right advanced)
    turned_right (NotAnswered answer new after later advanced) = tt
    turned_right (Failed fault mid new between after later advanced goes is) = tt
    turned_right (FailedForGood fault new between after later advanced is) = tt

    pub turned_caused :
        (call : Call I) → IsWaiting G X old.cx call received.reply e.goals starts e.limits_met
        → {result : Result (Next R) (Fault I R)} {new : Cache C I R T} {after : Evaluation D C V P F I R A T}
        {later : ℕ} → Turned G X same same_result noop received old e starts result new after later
        → IfErr result (IsCaused G X same new)
    turned_caused call waiting (GoesOn given mid new between after later advanced goes is first stored) = tt
    turned_caused call waiting (Answered answer mid new after later advanced goes) = tt
    turned_caused call waiting (NotAnswered answer new after later advanced) = OutOfMemory refl
    turned_caused call waiting (Failed fault mid new between after later advanced goes is) =
        cause_stays_at_end G X same between mid new None goes fault (advanced_lasts laws right call waiting advanced)
    turned_caused call waiting (FailedForGood fault new between after later advanced is) = OutOfMemory refl

  -- ---- goals, cache and drafts

  pub turned_goals :
      {result : Result (Next R) (Fault I R)} {new : Cache C I R T} {after : Evaluation D C V P F I R A T} {later : ℕ}
      → Turned G X same same_result noop received old e starts result new after later
      → OnOk result (MovesGoals same (IsFated (G.scoped old.cx) (G.script old.cx) same old.results noop)
      old.nodes e.goals after.goals)
  turned_goals (GoesOn given mid new between after later advanced goes is first stored) =
      subst (λ (a : Evaluation D C V P F I R A T). MovesGoals same
      (IsFated (G.scoped old.cx) (G.script old.cx) same old.results noop) old.nodes e.goals a.goals) (sym is)
      (advanced_goals advanced)
  turned_goals (Answered answer mid new after later advanced goes) = advanced_goals advanced
  turned_goals (NotAnswered answer new after later advanced) = tt
  turned_goals (Failed fault mid new between after later advanced goes is) = tt
  turned_goals (FailedForGood fault new between after later advanced is) = tt

  -- which goals hold scopes
  pub turned_scopes :
      {result : Result (Next R) (Fault I R)} {new : Cache C I R T} {after : Evaluation D C V P F I R A T} {later : ℕ}
      → HoldScopes (fates_of e.goals) e.scopes
      → Turned G X same same_result noop received old e starts result new after later
      → IfOk result (λ next. HoldScopesNext next after.goals after.scopes)
  turned_scopes h (GoesOn given mid new between after later advanced goes is first stored) =
      subst (λ (a : Evaluation D C V P F I R A T). HoldScopes (fates_of a.goals) a.scopes)
      (sym is) (advanced_scopes h advanced)
  turned_scopes h (Answered answer mid new after later advanced goes) = advanced_scopes h advanced
  turned_scopes h (NotAnswered answer new after later advanced) = tt
  turned_scopes h (Failed fault mid new between after later advanced goes is) = tt
  turned_scopes h (FailedForGood fault new between after later advanced is) = tt

  module _ (has : HasDrafts same old e) where
    module _ {result : Result (Next R) (Fault I R)} {mid : Cache C I R T} {between : Evaluation D C V P F I R A T}
        {later : ℕ} (advanced : Advanced G X same same_result noop received old e starts result mid between later) where
      -- nodes that were there before are there after a move, and what is let go after it came later
      cache_turns : (new : Cache C I R T) → KeepsFirst between.drafts.first mid.nodes new.nodes
          → new ≡ record mid { nodes = new.nodes } → TurnsCache same e old new
      cache_turns new earlier rest =
          let changes = advanced_cache advanced in
          turn_keeps same e old mid new has changes.keeps changes.changes
          (subst (λ n. KeepsFirst n mid.nodes new.nodes) first earlier) rest
        where
          first : between.drafts.first ≡ e.drafts.first
          first = (advanced_noted advanced).first

      -- those nodes lead to one another alone, still, and what is noted stays so
      pub advanced_before : StayBefore between.drafts.first mid.nodes
      advanced_before =
          let changes = advanced_cache advanced in
          turn_before same e old mid mid has changes.keeps changes.changes (λ at lower. refl) refl
          between (advanced_noted advanced).first

      pub noted_after : AreNotedNodes same mid between.drafts
      noted_after = (advanced_noted advanced).noted_are has.noted_are

    pub turned_cache :
        {result : Result (Next R) (Fault I R)} {new : Cache C I R T}
        {after : Evaluation D C V P F I R A T} {later : ℕ}
        → Turned G X same same_result noop received old e starts result new after later → TurnsCache same e old new
    turned_cache (GoesOn given mid new between after later advanced goes is first stored) =
        cache_turns advanced new goes.earlier goes.rest
    turned_cache (Answered answer mid new after later advanced goes) = cache_turns advanced new goes.earlier goes.rest
    turned_cache (NotAnswered answer new after later advanced) = cache_turns advanced new (λ at lower. refl) refl
    turned_cache (Failed fault mid new between after later advanced goes is) =
        cache_turns advanced new goes.earlier goes.rest
    turned_cache (FailedForGood fault new between after later advanced is) =
        cache_turns advanced new (λ at lower. refl) refl

    pub turned_drafts :
        {result : Result (Next R) (Fault I R)} {new : Cache C I R T} {after : Evaluation D C V P F I R A T}
        {later : ℕ} → Turned G X same same_result noop received old e starts result new after later
        → IfOk result (λ next. KeepsDrafts same e next new after)
    turned_drafts (GoesOn given mid new between after later advanced goes is first stored) =
        let noted = advanced_noted advanced in
        let changes = advanced_cache advanced in
        let goals = advanced_goals advanced in
        record {
          first = first ∙ noted.first;
          has =
              turn_has same e old mid new has changes.keeps changes.changes
              (subst (λ n. KeepsFirst n mid.nodes new.nodes) noted.first goes.earlier)
              goes.rest after (first ∙ noted.first)
              (subst (λ (a : Evaluation D C V P F I R A T). AreFrom e.drafts.first a.goals) (sym is)
              (goals.stays e.drafts.first has.there has.from))
              (noted_of same new between.drafts after.drafts first stored
              (noted_stay G X same old.cx between mid new given.node goes (noted.noted_are has.noted_are)));
        }
    turned_drafts (Answered answer mid new after later advanced goes) =
        record { first = (advanced_noted advanced).first; has = tt }
    turned_drafts (NotAnswered answer new after later advanced) = tt
    turned_drafts (Failed fault mid new between after later advanced goes is) = tt
    turned_drafts (FailedForGood fault new between after later advanced is) = tt
