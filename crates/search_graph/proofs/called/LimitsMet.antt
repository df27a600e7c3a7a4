-- Which limits a call meets, and that no question is refused where the depth is enough.
use Rattle.std.proofs.Common.{◌≡◌, ◌||◌, ◌∙◌, ℕ, Bool, true, false, List, Contains, None, Option, Some, Result, ap}
use Rattle.std.proofs.Common.{refl, sym, subst}
use Rattle.std.specs.Option.{is_none}
use Rattle.run_records.specs.declared.runs.Fate.{Fate}
use Rattle.search_context.specs.declared.context.Answer.{Answer}
use Rattle.search_ends.specs.RunEnded.{EndedAtLimit, EndedDone, NotRunAgain, RanAgain}
use Rattle.search_ends.specs.Words.{RunEnds}
use Rattle.search_graph.proofs.called.Limits.{among}
use Rattle.search_graph.proofs.ran.Calls.{ran_keeps, ran_right, ran_waits}
use Rattle.search_graph.proofs.requests.Advancing.{requests}
use Rattle.search_graph.proofs.turns.Loops.{call_among_begins}
use Rattle.search_graph.specs.Below.{AreRuns, AreSoundResults, Awaits, Begins, Cache, Call, CallIsEnclosed, CxOf}
use Rattle.search_graph.specs.Below.{DelegateOf, Evaluate, Fault, HasStepped, HaveNoOverflowOf, IsEnclosed, IsRightFor}
use Rattle.search_graph.specs.Below.{Next, OpenGoal, PathKind, Received, Requests, verdicts, work_left}
use Rattle.search_graph.specs.Called.{Called, Evaluated, HasRun, WasStored, WasWorkedOut}
use Rattle.search_graph.specs.Laws.{AreLaws}
use Rattle.search_graph.specs.LimitsMet.{limits_met_in, met_at_end, met_by_move, met_by_turn}
use Rattle.search_graph.specs.LimitsMet.{met_in_evaluation, met_in_turns}
use Rattle.search_graph.specs.Ran.{Advanced, Answered, Asked, Began, Failed, FailedForGood, FrameFailed, GoesOn}
use Rattle.search_graph.specs.Ran.{NotAnswered, NotAsked, NotBegun, Noted, NotNoted, Ran, RunEnded, Then, Turned}
use Rattle.search_graph.specs.Turns.{IsAtOutset}
use Rattle.search_questions.proofs.moves.Limits.{met_or, met_so}
use Rattle.search_questions.specs.Words.{question_depth}
use Rattle.search_rules.proofs.moves.Questions.{enclosed_refuses_none}
use Rattle.search_state.specs.declared.evaluation.Evaluation.{Evaluation}

-- ---- the flag says whether one of the two was met

-- one limit or another, after those that were met
either_of : (was refused most refused_now most_now : Bool) → ((was || (refused || most)) || (refused_now || most_now))
    ≡ (was || ((refused || refused_now) || (most || most_now)))
either_of true refused most refused_now most_now = refl
either_of false true most refused_now most_now = refl
either_of false false true true most_now = refl
either_of false false true false true = refl
either_of false false true false false = refl
either_of false false false refused_now most_now = refl

module _ {D C V P F I R A T : Type 0} {G : DelegateOf D C V P F I R A T} {X : CxOf C I R A T}
    {same : I → I → Bool} {same_result : R → R → Bool} where
  end_tells : {outcome : R} {old : Cache C I R T} {e : Evaluation D C V P F I R A T} {starts : ℕ}
      {result : Result (Next R) (Fault I R)} {new : Cache C I R T} {after : Evaluation D C V P F I R A T} {later : ℕ}
      → (ends : RunEnds G X same same_result outcome old e starts result new after later)
      → after.limits_met ≡ (e.limits_met || ((met_at_end ends).refused || (met_at_end ends).most_runs))
  end_tells {e = e} (EndedDone entry run reason result new after comes pop) =
      ap (λ (a : Evaluation D C V P F I R A T). a.limits_met) pop.rest ∙ sym (met_or e.limits_met)
  end_tells {e = e} (EndedAtLimit entry run result new after comes pop) =
      ap (λ (a : Evaluation D C V P F I R A T). a.limits_met) pop.rest ∙ sym (met_so e.limits_met)
  end_tells {e = e} (RanAgain entry run new after later comes keeps reran counted) =
      ap (λ (a : Evaluation D C V P F I R A T). a.limits_met) keeps.rest ∙ sym (met_or e.limits_met)
  end_tells {e = e} (NotRunAgain entry run new after later comes keeps) =
      ap (λ (a : Evaluation D C V P F I R A T). a.limits_met) keeps.rest ∙ sym (met_or e.limits_met)

  module _ {noop : Bool} where
    move_tells : {received : Received R} {old : Cache C I R T} {e : Evaluation D C V P F I R A T} {starts : ℕ}
        {result : Result (Next R) (Fault I R)} {new : Cache C I R T}
        {after : Evaluation D C V P F I R A T} {later : ℕ}
        → (advanced : Advanced G X same same_result noop received old e starts result new after later)
        → after.limits_met ≡ (e.limits_met || ((met_by_move advanced).refused || (met_by_move advanced).most_runs))
    move_tells {e = e} (FrameFailed fault goals failed) = sym (met_or e.limits_met)
    move_tells {e = e} (Asked kind goal goals given new after later stepped asking asks) = asks.meets
        ∙ ap (λ b. e.limits_met || b) (sym (met_or (is_none (question_depth G (record e { goals = goals })))))
    move_tells {e = e} (NotAsked kind goal goals new after later stepped fails asks) = asks.meets
        ∙ ap (λ b. e.limits_met || b) (sym (met_or (is_none (question_depth G (record e { goals = goals })))))
    move_tells (RunEnded outcome goals result new after later stepped runs ends) = end_tells ends
    move_tells {e = e} (Noted request goals noted stepped about notes) = sym (met_or e.limits_met)
    move_tells {e = e} (NotNoted request goals left stepped) = sym (met_or e.limits_met)

    pub turn_tells : {received : Received R} {old : Cache C I R T} {e : Evaluation D C V P F I R A T} {starts : ℕ}
        {result : Result (Next R) (Fault I R)} {new : Cache C I R T}
        {after : Evaluation D C V P F I R A T} {later : ℕ}
        → (turned : Turned G X same same_result noop received old e starts result new after later)
        → after.limits_met ≡ (e.limits_met || ((met_by_turn turned).refused || (met_by_turn turned).most_runs))
    turn_tells (GoesOn given mid new between after later advanced goes is first stored) =
        ap (λ (a : Evaluation D C V P F I R A T). a.limits_met) is ∙ move_tells advanced
    turn_tells (Answered answer mid new after later advanced goes) = move_tells advanced
    turn_tells (NotAnswered answer new after later advanced) = move_tells advanced
    turn_tells (Failed fault mid new between after later advanced goes is) =
        ap (λ (a : Evaluation D C V P F I R A T). a.limits_met) is ∙ move_tells advanced
    turn_tells (FailedForGood fault new between after later advanced is) =
        ap (λ (a : Evaluation D C V P F I R A T). a.limits_met) is ∙ move_tells advanced

    ran_tells : {kind : PathKind} {goal : I} {fate : Fate R} {old : Cache C I R T} {e : Evaluation D C V P F I R A T}
        {starts : ℕ} {result : Result (Next R) (Fault I R)} {new : Cache C I R T}
        {after : Evaluation D C V P F I R A T} {later : ℕ}
        → (ran : Ran G X same same_result noop kind goal fate old e starts result new after later)
        → after.limits_met ≡ (e.limits_met || ((met_in_turns ran).refused || (met_in_turns ran).most_runs))
    ran_tells {e = e} (Began goals held nodes later pushes fates holds nodes_kept one counted) =
        sym (met_or e.limits_met)
    ran_tells {e = e} (NotBegun goals held later least one) = sym (met_or e.limits_met)
    ran_tells {e = e} (Then given mid between now result new after later ran turned) =
        turn_tells turned
        ∙ (ap (λ b. b || ((met_by_turn turned).refused || (met_by_turn turned).most_runs)) (ran_tells ran)
        ∙ either_of e.limits_met (met_in_turns ran).refused (met_in_turns ran).most_runs
        (met_by_turn turned).refused (met_by_turn turned).most_runs)

-- ---- no question is refused where no question leads out of the goals

module _ {D C V P F I R A T : Type 0} {G : DelegateOf D C V P F I R A T} {X : CxOf C I R A T} {same : I → I → Bool}
    {received : Received R} {old : Cache C I R T} {e : Evaluation D C V P F I R A T} {starts : ℕ}
    (right : IsRightFor G X same old.cx received old e) (call : Call I)
    (awaits : Awaits G X same old.cx call received old e starts) (enclosed : CallIsEnclosed G X old.cx call) where
  has_depth : (kind : PathKind) (goal : I) (goals : List (OpenGoal C F I R A T))
      → HasStepped G X old.cx received (Evaluate kind goal) e.goals goals → (depth : Option ℕ)
      → question_depth G (record e { goals = goals }) ≡ depth → is_none depth ≡ false
  has_depth kind goal goals stepped None none =
      let asks : Requests G X same old.cx (Evaluate kind goal) call (work_left G X old.cx e.goals) old
      (record e { goals = goals }) starts =
      requests G X same old.cx old e received old.cx refl (Evaluate kind goal) goals stepped starts starts refl
      (Evaluate kind goal) refl right call awaits in
      absurd (enclosed_refuses_none G X old.cx call (work_left G X old.cx e.goals) kind goal starts e.limits_met
      goals (sym none) enclosed asks.asked)
  has_depth kind goal goals stepped (Some depth) is = refl

-- the end of a run refuses none
end_refuses_none :
    {D C V P F I R A T : Type 0} {G : DelegateOf D C V P F I R A T} {X : CxOf C I R A T} {same : I → I → Bool}
    {same_result : R → R → Bool} {outcome : R} {old : Cache C I R T} {e : Evaluation D C V P F I R A T} {starts : ℕ}
    {result : Result (Next R) (Fault I R)} {new : Cache C I R T} {after : Evaluation D C V P F I R A T} {later : ℕ}
    (ends : RunEnds G X same same_result outcome old e starts result new after later)
    → (met_at_end ends).refused ≡ false
end_refuses_none (EndedDone entry run reason result new after comes pop) = refl
end_refuses_none (EndedAtLimit entry run result new after comes pop) = refl
end_refuses_none (RanAgain entry run new after later comes keeps reran counted) = refl
end_refuses_none (NotRunAgain entry run new after later comes keeps) = refl

module _ {D C V P F I R A T : Type 0} {G : DelegateOf D C V P F I R A T} {X : CxOf C I R A T} {same : I → I → Bool}
    {same_result : R → R → Bool} {noop : Bool} where
  module _ {received : Received R} {old : Cache C I R T} {e : Evaluation D C V P F I R A T} {starts : ℕ}
      (right : IsRightFor G X same old.cx received old e) (call : Call I)
      (awaits : Awaits G X same old.cx call received old e starts) (enclosed : CallIsEnclosed G X old.cx call) where
    move_refuses_none :
        {result : Result (Next R) (Fault I R)} {new : Cache C I R T} {after : Evaluation D C V P F I R A T}
        {later : ℕ} (advanced : Advanced G X same same_result noop received old e starts result new after later)
        → (met_by_move advanced).refused ≡ false
    move_refuses_none (FrameFailed fault goals failed) = refl
    move_refuses_none (Asked kind goal goals given new after later stepped asking asks) = has_depth right call awaits
        enclosed kind goal goals stepped (question_depth G (record e { goals = goals })) refl
    move_refuses_none (NotAsked kind goal goals new after later stepped fails asks) = has_depth right call awaits
        enclosed kind goal goals stepped (question_depth G (record e { goals = goals })) refl
    move_refuses_none (RunEnded outcome goals result new after later stepped runs ends) = end_refuses_none ends
    move_refuses_none (Noted request goals noted stepped about notes) = refl
    move_refuses_none (NotNoted request goals left stepped) = refl

    turn_refuses_none :
        {result : Result (Next R) (Fault I R)} {new : Cache C I R T} {after : Evaluation D C V P F I R A T}
        {later : ℕ} (turned : Turned G X same same_result noop received old e starts result new after later)
        → (met_by_turn turned).refused ≡ false
    turn_refuses_none (GoesOn given mid new between after later advanced goes is first stored) =
        move_refuses_none advanced
    turn_refuses_none (Answered answer mid new after later advanced goes) = move_refuses_none advanced
    turn_refuses_none (NotAnswered answer new after later advanced) = move_refuses_none advanced
    turn_refuses_none (Failed fault mid new between after later advanced goes is) = move_refuses_none advanced
    turn_refuses_none (FailedForGood fault new between after later advanced is) = move_refuses_none advanced

  -- a turn, told of a context that its cache has, too
  refuses_none_over :
      {cx : C} {given : Received R} {mid : Cache C I R T} {between : Evaluation D C V P F I R A T} {now : ℕ}
      (context : mid.cx ≡ cx) (call : Call I) {result : Result (Next R) (Fault I R)} {new : Cache C I R T}
      {after : Evaluation D C V P F I R A T} {later : ℕ}
      (turned : Turned G X same same_result noop given mid between now result new after later)
      → IsRightFor G X same cx given mid between → Awaits G X same cx call given mid between now
      → CallIsEnclosed G X cx call → (met_by_turn turned).refused ≡ false
  refuses_none_over {given = given} {mid = mid} {between = between} {now = now} context call turned =
      subst (λ c. IsRightFor G X same c given mid between → Awaits G X same c call given mid between now
      → CallIsEnclosed G X c call → (met_by_turn turned).refused ≡ false) context
      (λ right awaits enclosed. turn_refuses_none right call awaits enclosed turned)

  module _ (laws : AreLaws G X same same_result) {kind : PathKind} {goal : I} {old : Cache C I R T}
      {e : Evaluation D C V P F I R A T} {starts : ℕ}
      (outset : IsAtOutset old e) (are_runs : AreRuns (verdicts X) (G.script old.cx) old.nodes)
      (sound : AreSoundResults same (verdicts X) (G.script old.cx) old.nodes old.results)
      (call : Call I) (at : Begins G X old.cx same call goal e.root_depth.0 starts e.limits_met old.results)
      (enclosed : CallIsEnclosed G X old.cx call) where
    ran_refuses_none : {fate : Fate R} {result : Result (Next R) (Fault I R)} {new : Cache C I R T}
        {after : Evaluation D C V P F I R A T} {later : ℕ}
        (ran : Ran G X same same_result noop kind goal fate old e starts result new after later)
        → (met_in_turns ran).refused ≡ false
    ran_refuses_none (Began goals held nodes later pushes fates holds nodes_kept one counted) = refl
    ran_refuses_none (NotBegun goals held later least one) = refl
    ran_refuses_none (Then given mid between now result new after later ran turned) =
        ap (λ b. b || (met_by_turn turned).refused) (ran_refuses_none ran)
        ∙ refuses_none_over (ran_keeps laws outset are_runs sound ran).context call turned
        (ran_right laws outset are_runs sound ran) (ran_waits laws outset are_runs sound call at ran) enclosed

-- ---- the whole call

module _ {D C V P F I R A T : Type 0} {G : DelegateOf D C V P F I R A T} {X : CxOf C I R A T}
    {same : I → I → Bool} {same_result : R → R → Bool} where
  module _ {noop looks_up : Bool} {kind : PathKind} {goal : I} {old : Cache C I R T}
      {e : Evaluation D C V P F I R A T} {starts : ℕ} where
    evaluated_tells_limits : {result : Result (Answer R) (Fault I R)} {new : Cache C I R T}
        {after : Evaluation D C V P F I R A T} {later : ℕ}
        (evaluated : Evaluated G X same same_result noop looks_up kind goal old e starts result new after later)
        → after.limits_met
        ≡ (e.limits_met || ((met_in_evaluation evaluated).refused || (met_in_evaluation evaluated).most_runs))
    evaluated_tells_limits (WasStored hit found usable) = sym (met_or e.limits_met)
    evaluated_tells_limits (WasWorkedOut result new after later none fated ran) = ran_tells ran

    evaluated_refuses_none : AreLaws G X same same_result → IsAtOutset old e
        → AreRuns (verdicts X) (G.script old.cx) old.nodes
        → AreSoundResults same (verdicts X) (G.script old.cx) old.nodes old.results
        → (call : Call I) → Begins G X old.cx same call goal e.root_depth.0 starts e.limits_met old.results
        → CallIsEnclosed G X old.cx call
        → {result : Result (Answer R) (Fault I R)} {new : Cache C I R T}
        {after : Evaluation D C V P F I R A T} {later : ℕ}
        (evaluated : Evaluated G X same same_result noop looks_up kind goal old e starts result new after later)
        → (met_in_evaluation evaluated).refused ≡ false
    evaluated_refuses_none laws outset are_runs sound call at enclosed (WasStored hit found usable) = refl
    evaluated_refuses_none laws outset are_runs sound call at enclosed
        (WasWorkedOut result new after later none fated ran) =
        ran_refuses_none laws outset are_runs sound call at enclosed ran

  module _ {call : Called C I R A T} (ran : HasRun G X same same_result call) where
    pub run_tells_limits : call.after.graph.limits_met
        ≡ (call.before.graph.limits_met || ((limits_met_in ran).refused || (limits_met_in ran).most_runs))
    run_tells_limits = evaluated_tells_limits ran.evaluated

    pub run_never_refuses : (goals : List I)
        → IsEnclosed (G.script call.before.cache.cx) goals call.before.graph.root_depth call.goal
        → HaveNoOverflowOf (Contains goals) same call.before.cache.results → (limits_met_in ran).refused ≡ false
    run_never_refuses goals enclosed none =
        evaluated_refuses_none ran.laws ran.at_outset ran.was_sound.runs
        ran.was_sound.results (among ran goals enclosed none)
        (call_among_begins G X call.before.cache.cx same call.goal call.before.graph.root_depth call.before.starts
        call.before.graph.limits_met ran.fits call.before.cache.results goals none) enclosed ran.evaluated
