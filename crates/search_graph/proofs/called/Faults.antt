-- Whose fault it is that a call fails.
use Rattle.std.proofs.Common.{◌≡◌, ◌⊎◌, ◌||◌, ℕ, Bool, true, false, [], ◌∷◌, List, None, Option, option_map, Some}
use Rattle.std.proofs.Common.{Result, Ok, Err, IfErr, inl, inr, refl, ap, sym, subst}
use Rattle.goal_changes.specs.Newest.{newest}
use Rattle.goal_changes.specs.Steps as steps
use Rattle.run_records.specs.declared.runs.Fate.{Fate}
use Rattle.search_context.specs.declared.context.Answer.{Answer}
use Rattle.search_context.specs.declared.context.Fault.TheVariants.{Conflict, Validation}
use Rattle.search_ends.specs.Below.{RebaseReason, StackEntry}
use Rattle.search_ends.specs.RunEnded.{EndedAtLimit, EndedDone, NotRunAgain, RanAgain}
use Rattle.search_ends.specs.Words.{FailsToStore, NewestFailsToStore, PopsOrFails, RunEnds}
use Rattle.search_graph.proofs.called.Calling.{if_err_then}
use Rattle.search_graph.proofs.called.Decided.{if_err_both}
use Rattle.search_graph.proofs.called.Reaching.{AreReached, ran_reaches}
use Rattle.search_graph.proofs.ran.Calls.{ran_keeps, ran_right, ran_waits}
use Rattle.search_graph.proofs.requests.Advancing.{requests}
use Rattle.search_graph.proofs.turns.Causes.{disorderly_script}
use Rattle.search_graph.proofs.turns.Loops.{call_of, some_call_begins}
use Rattle.search_graph.specs.Below.{AreRuns, AreSoundResults, Awaits, Cache, Call, CxOf, DelegateOf, Done, fates_of}
use Rattle.search_graph.specs.Below.{Fault, HasStepped, IsRightFor, IsStepFault, Memory, Next, NoMemoryLeft, OpenGoal}
use Rattle.search_graph.specs.Below.{PathKind, Protocol, Received, Request, Store, StoredResult, verdicts, work_left}
use Rattle.search_graph.specs.Called.{Called, Evaluated, HasRun, WasStored, WasWorkedOut}
use Rattle.search_graph.specs.Faults.{FailsFor, goals_at_end, HasComeTo, IsFaultOf, IsOfNewest, last_goals}
use Rattle.search_graph.specs.Faults.{last_goals_of, MemoryIsOut}
use Rattle.search_graph.specs.Laws.{AreLaws}
use Rattle.search_graph.specs.LimitsMet.{limits_met_in, met_at_end, met_by_move, met_by_turn}
use Rattle.search_graph.specs.LimitsMet.{met_in_evaluation, met_in_turns}
use Rattle.search_graph.specs.Ran.{Advanced, Answered, Asked, Began, Failed, FailedForGood, FrameFailed, GoesOn}
use Rattle.search_graph.specs.Ran.{NotAnswered, NotAsked, NotBegun, Noted, NotNoted, Ran, RunEnded, Then, Turned}
use Rattle.search_graph.specs.Turns.{IsAtOutset}
use Rattle.search_rules.proofs.moves.Moves.{ends_newest}
use Rattle.search_rules.specs.Claims.{IfDiffers}
use Rattle.search_rules.specs.Results.{place_of_item}
use Rattle.search_rules.specs.Runs.{EndsNewest}
use Rattle.search_state.specs.declared.evaluation.Evaluation.{Evaluation}

-- what is known of the newest goal, if there is one
abbrev IfNewest : {A : Type 0} → List A → (A → Type 0) → Type 0
IfNewest [] P = ⊥
IfNewest (s ∷ below) P = P s

module _ {D C V P F I R A T : Type 0} (G : DelegateOf D C V P F I R A T)
    (same : I → I → Bool) (cx : C) (met : Bool) where
  -- what a goal came to, and that its answer could not be stored
  of_storing : (results : Store I (StoredResult I R T)) (s : OpenGoal C F I R A T) (r : R)
      → HasComeTo G same cx results met s.0.input r → (fault : Fault I R) → IfDiffers fault (λ found. found ≡ r)
      → FailsToStore same results s.0.input (place_of_item s) fault → IsFaultOf G same cx results met s fault
  of_storing results s r came Memory differs fails = tt
  of_storing results s r came (Protocol number) differs fails = absurd fails
  of_storing results s r came (Conflict goal stored found) differs fails =
      (fails.0, subst (HasComeTo G same cx results met s.0.input) (sym differs) came, fails.1)
  of_storing results s r came (Validation goal stored found) differs fails =
      (fails, subst (HasComeTo G same cx results met s.0.input) (sym differs) came)

  newest_storing : (results : Store I (StoredResult I R T)) (goals : List (OpenGoal C F I R A T)) (r : R)
      → IfNewest goals (λ s. HasComeTo G same cx results met s.0.input r) → (fault : Fault I R)
      → IfDiffers fault (λ found. found ≡ r) → NewestFailsToStore same results goals fault
      → IfNewest goals (λ s. IsFaultOf G same cx results met s fault)
  newest_storing results [] r came fault differs fails = absurd fails
  newest_storing results (s ∷ below) r came fault differs fails = of_storing results s r came fault differs fails

  -- it is the newest goal's, which is reached
  of_newest : (results : Store I (StoredResult I R T)) (top : I) (goals : List (OpenGoal C F I R A T))
      (fault : Fault I R) → AreReached (G.script cx) top (fates_of goals)
      → IfNewest goals (λ s. IsFaultOf G same cx results met s fault) → FailsFor G same cx results met top goals fault
  of_newest results top [] fault all is = absurd is
  of_newest results top (s ∷ below) fault all is = IsOfNewest s below refl all.0 is

  -- by their inputs, where the limit's result is that of the newest one
  came_at_limit : (results : Store I (StoredResult I R T)) (goals : List (OpenGoal C F I R A T))
      (entry : StackEntry C I R A T) → option_map (λ s. s.0) (newest goals) ≡ Some entry → met ≡ true
      → IfNewest goals (λ s. HasComeTo G same cx results met s.0.input (G.fixpoint_overflow cx entry.input))
  came_at_limit results [] entry is met_one = let clash : None ≡ Some entry = is in absurd cc
  came_at_limit results (s ∷ below) entry is met_one = let one : s.0 ≡ entry = cc in
      inr (ap (λ (x : StackEntry C I R A T). G.fixpoint_overflow cx x.input) (sym one), met_one)

module _ {D C V P F I R A T : Type 0} (G : DelegateOf D C V P F I R A T) (same : I → I → Bool) (cx : C)
    (results : Store I (StoredResult I R T)) (before met : Bool) where
  -- a limit was met then, so one was met before or then
  one_met : (before met : Bool) → met ≡ true → before || met ≡ true
  one_met true met is = refl
  one_met false met is = is

  come_besides : (goal : I) (r : R) → HasComeTo G same cx results met goal r
      → HasComeTo G same cx results (before || met) goal r
  come_besides goal r (inl done) = inl done
  come_besides goal r (inr limit) = inr (limit.0, one_met before met limit.1)

  fault_besides : (s : OpenGoal C F I R A T) (fault : Fault I R) → IsFaultOf G same cx results met s fault
      → IsFaultOf G same cx results (before || met) s fault
  fault_besides s Memory h = tt
  fault_besides s (Protocol number) h = h
  fault_besides s (Conflict goal stored found) h = (h.0, come_besides s.0.input found h.1, h.2)
  fault_besides s (Validation goal stored found) h = (h.0, come_besides s.0.input found h.1)

  newest_besides : (goals : List (OpenGoal C F I R A T)) (fault : Fault I R)
      → IfNewest goals (λ s. IsFaultOf G same cx results met s fault)
      → IfNewest goals (λ s. IsFaultOf G same cx results (before || met) s fault)
  newest_besides [] fault h = absurd h
  newest_besides (s ∷ below) fault h = fault_besides s fault h

-- a script that is done came to its result
came_newest : {D C V P F I R A T : Type 0} (G : DelegateOf D C V P F I R A T) (X : CxOf C I R A T) (same : I → I → Bool)
    (cx : C) (results : Store I (StoredResult I R T)) (met : Bool) (goals : List (OpenGoal C F I R A T)) (r : R)
    → EndsNewest (verdicts X) (G.script cx) goals r → IfNewest goals (λ s. HasComeTo G same cx results met s.0.input r)
came_newest G X same cx results met [] r ends = absurd ends
came_newest G X same cx results met (s ∷ below) r ends = inl (ends.replies, ends.is_fitting, ends.is_done)

-- memory is out, or it is the newest goal's fault
abbrev IsOutOrNewest : {D C V P F I R A T : Type 0} → DelegateOf D C V P F I R A T → (I → I → Bool) → C
    → Store I (StoredResult I R T) → Bool → List (OpenGoal C F I R A T) → Fault I R → Type 0
IsOutOrNewest G same cx results met goals fault =
    (fault ≡ Memory) ⊎ IfNewest goals (λ s. IsFaultOf G same cx results met s fault)

module _ {D C V P F I R A T : Type 0} {G : DelegateOf D C V P F I R A T}
    {X : CxOf C I R A T} {same : I → I → Bool} where
  -- the newest goal could not be popped
  pop_fails : {outcome : R} {reason : Option (RebaseReason C I R A T)} {old : Cache C I R T}
      {before : Evaluation D C V P F I R A T} {result : Result (Next R) (Fault I R)} {new : Cache C I R T}
      {after : Evaluation D C V P F I R A T} (met : Bool)
      → PopsOrFails G X same outcome reason old before result new after
      → IfNewest before.goals (λ s. HasComeTo G same old.cx old.results met s.0.input outcome)
      → IfErr result (IsOutOrNewest G same old.cx new.results met before.goals)
  pop_fails {outcome = outcome} {old = old} {before = before} {result = result} {new = new} met pop came =
      if_err_both result pop.fails pop.whose
      (λ fault fails whose.
      inr (subst (λ rs. IfNewest before.goals (λ s. IsFaultOf G same old.cx rs met s fault)) (sym fails.stores.unstored)
      (newest_storing G same old.cx met old.results before.goals outcome came fault fails.differs whose)))

  -- or its frame failed
  module _ {received : Received R} {old : Cache C I R T} {e : Evaluation D C V P F I R A T} {starts : ℕ}
      (right : IsRightFor G X same old.cx received old e) (call : Call I)
      (awaits : Awaits G X same old.cx call received old e starts) where
    frame_fails : (met : Bool) (fault : Fault I R) → IsStepFault G X old.cx received e.goals fault
        → IsOutOrNewest G same old.cx old.results met e.goals fault
    frame_fails met fault (NoMemoryLeft is) = inl is
    frame_fails met fault
        (steps.OutOfOrder entry run frame verdict below request number was is_verdict taken disorderly is) =
        inr
        (subst (λ (l : List (OpenGoal C F I R A T)). IfNewest l (λ s. IsFaultOf G same old.cx old.results met s fault))
        (sym was)
        (subst (IsFaultOf G same old.cx old.results met (entry, run)) (sym is)
        (disorderly_script G X same old e.drafts received e.goals starts e.limits_met call right.fits awaits.waiting
        entry run frame verdict below request number was is_verdict taken disorderly)))

-- it was newest before its frame's step, too
newest_before : {D C V P F I R A T : Type 0} {G : DelegateOf D C V P F I R A T} {X : CxOf C I R A T}
    (same : I → I → Bool) {cx : C} {given : Received R} {request : Request I R} {old new : List (OpenGoal C F I R A T)}
    → HasStepped G X cx given request old new
    → (read : C) (results : Store I (StoredResult I R T)) (met : Bool) (fault : Fault I R)
    → IsOutOrNewest G same read results met new fault → IsOutOrNewest G same read results met old fault
newest_before {C = C} {F = F} {I = I} {R = R} {A = A} {T = T} {G = G} same stepped read results met fault h =
    subst (λ (l : List (OpenGoal C F I R A T)). IsOutOrNewest G same read results met l fault) (sym stepped.was)
    (subst (λ (l : List (OpenGoal C F I R A T)). IsOutOrNewest G same read results met l fault) stepped.is h)

module _ {D C V P F I R A T : Type 0} {G : DelegateOf D C V P F I R A T} {X : CxOf C I R A T}
    {same : I → I → Bool} {same_result : R → R → Bool} where
  end_fails : {outcome : R} {old : Cache C I R T} {e : Evaluation D C V P F I R A T} {starts : ℕ}
      {result : Result (Next R) (Fault I R)} {new : Cache C I R T} {after : Evaluation D C V P F I R A T} {later : ℕ}
      → EndsNewest (verdicts X) (G.script old.cx) e.goals outcome
      → (run_ends : RunEnds G X same same_result outcome old e starts result new after later)
      → IfErr result (IsOutOrNewest G same old.cx new.results (met_at_end run_ends).most_runs e.goals)
  end_fails {outcome = outcome} {old = old} {e = e} ends (EndedDone entry run reason result new after comes pop) =
      pop_fails false pop (came_newest G X same old.cx old.results false e.goals outcome ends)
  end_fails {old = old} {e = e} ends (EndedAtLimit entry run result new after comes pop) =
      pop_fails true pop (came_at_limit G same old.cx true old.results e.goals entry comes.is_entry refl)
  end_fails ends (RanAgain entry run new after later comes keeps reran counted) = tt
  end_fails ends (NotRunAgain entry run new after later comes keeps) = inl refl

  module _ {noop : Bool} {received : Received R} {old : Cache C I R T} {e : Evaluation D C V P F I R A T} {starts : ℕ}
      (right : IsRightFor G X same old.cx received old e) (call : Call I)
      (awaits : Awaits G X same old.cx call received old e starts) where
    move_fails : {result : Result (Next R) (Fault I R)} {new : Cache C I R T} {after : Evaluation D C V P F I R A T}
        {later : ℕ} (advanced : Advanced G X same same_result noop received old e starts result new after later)
        → IfErr result (IsOutOrNewest G same old.cx new.results (met_by_move advanced).most_runs e.goals)
    move_fails (FrameFailed fault goals failed) = frame_fails right call awaits false fault failed
    move_fails (Asked kind goal goals given new after later stepped asking asks) = tt
    move_fails (NotAsked kind goal goals new after later stepped fails asks) = inl refl
    move_fails (RunEnded outcome goals result new after later stepped runs ends) =
        let asked = requests G X same old.cx old e received old.cx refl (Done outcome) goals stepped starts starts refl
        (Done outcome) refl right call awaits in
        if_err_then result (end_fails
        (ends_newest G X old.cx call (work_left G X old.cx e.goals) outcome goals starts e.limits_met asked.asked) ends)
        (λ fault h. newest_before same stepped old.cx new.results (met_at_end ends).most_runs fault h)
    move_fails (Noted request goals noted stepped about notes) = tt
    move_fails (NotNoted request goals left stepped) = inl refl

    turn_fails : {result : Result (Next R) (Fault I R)} {new : Cache C I R T} {after : Evaluation D C V P F I R A T}
        {later : ℕ} (turned : Turned G X same same_result noop received old e starts result new after later)
        → IfErr result (IsOutOrNewest G same old.cx new.results (met_by_turn turned).most_runs e.goals)
    turn_fails (GoesOn given mid new between after later advanced goes is first stored) = tt
    turn_fails (Answered answer mid new after later advanced goes) = tt
    turn_fails (NotAnswered answer new after later advanced) = inl refl
    turn_fails (Failed fault mid new between after later advanced goes is) =
        subst (λ rs. IsOutOrNewest G same old.cx rs (met_by_move advanced).most_runs e.goals fault)
        (ap (λ (c : Cache C I R T). c.results) (sym goes.rest)) (move_fails advanced)
    turn_fails (FailedForGood fault new between after later advanced is) = inl refl

  -- a turn, told of a context that its cache has, too
  fails_over :
      {noop : Bool} {cx : C} {given : Received R} {mid : Cache C I R T} {between : Evaluation D C V P F I R A T}
      {now : ℕ} (context : mid.cx ≡ cx) (call : Call I) {result : Result (Next R) (Fault I R)} {new : Cache C I R T}
      {after : Evaluation D C V P F I R A T} {later : ℕ}
      (turned : Turned G X same same_result noop given mid between now result new after later)
      → IsRightFor G X same cx given mid between → Awaits G X same cx call given mid between now
      → IfErr result (IsOutOrNewest G same cx new.results (met_by_turn turned).most_runs between.goals)
  fails_over {given = given} {mid = mid} {between = between} {now = now} context
      call {result = result} {new = new} turned =
      subst (λ c. IsRightFor G X same c given mid between → Awaits G X same c call given mid between now
      → IfErr result (IsOutOrNewest G same c new.results (met_by_turn turned).most_runs between.goals)) context
      (λ right awaits. turn_fails right call awaits turned)

  module _ {noop : Bool} (laws : AreLaws G X same same_result) {kind : PathKind} {goal : I} {fate : Fate R}
      {old : Cache C I R T} {e : Evaluation D C V P F I R A T} {starts : ℕ}
      (outset : IsAtOutset old e) (are_runs : AreRuns (verdicts X) (G.script old.cx) old.nodes)
      (sound : AreSoundResults same (verdicts X) (G.script old.cx) old.nodes old.results) where
    ran_fails : {result : Result (Next R) (Fault I R)} {new : Cache C I R T} {after : Evaluation D C V P F I R A T}
        {later : ℕ} (ran : Ran G X same same_result noop kind goal fate old e starts result new after later)
        → IfErr result (FailsFor G same old.cx new.results (met_in_turns ran).most_runs goal (last_goals ran))
    ran_fails (Began goals held nodes later pushes fates holds nodes_kept one counted) = tt
    ran_fails (NotBegun goals held later least one) = MemoryIsOut refl
    ran_fails (Then given mid between now result new after later ran turned) =
        let known = call_of goal e.root_depth.0 starts e.limits_met false false outset.new.fits in
        let begins =
        some_call_begins G X old.cx same goal e.root_depth.0 starts e.limits_met outset.new.fits old.results in
        if_err_then result (fails_over (ran_keeps laws outset are_runs sound ran).context known turned
        (ran_right laws outset are_runs sound ran) (ran_waits laws outset are_runs sound known begins ran))
        (λ fault h. elim h [
          | inl memory ↦ MemoryIsOut memory
          | inr whose ↦
              of_newest G same old.cx ((met_in_turns ran).most_runs || (met_by_turn turned).most_runs) new.results goal
              between.goals fault (ran_reaches laws outset are_runs sound ran)
              (newest_besides G same old.cx new.results (met_in_turns ran).most_runs
              (met_by_turn turned).most_runs between.goals fault whose)
        ])

  evaluated_fails : {noop looks_up : Bool} {kind : PathKind} {goal : I} {old : Cache C I R T}
      {e : Evaluation D C V P F I R A T} {starts : ℕ}
      → AreLaws G X same same_result → IsAtOutset old e → AreRuns (verdicts X) (G.script old.cx) old.nodes
      → AreSoundResults same (verdicts X) (G.script old.cx) old.nodes old.results
      → {result : Result (Answer R) (Fault I R)} {new : Cache C I R T}
      {after : Evaluation D C V P F I R A T} {later : ℕ}
      (evaluated : Evaluated G X same same_result noop looks_up kind goal old e starts result new after later)
      → IfErr result
      (FailsFor G same old.cx new.results (met_in_evaluation evaluated).most_runs goal (last_goals_of evaluated))
  evaluated_fails laws outset are_runs sound (WasStored hit found usable) = tt
  evaluated_fails laws outset are_runs sound (WasWorkedOut (Ok answer) new after later none fated ran) = tt
  evaluated_fails laws outset are_runs sound (WasWorkedOut (Err fault) new after later none fated ran) =
      ran_fails laws outset are_runs sound ran

  pub run_fails : {call : Called C I R A T} (ran : HasRun G X same same_result call) → IfErr call.result (FailsFor G
      same call.before.cache.cx call.after.cache.results (limits_met_in ran).most_runs call.goal (goals_at_end ran))
  run_fails ran = evaluated_fails ran.laws ran.at_outset ran.was_sound.runs ran.was_sound.results ran.evaluated
