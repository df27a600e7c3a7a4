-- What a goal that is worked out comes to, and that a frame is started for it.
use Rattle.std.proofs.Common.{◌≡◌, ◌≤◌, ℕ, Bool, true, false, List, [], ◌∷◌, Option, Some, Result, Ok, Err, IfOk, arith}
use Rattle.std.proofs.Common.{inl, inr, le_refl, refl, subst, sym}
use Rattle.run_records.specs.declared.runs.Fate.{Fate}
use Rattle.search_context.specs.declared.context.Answer.{Answer}
use Rattle.search_ends.specs.RunEnded.{EndedAtLimit, EndedDone, NotRunAgain, RanAgain}
use Rattle.search_ends.specs.Words.{RunEnds}
use Rattle.search_graph.proofs.lists.ListLimits.{counted_over}
use Rattle.search_graph.proofs.ran.Calls.{ran_keeps, ran_right, ran_waits, then_leads}
use Rattle.search_graph.proofs.requests.Advancing.{requests}
use Rattle.search_graph.proofs.turns.Loops.{call_of, some_call_begins}
use Rattle.search_graph.specs.Below.{AreRuns, AreSoundResults, Awaits, Cache, Call, CountsOne, CxOf, DelegateOf, Done}
use Rattle.search_graph.specs.Below.{Fault, Finished, HasCounted, HasStepped, IsOnly, IsRightFor, LeadsTo, Next}
use Rattle.search_graph.specs.Below.{OpenGoal, PathKind, Received, Reply, Request, Requests, Step, verdicts, work_left}
use Rattle.search_graph.specs.Called.{Called, Evaluated, found_in, HasRun, WasStored, WasWorkedOut}
use Rattle.search_graph.specs.Laws.{AreLaws}
use Rattle.search_graph.specs.Ran.{Advanced, Answered, Asked, Began, Failed, FailedForGood, FrameFailed, GoesOn}
use Rattle.search_graph.specs.Ran.{NotAnswered, NotAsked, NotBegun, Noted, NotNoted, Ran, RunEnded, Then, Turned}
use Rattle.search_graph.specs.Turns.{IsAtOutset}
use Rattle.search_questions.specs.Asked.{ByEntry, ByStored, OverCycle, Pushed, Refused}
use Rattle.search_questions.specs.Words.{AskingLeadsTo}
use Rattle.search_rules.proofs.moves.DoneRuns.{limit_comes, newest_comes}
use Rattle.search_rules.proofs.moves.Questions.{if_ok_then}
use Rattle.search_rules.specs.Claims.{ComesTo}
use Rattle.search_rules.specs.Moves.{NewestLeaves}
use Rattle.search_rules.specs.Results.{NewestComesTo}
use Rattle.search_rules.specs.Words.{answered_by}
use Rattle.search_state.specs.declared.evaluation.Evaluation.{Evaluation}

-- what holds of the answer, if the next thing is one
abbrev IfAnswer : {R : Type 0} → Next R → (R → Type 0) → Type 0
IfAnswer (Step given) P = Unit {0}
IfAnswer (Finished answer) P = P answer.result

-- ---- frames

counts_up : (last old new : ℕ) → CountsOne last old new → old ≤ new
counts_up last old new counted =
    elim counted [ inl one ↦ omega (arith, one) | inr at_end ↦ omega (arith, at_end.0, at_end.1) ]

counts_first : (last old new : ℕ) → CountsOne last old new → HasCounted last old new 1
counts_first last old new counted =
    elim counted [ inl one ↦ inl (omega (arith, one)) | inr at_end ↦ inr (omega (arith, at_end.1)) ]

module _ {D C V P F I R A T : Type 0} {G : DelegateOf D C V P F I R A T} {X : CxOf C I R A T} {same : I → I → Bool}
    {same_result : R → R → Bool} (counts : G.counts ≡ true) where
  end_counts : {outcome : R} {old : Cache C I R T} {e : Evaluation D C V P F I R A T} {starts : ℕ}
      {result : Result (Next R) (Fault I R)} {new : Cache C I R T} {after : Evaluation D C V P F I R A T} {later : ℕ}
      → RunEnds G X same same_result outcome old e starts result new after later → starts ≤ later
  end_counts {starts = starts} (EndedDone entry run reason result new after comes pop) = le_refl starts
  end_counts {starts = starts} (EndedAtLimit entry run result new after comes pop) = le_refl starts
  end_counts (RanAgain entry run new after later comes keeps reran counted) = keeps.at_least
  end_counts (NotRunAgain entry run new after later comes keeps) = keeps.at_least

module _ {D C V P F I R A T : Type 0} {G : DelegateOf D C V P F I R A T} {X : CxOf C I R A T} {same : I → I → Bool}
    {cx : C} {kind : PathKind} {goal : I} {noop : Bool} (counts : G.counts ≡ true) where
  question_counts : {old : Cache C I R T} {e : Evaluation D C V P F I R A T} {starts : ℕ} {received : Received R}
      {new : Cache C I R T} {after : Evaluation D C V P F I R A T} {later : ℕ}
      → AskingLeadsTo G X same cx kind goal noop old e starts received new after later → starts ≤ later
  question_counts {starts = starts} (Refused goals none noted) = le_refl starts
  question_counts {starts = starts} (ByEntry depth entry goals has_depth found answers nests) = le_refl starts
  question_counts {starts = starts} (ByStored depth hit goals has_depth none found takes usable) = le_refl starts
  question_counts {starts = starts} (OverCycle depth head received goals has_depth none unstored there closes) =
      le_refl starts
  question_counts {starts = starts}
      (Pushed depth goals held nodes later has_depth none unstored off pushes fates holds fated one counted) =
      counts_up G.last starts later (counted counts)

module _ {D C V P F I R A T : Type 0} {G : DelegateOf D C V P F I R A T} {X : CxOf C I R A T} {same : I → I → Bool}
    {same_result : R → R → Bool} {noop : Bool} (counts : G.counts ≡ true) where
  -- a move that does not fail starts frames, and takes none back
  move_counts : {received : Received R} {old : Cache C I R T} {e : Evaluation D C V P F I R A T} {starts : ℕ}
      {result : Result (Next R) (Fault I R)} {new : Cache C I R T} {after : Evaluation D C V P F I R A T} {later : ℕ}
      → Advanced G X same same_result noop received old e starts result new after later
      → IfOk result (λ next. starts ≤ later)
  move_counts (FrameFailed fault goals failed) = tt
  move_counts (Asked kind goal goals given new after later stepped asking asks) = question_counts counts asking
  move_counts (NotAsked kind goal goals new after later stepped fails asks) = tt
  move_counts (RunEnded outcome goals result new after later stepped runs ends) = if_ok result (end_counts counts ends)
    where
      if_ok : {P : Type 0} (r : Result (Next R) (Fault I R)) → P → IfOk r (λ next. P)
      if_ok (Ok next) h = h
      if_ok (Err fault) h = tt
  move_counts {starts = starts} (Noted request goals noted stepped about notes) = le_refl starts
  move_counts (NotNoted request goals left stepped) = tt

  turn_counts : {received : Received R} {old : Cache C I R T} {e : Evaluation D C V P F I R A T} {starts : ℕ}
      {result : Result (Next R) (Fault I R)} {new : Cache C I R T} {after : Evaluation D C V P F I R A T} {later : ℕ}
      → Turned G X same same_result noop received old e starts result new after later
      → IfOk result (λ next. starts ≤ later)
  turn_counts (GoesOn given mid new between after later advanced goes is first stored) = move_counts advanced
  turn_counts (Answered answer mid new after later advanced goes) = move_counts advanced
  turn_counts (NotAnswered answer new after later advanced) = tt
  turn_counts (Failed fault mid new between after later advanced goes is) = tt
  turn_counts (FailedForGood fault new between after later advanced is) = tt

  ran_counts : {kind : PathKind} {goal : I} {fate : Fate R} {old : Cache C I R T} {e : Evaluation D C V P F I R A T}
      {starts : ℕ} {result : Result (Next R) (Fault I R)} {new : Cache C I R T}
      {after : Evaluation D C V P F I R A T} {later : ℕ}
      → Ran G X same same_result noop kind goal fate old e starts result new after later
      → IfOk result (λ next. HasCounted G.last starts later 1)
  ran_counts {starts = starts} (Began goals held nodes later pushes fates holds nodes_kept one counted) =
      counts_first G.last starts later (counted counts)
  ran_counts (NotBegun goals held later least one) = tt
  ran_counts {starts = starts} (Then given mid between now result new after later ran turned) =
      then result (turn_counts turned) (ran_counts ran)
    where
      then : (r : Result (Next R) (Fault I R)) → IfOk r (λ next. now ≤ later) → HasCounted G.last starts now 1
          → IfOk r (λ next. HasCounted G.last starts later 1)
      then (Ok next) more so_far = counted_over G.last starts starts now later 1 (le_refl starts) more so_far
      then (Err fault) more so_far = tt

-- ---- what it comes to

-- the goal that is popped last answers the call with its result
leaves_with : {C F I R A T : Type 0} (scripts : I → List (Reply R) → Request I R) (limit : I → R)
    (goals : List (OpenGoal C F I R A T)) (r : R) (next : Next R) (left : List (OpenGoal C F I R A T))
    → NewestLeaves r goals next left → NewestComesTo scripts limit goals r
    → IfAnswer next (NewestComesTo scripts limit goals)
leaves_with scripts limit [] r next left leaves h = absurd leaves
leaves_with scripts limit (s ∷ []) r next left leaves h =
    subst (λ n. IfAnswer n (NewestComesTo scripts limit (s ∷ []))) (sym leaves.1) h
leaves_with scripts limit (s ∷ p ∷ below) r next left leaves h =
    subst (λ n. IfAnswer n (NewestComesTo scripts limit (s ∷ p ∷ below))) (sym leaves.1) tt

module _ {D C V P F I R A T : Type 0} (G : DelegateOf D C V P F I R A T)
    (X : CxOf C I R A T) (cx : C) (limit : I → R) where
  -- the newest goal came to it before the frame's step, too
  comes_before : (given : Received R) (request : Request I R) (old new : List (OpenGoal C F I R A T))
      → HasStepped G X cx given request old new → (r : R) → NewestComesTo (G.script cx) limit new r
      → NewestComesTo (G.script cx) limit old r
  comes_before given request old new stepped r h =
      subst (λ (l : List (OpenGoal C F I R A T)). NewestComesTo (G.script cx) limit l r) (sym stepped.was)
      (subst (λ (l : List (OpenGoal C F I R A T)). NewestComesTo (G.script cx) limit l r) stepped.is h)

  -- the only goal is the call's
  only_comes : (goals : List (OpenGoal C F I R A T)) (goal : I) (r : R) → IsOnly G X cx goals goal
      → NewestComesTo (G.script cx) limit goals r → ComesTo (G.script cx) limit goal r
  only_comes [] goal r only h = absurd only
  only_comes (s ∷ []) goal r only h = subst (λ g. ComesTo (G.script cx) limit g r) only h
  only_comes (s ∷ p ∷ below) goal r only h = absurd only

module _ {D C V P F I R A T : Type 0} {G : DelegateOf D C V P F I R A T} {X : CxOf C I R A T}
    {same : I → I → Bool} {same_result : R → R → Bool} where
  end_comes : {outcome : R} {old : Cache C I R T} {e : Evaluation D C V P F I R A T} {starts : ℕ}
      {result : Result (Next R) (Fault I R)} {new : Cache C I R T} {after : Evaluation D C V P F I R A T} {later : ℕ}
      → RunEnds G X same same_result outcome old e starts result new after later
      → NewestComesTo (G.script old.cx) (G.fixpoint_overflow old.cx) e.goals outcome
      → IfOk result (λ next. IfAnswer next (NewestComesTo (G.script old.cx) (G.fixpoint_overflow old.cx) e.goals))
  end_comes {outcome = outcome} {old = old} {e = e} (EndedDone entry run reason result new after comes pop) h =
      if_ok_then result _ _ pop.popped (λ next pops.
      leaves_with (G.script old.cx) (G.fixpoint_overflow old.cx) e.goals outcome next after.goals pops.left h)
  end_comes {outcome = outcome} {old = old} {e = e} (EndedAtLimit entry run result new after comes pop) h =
      if_ok_then result _ _ pop.popped
      (λ next pops. leaves_with (G.script old.cx) (G.fixpoint_overflow old.cx) e.goals
      (G.fixpoint_overflow old.cx entry.input) next after.goals pops.left
      (limit_comes (G.script old.cx) (G.fixpoint_overflow old.cx) e.goals entry
      (G.fixpoint_overflow old.cx entry.input) comes.is_entry refl))
  end_comes (RanAgain entry run new after later comes keeps reran counted) h = tt
  end_comes (NotRunAgain entry run new after later comes keeps) h = tt

  module _ {noop : Bool} {received : Received R} {old : Cache C I R T} {e : Evaluation D C V P F I R A T} {starts : ℕ}
      (right : IsRightFor G X same old.cx received old e) (call : Call I)
      (awaits : Awaits G X same old.cx call received old e starts) where
    move_comes : {result : Result (Next R) (Fault I R)} {new : Cache C I R T} {after : Evaluation D C V P F I R A T}
        {later : ℕ} → Advanced G X same same_result noop received old e starts result new after later
        → IfOk result (λ next. IfAnswer next (NewestComesTo (G.script old.cx) (G.fixpoint_overflow old.cx) e.goals))
    move_comes (FrameFailed fault goals failed) = tt
    move_comes (Asked kind goal goals given new after later stepped asking asks) = tt
    move_comes (NotAsked kind goal goals new after later stepped fails asks) = tt
    move_comes (RunEnded outcome goals result new after later stepped runs ends) =
        let asked : Requests G X same old.cx (Done outcome) call (work_left G X old.cx e.goals) old
        (record e { goals = goals }) starts =
        requests G X same old.cx old e received old.cx refl (Done outcome) goals stepped starts starts refl
        (Done outcome) refl right call awaits in
        if_ok_then result _ _ (end_comes ends (newest_comes G X old.cx call (work_left G X old.cx e.goals) outcome
        starts e.limits_met (G.fixpoint_overflow old.cx) goals asked.asked))
        (λ next h. answer_before stepped next h)
      where
        answer_before : HasStepped G X old.cx received (Done outcome) e.goals goals → (next : Next R)
            → IfAnswer next (NewestComesTo (G.script old.cx) (G.fixpoint_overflow old.cx) goals)
            → IfAnswer next (NewestComesTo (G.script old.cx) (G.fixpoint_overflow old.cx) e.goals)
        answer_before s (Step given) h = tt
        answer_before s (Finished answer) h =
            comes_before G X old.cx (G.fixpoint_overflow old.cx) received (Done outcome) e.goals goals s answer.result h
    move_comes (Noted request goals noted stepped about notes) = tt
    move_comes (NotNoted request goals left stepped) = tt

    turn_comes : {result : Result (Next R) (Fault I R)} {new : Cache C I R T} {after : Evaluation D C V P F I R A T}
        {later : ℕ} → Turned G X same same_result noop received old e starts result new after later
        → IfOk result (λ next. IfAnswer next (NewestComesTo (G.script old.cx) (G.fixpoint_overflow old.cx) e.goals))
    turn_comes (GoesOn given mid new between after later advanced goes is first stored) = tt
    turn_comes (Answered answer mid new after later advanced goes) = move_comes advanced
    turn_comes (NotAnswered answer new after later advanced) = tt
    turn_comes (Failed fault mid new between after later advanced goes is) = tt
    turn_comes (FailedForGood fault new between after later advanced is) = tt

  -- a turn, told of a context that its cache has, too
  comes_over :
      {noop : Bool} {cx : C} {given : Received R} {mid : Cache C I R T} {between : Evaluation D C V P F I R A T}
      {now : ℕ} (context : mid.cx ≡ cx) (call : Call I) {result : Result (Next R) (Fault I R)} {new : Cache C I R T}
      {after : Evaluation D C V P F I R A T} {later : ℕ}
      (turned : Turned G X same same_result noop given mid between now result new after later)
      → IsRightFor G X same cx given mid between → Awaits G X same cx call given mid between now
      → IfOk result (λ next. IfAnswer next (NewestComesTo (G.script cx) (G.fixpoint_overflow cx) between.goals))
  comes_over {given = given} {mid = mid} {between = between} {now = now} context call {result = result} turned =
      subst (λ c. IsRightFor G X same c given mid between → Awaits G X same c call given mid between now
      → IfOk result (λ next. IfAnswer next (NewestComesTo (G.script c) (G.fixpoint_overflow c) between.goals))) context
      (λ right awaits. turn_comes right call awaits turned)

  module _ {noop : Bool} (laws : AreLaws G X same same_result) {kind : PathKind} {goal : I} {fate : Fate R}
      {old : Cache C I R T} {e : Evaluation D C V P F I R A T} {starts : ℕ}
      (outset : IsAtOutset old e) (are_runs : AreRuns (verdicts X) (G.script old.cx) old.nodes)
      (sound : AreSoundResults same (verdicts X) (G.script old.cx) old.nodes old.results) where
    ran_comes : {answer : Answer R} {new : Cache C I R T} {after : Evaluation D C V P F I R A T} {later : ℕ}
        (result : Result (Next R) (Fault I R)) → result ≡ Ok (Finished answer)
        → Ran G X same same_result noop kind goal fate old e starts result new after later
        → ComesTo (G.script old.cx) (G.fixpoint_overflow old.cx) goal answer.result
    ran_comes result is (Began goals held nodes later pushes fates holds nodes_kept one counted) = absurd cc
    ran_comes result is (NotBegun goals held later least one) = absurd cc
    ran_comes {answer = answer} result is (Then given mid between now told new after later ran turned) =
        let known = call_of goal e.root_depth.0 starts e.limits_met false false outset.new.fits in
        let begins =
        some_call_begins G X old.cx same goal e.root_depth.0 starts e.limits_met outset.new.fits old.results in
        let waits = ran_waits laws outset are_runs sound known begins ran in
        let leads : LeadsTo G X same old.cx known (work_left G X old.cx between.goals)
        between.goals (Finished answer) new after later =
        subst (λ r. IfOk r
        (λ next. LeadsTo G X same old.cx known (work_left G X old.cx between.goals) between.goals next new after later))
        is (then_leads laws outset are_runs sound known begins ran turned) in
        only_comes G X old.cx (G.fixpoint_overflow old.cx) between.goals goal answer.result leads.leads.1
        (subst (λ r. IfOk r
        (λ next. IfAnswer next (NewestComesTo (G.script old.cx) (G.fixpoint_overflow old.cx) between.goals))) is
        (comes_over (ran_keeps laws outset are_runs sound ran).context known turned
        (ran_right laws outset are_runs sound ran) waits))

-- ---- the whole call

nothing_looked_for : {H : Type 0} (looks_up in_scope : Bool) (found : Option H) (hit : H) → looks_up ≡ false
    → answered_by looks_up in_scope found ≡ Some hit → ⊥
nothing_looked_for false in_scope found hit unlooked is = absurd cc
nothing_looked_for true in_scope found hit unlooked is = absurd cc

module _ {D C V P F I R A T : Type 0} {G : DelegateOf D C V P F I R A T} {X : CxOf C I R A T}
    {same : I → I → Bool} {same_result : R → R → Bool} where
  module _ {noop looks_up : Bool} (unlooked : looks_up ≡ false) {kind : PathKind} {goal : I} {old : Cache C I R T}
      {e : Evaluation D C V P F I R A T} {starts : ℕ} where
    evaluated_comes : AreLaws G X same same_result → IsAtOutset old e → AreRuns (verdicts X) (G.script old.cx) old.nodes
        → AreSoundResults same (verdicts X) (G.script old.cx) old.nodes old.results
        → {result : Result (Answer R) (Fault I R)} {new : Cache C I R T} {after : Evaluation D C V P F I R A T}
        {later : ℕ} → Evaluated G X same same_result noop looks_up kind goal old e starts result new after later
        → IfOk result (λ answer. ComesTo (G.script old.cx) (G.fixpoint_overflow old.cx) goal answer.result)
    evaluated_comes laws outset are_runs sound (WasStored hit found usable) = absurd
        (nothing_looked_for looks_up (G.scoped old.cx goal) (found_in same old goal e.root_depth.0) hit unlooked found)
    evaluated_comes laws outset are_runs sound (WasWorkedOut (Ok answer) new after later none fated ran) =
        ran_comes laws outset are_runs sound (Ok (Finished answer)) refl ran
    evaluated_comes laws outset are_runs sound (WasWorkedOut (Err fault) new after later none fated ran) = tt

    evaluated_starts : G.counts ≡ true → {result : Result (Answer R) (Fault I R)} {new : Cache C I R T}
        {after : Evaluation D C V P F I R A T} {later : ℕ}
        → Evaluated G X same same_result noop looks_up kind goal old e starts result new after later
        → IfOk result (λ answer. HasCounted G.last starts later 1)
    evaluated_starts counts (WasStored hit found usable) = absurd
        (nothing_looked_for looks_up (G.scoped old.cx goal) (found_in same old goal e.root_depth.0) hit unlooked found)
    evaluated_starts counts (WasWorkedOut (Ok answer) new after later none fated ran) = ran_counts counts ran
    evaluated_starts counts (WasWorkedOut (Err fault) new after later none fated ran) = tt

  module _ {call : Called C I R A T} (ran : HasRun G X same same_result call) (unlooked : call.looks_up ≡ false) where
    pub run_comes : IfOk call.result (λ answer.
        ComesTo (G.script call.before.cache.cx) (G.fixpoint_overflow call.before.cache.cx) call.goal answer.result)
    run_comes = evaluated_comes unlooked ran.laws ran.at_outset ran.was_sound.runs ran.was_sound.results ran.evaluated

    pub run_starts : G.counts ≡ true
        → IfOk call.result (λ answer. HasCounted G.last call.before.starts call.after.starts 1)
    run_starts counts = evaluated_starts unlooked counts ran.evaluated
