-- The goals under evaluation are reached by questions from the call's goal.
use Rattle.std.proofs.Common.{◌≡◌, ◌<◌, ℕ, Bool, false, [], ◌∷◌, length, List, Result, OnOk, arith, refl, sym, subst}
use Rattle.evaluations.proofs.Mirrors.{requested_by}
use Rattle.run_records.specs.declared.runs.Fate.{Fate}
use Rattle.search_ends.proofs.moves.Ended.{ended_leads}
use Rattle.search_ends.proofs.moves.EndedGoals.{led_fates}
use Rattle.search_graph.proofs.ran.Calls.{ran_keeps, ran_right, ran_waits}
use Rattle.search_graph.proofs.ran.Moves.{on_ok_if}
use Rattle.search_graph.proofs.requests.Advancing.{requests}
use Rattle.search_graph.proofs.turns.Loops.{call_of, some_call_begins, stepped_some}
use Rattle.search_graph.specs.Below.{AreRuns, AreSoundResults, Awaits, Cache, Call, CxOf, DelegateOf, Evaluate, Fated}
use Rattle.search_graph.specs.Below.{fates_of, Fault, HasAsked, HasStepped, IsRightFor, MovesFates, Next, OpenGoal}
use Rattle.search_graph.specs.Below.{PathKind, Received, Reply, Request, seen, limits, bound, IsCounted, Stood}
use Rattle.search_graph.specs.Below.{verdicts, work_left}
use Rattle.search_graph.specs.Laws.{AreLaws}
use Rattle.search_graph.specs.Ran.{Advanced, Answered, Asked, Began, Failed, FailedForGood, FrameFailed, GoesOn}
use Rattle.search_graph.specs.Ran.{NotAnswered, NotAsked, NotBegun, Noted, NotNoted, Ran, RunEnded, Then, Turned}
use Rattle.search_graph.specs.Reaching.{AsksNewest, here, MayAsk, MayReach, on}
use Rattle.search_graph.specs.Turns.{IsAtOutset}
use Rattle.search_questions.proofs.moves.AskedGoals.{asked_fates}
use Rattle.search_rules.proofs.moves.Fates.{fates_of_candidates, fates_stepped}
use Rattle.search_rules.specs.Fates.{Pop, Push, Stay}
use Rattle.search_state.specs.declared.evaluation.Evaluation.{Evaluation}

module _ {I R : Type 0} (scripts : I → List (Reply R) → Request I R) where
  pub reaches_on : {x y z : I} → MayReach scripts x y → MayReach scripts y z → MayReach scripts x z
  reaches_on here then = then
  reaches_on (on asks rest) then = on asks (reaches_on rest then)

  pub asked_reached : {x y : I} {kind : PathKind} → MayAsk scripts x kind y → MayReach scripts x y
  asked_reached asks = on asks here

-- the question that is asked is one of the newest goal's script
pub asks_newest :
    {D C V P F I R A T : Type 0} (G : DelegateOf D C V P F I R A T) (X : CxOf C I R A T) (cx : C) (call : Call I)
    (ahead : ℕ) (kind : PathKind) (goal : I) (goals : List (OpenGoal C F I R A T)) (starts : ℕ) (met : Bool)
    → HasAsked G X cx call ahead (Evaluate kind goal) goals starts met → AsksNewest (G.script cx) goals kind goal
asks_newest G X cx call ahead kind goal [] starts met h = absurd h.asked.mirror
asks_newest G X cx call ahead kind goal (s ∷ below) starts met h =
    let by = requested_by (seen G X cx) (Stood G X cx) (G.script cx) (limits G X cx call) (IsCounted G X cx call)
    call.top (bound G X cx call) ahead (Evaluate kind goal) s below starts met h.asked in
    record { replies = by.0; fitting = by.2; asks = by.3 }

module _ {I R : Type 0} (scripts : I → List (Reply R) → Request I R) (top : I) where
  -- questions lead from the first goal to each of these
  abbrev pub AreReached : List (Fated I R) → Type 0
  AreReached [] = Unit {0}
  AreReached (s ∷ below) = MayReach scripts top s.goal × AreReached below

  -- a move that pushes none but reached goals
  still_reached : (same : I → I → Bool) (old new : List (Fated I R))
      → MovesFates same (λ s. MayReach scripts top s.goal) old new → AreReached old → AreReached new
  still_reached same old new (Stay is) all = subst AreReached (sym is) all
  still_reached same old new (Push s p below was absent reached is) all = subst AreReached (sym is) (reached, all)
  still_reached same old new (Pop s was) all = (subst AreReached was all).1

  pub asked_by_newest : {X F A T : Type 0} (kind : PathKind) (goal : I) (goals : List (OpenGoal X F I R A T))
      → 0 < length goals → AsksNewest scripts goals kind goal → AreReached (fates_of goals) → MayReach scripts top goal
  asked_by_newest kind goal [] some asks all = absurd (omega (arith, some))
  asked_by_newest kind goal (s ∷ below) some asks all = reaches_on scripts all.0 (asked_reached scripts asks)

-- a frame's step leaves the goals as they are
pub reached_stepped :
    {D C V P F I R A T : Type 0} {G : DelegateOf D C V P F I R A T} {X : CxOf C I R A T} {cx : C}
    {received : Received R} {request : Request I R} {old new : List (OpenGoal C F I R A T)} (top : I)
    → HasStepped G X cx received request old new → AreReached (G.script cx) top (fates_of old)
    → AreReached (G.script cx) top (fates_of new)
reached_stepped {G = G} {X = X} {cx = cx} {received = received} {request = request}
    {old = old} {new = new} top stepped all =
    subst (AreReached (G.script cx) top) (sym (fates_stepped G X cx old new received request stepped)) all

module _ {D C V P F I R A T : Type 0} {G : DelegateOf D C V P F I R A T} {X : CxOf C I R A T} {same : I → I → Bool}
    {same_result : R → R → Bool} {noop : Bool} {received : Received R} {old : Cache C I R T}
    {e : Evaluation D C V P F I R A T} {starts : ℕ} (right : IsRightFor G X same old.cx received old e) (call : Call I)
    (awaits : Awaits G X same old.cx call received old e starts)
    (top : I) (all : AreReached (G.script old.cx) top (fates_of e.goals)) where
  move_reaches : {result : Result (Next R) (Fault I R)} {new : Cache C I R T} {after : Evaluation D C V P F I R A T}
      {later : ℕ} → Advanced G X same same_result noop received old e starts result new after later
      → OnOk result (AreReached (G.script old.cx) top (fates_of after.goals))
  move_reaches (FrameFailed fault goals failed) = tt
  move_reaches (Asked kind goal goals given new after later stepped asking asks) =
      let asked = requests G X same old.cx old e received old.cx refl (Evaluate kind goal) goals stepped starts starts
      refl (Evaluate kind goal) refl right call awaits in
      let some = stepped_some G X old.cx received (Evaluate kind goal) e.goals goals stepped in
      let newest =
      asks_newest G X old.cx call (work_left G X old.cx e.goals) kind goal goals starts e.limits_met asked.asked in
      still_reached (G.script old.cx) top same (fates_of goals) (fates_of after.goals)
      (asked_fates G X same old.cx (λ s. MayReach (G.script old.cx) top s.goal) kind goal old
      (record e { goals = goals }) starts noop given new after later some
      (λ depth fate fated.
      asked_by_newest (G.script old.cx) top kind goal goals some newest (reached_stepped top stepped all)) asking)
      (reached_stepped top stepped all)
  move_reaches (NotAsked kind goal goals new after later stepped fails asks) = tt
  move_reaches (RunEnded outcome goals result new after later stepped runs ends) =
      on_ok_if result _ (ended_leads ends)
      (λ next leads. still_reached (G.script old.cx) top same (fates_of goals) (fates_of after.goals)
      (led_fates G X same old.cx same_result (λ s. MayReach (G.script old.cx) top s.goal) outcome old
      (record e { goals = goals }) next new after leads) (reached_stepped top stepped all))
  move_reaches (Noted request goals noted stepped about notes) = subst (AreReached (G.script old.cx) top)
      (sym (fates_of_candidates request goals noted notes)) (reached_stepped top stepped all)
  move_reaches (NotNoted request goals left stepped) = tt

  turn_reaches : {result : Result (Next R) (Fault I R)} {new : Cache C I R T} {after : Evaluation D C V P F I R A T}
      {later : ℕ} → Turned G X same same_result noop received old e starts result new after later
      → OnOk result (AreReached (G.script old.cx) top (fates_of after.goals))
  turn_reaches (GoesOn given mid new between after later advanced goes is first stored) =
      subst (λ (a : Evaluation D C V P F I R A T). AreReached (G.script old.cx) top (fates_of a.goals))
      (sym is) (move_reaches advanced)
  turn_reaches (Answered answer mid new after later advanced goes) = move_reaches advanced
  turn_reaches (NotAnswered answer new after later advanced) = tt
  turn_reaches (Failed fault mid new between after later advanced goes is) = tt
  turn_reaches (FailedForGood fault new between after later advanced is) = tt

-- a turn, told of a context that its cache has, too
reaches_over :
    {D C V P F I R A T : Type 0} {G : DelegateOf D C V P F I R A T} {X : CxOf C I R A T} {same : I → I → Bool}
    {same_result : R → R → Bool} {noop : Bool} {cx : C} {given : Received R} {mid : Cache C I R T}
    {between : Evaluation D C V P F I R A T} {now : ℕ} (context : mid.cx ≡ cx) (call : Call I) (top : I)
    {result : Result (Next R) (Fault I R)} {new : Cache C I R T} {after : Evaluation D C V P F I R A T} {later : ℕ}
    (turned : Turned G X same same_result noop given mid between now result new after later)
    → IsRightFor G X same cx given mid between → Awaits G X same cx call given mid between now
    → AreReached (G.script cx) top (fates_of between.goals)
    → OnOk result (AreReached (G.script cx) top (fates_of after.goals))
reaches_over {G = G} {X = X} {same = same} {given = given} {mid = mid} {between = between} {now = now} context call
    top {result = result} {after = after} turned =
    subst (λ c. IsRightFor G X same c given mid between → Awaits G X same c call given mid between now
    → AreReached (G.script c) top (fates_of between.goals)
    → OnOk result (AreReached (G.script c) top (fates_of after.goals))) context
    (λ right awaits all. turn_reaches right call awaits top all turned)

module _ {D C V P F I R A T : Type 0} {G : DelegateOf D C V P F I R A T} {X : CxOf C I R A T} {same : I → I → Bool}
    {same_result : R → R → Bool} {noop : Bool} (laws : AreLaws G X same same_result) {kind : PathKind} {goal : I}
    {fate : Fate R} {old : Cache C I R T} {e : Evaluation D C V P F I R A T} {starts : ℕ}
    (outset : IsAtOutset old e) (are_runs : AreRuns (verdicts X) (G.script old.cx) old.nodes)
    (sound : AreSoundResults same (verdicts X) (G.script old.cx) old.nodes old.results) where
  pub ran_reaches :
      {result : Result (Next R) (Fault I R)} {new : Cache C I R T} {after : Evaluation D C V P F I R A T} {later : ℕ}
      → Ran G X same same_result noop kind goal fate old e starts result new after later
      → OnOk result (AreReached (G.script old.cx) goal (fates_of after.goals))
  ran_reaches (Began goals held nodes later pushes fates holds nodes_kept one counted) =
      subst (AreReached (G.script old.cx) goal) (sym fates) (
        here,
        subst (λ (l : List (OpenGoal C F I R A T)). AreReached (G.script old.cx) goal (fates_of l))
            (sym outset.new.no_goals) tt,
      )
  ran_reaches (NotBegun goals held later least one) = tt
  ran_reaches (Then given mid between now result new after later ran turned) =
      let known = call_of goal e.root_depth.0 starts e.limits_met false false outset.new.fits in
      let begins =
      some_call_begins G X old.cx same goal e.root_depth.0 starts e.limits_met outset.new.fits old.results in
      reaches_over (ran_keeps laws outset are_runs sound ran).context known goal turned
      (ran_right laws outset are_runs sound ran)
      (ran_waits laws outset are_runs sound known begins ran) (ran_reaches ran)
