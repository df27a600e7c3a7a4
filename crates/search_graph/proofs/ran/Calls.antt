-- What follows of a whole call, turn by turn.
use Rattle.std.proofs.Common.{◌≡◌, ◌∙◌, ◌<◌, ◌^◌, ℕ, Bool, false, [], length, List, Result, Ok, Err, IfOk, IfErr, OnOk}
use Rattle.std.proofs.Common.{refl, sym, subst, arith}
use Rattle.run_records.specs.declared.runs.Fate.{Fate}
use Rattle.run_records.specs.declared.runs.Fate.TheVariants as becomes
use Rattle.between_moves.proofs.Keeping.{appending_keeps, cache_stays}
use Rattle.between_moves.proofs.Scopes.{HoldScopesNext}
use Rattle.between_moves.specs.Scopes.{HoldScopes}
use Rattle.search_context.specs.declared.context.Answer.{Answer}
use Rattle.search_graph.specs.Laws.{AreLaws}
use Rattle.search_graph.proofs.ran.Turns.{turned_cache, turned_caused, turned_drafts, turned_goals, turned_leads}
use Rattle.search_graph.proofs.ran.Turns.{turned_right, turned_scopes, turned_stops}
use Rattle.search_graph.proofs.turns.Beginning.{begins_right, begins_waiting, never_pushed}
use Rattle.search_graph.proofs.turns.KeptFates.{first_fates, not_stored, only_meets, only_stores, then_fates}
use Rattle.search_graph.proofs.turns.KeptFates.{then_recorded, then_spared}
use Rattle.search_graph.proofs.turns.Loops.{call_of, only_has_graph, only_one, some_call_begins}
use Rattle.search_graph.proofs.turns.Turns.{begins_drafts, then_turns}
use Rattle.search_graph.specs.Below.{AreFrom, AreRuns, AreSoundResults, Awaits, Begins, Cache, Call, CxOf, DelegateOf}
use Rattle.search_graph.specs.Below.{EndsWith, Fault, fates_of, Finished, HasGraph, HasReply, HaveExpected, IsCaused}
use Rattle.search_graph.specs.Below.{IsFated, IsRightFor, KeepsCache, LeadsTo, Next, OpenGoal, OutOfMemory, PathKind}
use Rattle.search_graph.specs.Below.{Received, Step, StopsWith, verdicts, work_left}
use Rattle.search_graph.specs.Calls.{Evaluates, IsGrounded, IsOfFate, MovesGoals, Spares}
use Rattle.search_graph.specs.Fates.{KeepsFates}
use Rattle.search_graph.specs.Ran.{Began, ended, IfEnd, IfStep, NotBegun, Ran, Then, Turned}
use Rattle.search_graph.specs.Worked.{WorksOut}
use Rattle.search_graph.specs.Turns.{HasDrafts, IsAtOutset, IsRightTurn}
use Rattle.search_rules.proofs.records.EarlierNodes.{stay_pushed}
use Rattle.search_state.specs.declared.evaluation.Evaluation.{Evaluation}

-- what holds of what comes next holds of the reply, if it is one, and of the answer
pub step_of : {R E : Type 0} (result : Result (Next R) E) (Q : Next R → Type 0) (P : Received R → Type 0)
    → IfOk result Q → ((given : Received R) → Q (Step given) → P given) → IfStep result P
step_of (Ok (Step given)) Q P h from = from given h
step_of (Ok (Finished answer)) Q P h from = tt
step_of (Err fault) Q P h from = tt

end_of : {R E : Type 0} (result : Result (Next R) E) (Q : Next R → Type 0) (P : Answer R → Type 0) → IfOk result Q
    → ((answer : Answer R) → Q (Finished answer) → P answer) → IfEnd result P
end_of (Ok (Step given)) Q P h from = tt
end_of (Ok (Finished answer)) Q P h from = from answer h
end_of (Err fault) Q P h from = tt

-- and both do
end_both : {R E : Type 0} (result : Result (Next R) E) (P Q B : Answer R → Type 0) → IfEnd result P → IfEnd result Q
    → ((answer : Answer R) → P answer → Q answer → B answer) → IfEnd result B
end_both (Ok (Step given)) P Q B p q from = tt
end_both (Ok (Finished answer)) P Q B p q from = from answer p q
end_both (Err fault) P Q B p q from = tt

step_if : {R E Q P : Type 0} (result : Result (Next R) E) → OnOk result Q → (Q → P) → IfStep result (λ given. P)
step_if (Ok (Step given)) h from = from h
step_if (Ok (Finished answer)) h from = tt
step_if (Err fault) h from = tt

-- a turn, told of a context that its cache has, too
module _ {D C V P F I R A T : Type 0} {G : DelegateOf D C V P F I R A T} {X : CxOf C I R A T} {same : I → I → Bool}
    {same_result : R → R → Bool} {noop : Bool} (laws : AreLaws G X same same_result) {cx : C} {given : Received R}
    {mid : Cache C I R T} {between : Evaluation D C V P F I R A T} {now : ℕ} (context : mid.cx ≡ cx)
    {result : Result (Next R) (Fault I R)} {new : Cache C I R T} {after : Evaluation D C V P F I R A T} {later : ℕ}
    (turned : Turned G X same same_result noop given mid between now result new after later) where
  goals_over : OnOk result
      (MovesGoals same (IsFated (G.scoped cx) (G.script cx) same mid.results noop) mid.nodes between.goals after.goals)
  goals_over =
      subst (λ c. OnOk result (MovesGoals same (IsFated (G.scoped c) (G.script c) same mid.results noop)
      mid.nodes between.goals after.goals)) context
      (turned_goals turned)

  module _ (right : IsRightFor G X same cx given mid between) where
    right_over : IfOk result (λ next. IsRightTurn G X same cx between.goals next new after)
    right_over =
        subst (λ c. IsRightFor G X same c given mid between
        → IfOk result (λ next. IsRightTurn G X same c between.goals next new after)) context
        (λ here. turned_right laws here turned) right

    caused_over : (call : Call I) → Awaits G X same cx call given mid between now → IfErr result (IsCaused G X same new)
    caused_over call awaits =
        subst (λ c. IsRightFor G X same c given mid between → Awaits G X same c call given mid between now
        → IfErr result (IsCaused G X same new)) context
        (λ here there. turned_caused laws here call there.waiting turned) right awaits

    module _ (call : Call I) (awaits : Awaits G X same cx call given mid between now) where
      leads_over : IfOk result
          (λ next. LeadsTo G X same cx call (work_left G X cx between.goals) between.goals next new after later)
      leads_over =
          subst (λ c. IsRightFor G X same c given mid between
          → Awaits G X same c call given mid between now → IfOk result
          (λ next. LeadsTo G X same c call (work_left G X c between.goals) between.goals next new after later)) context
          (λ here there. turned_leads laws here call there turned) right awaits

      stops_over : IfErr result (λ fault. StopsWith G X same cx call fault new after later)
      stops_over =
          subst (λ c. IsRightFor G X same c given mid between → Awaits G X same c call given mid between now
          → IfErr result (λ fault. StopsWith G X same c call fault new after later)) context
          (λ here there. turned_stops laws here call there turned) right awaits

-- what a call has kept so far of the cache, and the drafts, as long as it goes on
pub record IsKept {D C V P F I R A T : Type 0} (same : I → I → Bool) (old : Cache C I R T)
    (goals : List (OpenGoal C F I R A T)) (result : Result (Next R) (Fault I R)) (new : Cache C I R T)
    (after : Evaluation D C V P F I R A T) : Type 0 where
  pub keeps : KeepsCache same goals old new
  pub drafts : IfStep result (λ given. HasDrafts same new after × (after.drafts.first ≡ length old.nodes))

-- the call of which nothing is known
abbrev some_call : {D C V P F I R A T : Type 0} (goal : I) (e : Evaluation D C V P F I R A T) (starts : ℕ)
    → e.root_depth.0 < 2 ^ 64 → Call I
some_call goal e starts fits = call_of goal e.root_depth.0 starts e.limits_met false false fits

module _ {D C V P F I R A T : Type 0} {G : DelegateOf D C V P F I R A T} {X : CxOf C I R A T} {same : I → I → Bool}
    {same_result : R → R → Bool} {noop : Bool} (laws : AreLaws G X same same_result) {kind : PathKind} {goal : I}
    {fate : Fate R} {old : Cache C I R T} {e : Evaluation D C V P F I R A T} {starts : ℕ}
    (outset : IsAtOutset old e) (are_runs : AreRuns (verdicts X) (G.script old.cx) old.nodes)
    (sound : AreSoundResults same (verdicts X) (G.script old.cx) old.nodes old.results) where
  -- ---- cache and drafts

  pub kept :
      {result : Result (Next R) (Fault I R)} {new : Cache C I R T} {after : Evaluation D C V P F I R A T} {later : ℕ}
      → Ran G X same same_result noop kind goal fate old e starts result new after later
      → IsKept same old e.goals result new after
  kept (Began goals held nodes later pushes fates holds nodes_kept one counted) = record {
    keeps = appending_keeps same e.goals old (record old { nodes = nodes }) refl nodes_kept;
    drafts = (
      begins_drafts X same (G.script old.cx) old (record old { nodes = nodes }) e
          (record e { goals = goals; scopes = held }) outset.no_drafts are_runs sound refl nodes_kept refl
          (stay_pushed G X old.cx old.nodes e.goals goals goal kind e.root_depth nodes pushes (length old.nodes)
          (omega arith) (subst (AreFrom (length old.nodes)) (sym outset.new.no_goals) tt)),
      outset.no_drafts.first,
    );
  }
  kept (NotBegun goals held later least one) = record { keeps = cache_stays same e.goals old; drafts = tt }
  kept (Then given mid between now result new after later ran turned) =
      let before = kept ran in
      record {
        keeps = then_turns same e.goals old mid new between before.drafts.1 before.keeps
            (turned_cache before.drafts.0 turned);
        drafts = step_of result _ _ (turned_drafts before.drafts.0 turned)
            (λ next has. (has.has, has.first ∙ before.drafts.1));
      }

  pub ran_keeps :
      {result : Result (Next R) (Fault I R)} {new : Cache C I R T} {after : Evaluation D C V P F I R A T} {later : ℕ}
      → Ran G X same same_result noop kind goal fate old e starts result new after later
      → KeepsCache same e.goals old new
  ran_keeps ran = (kept ran).keeps

  -- ---- all is right

  pub ran_right :
      {result : Result (Next R) (Fault I R)} {new : Cache C I R T} {after : Evaluation D C V P F I R A T} {later : ℕ}
      → Ran G X same same_result noop kind goal fate old e starts result new after later
      → IfStep result (λ given. IsRightFor G X same old.cx given new after)
  ran_right (Began goals held nodes later pushes fates holds nodes_kept one counted) =
      begins_right G X same old.cx kind goal old e outset.new e.root_depth goals held nodes pushes sound
  ran_right (NotBegun goals held later least one) = tt
  ran_right (Then given mid between now result new after later ran turned) =
      step_of result (λ next. IsRightTurn G X same old.cx between.goals next new after) _
      (right_over laws (ran_keeps ran).context turned (ran_right ran))
      (λ next on. on)

  -- ---- the call goes on,

  module _ (call : Call I) (at : Begins G X old.cx same call goal e.root_depth.0 starts e.limits_met old.results) where
    pub ran_waits :
        {result : Result (Next R) (Fault I R)} {new : Cache C I R T} {after : Evaluation D C V P F I R A T}
        {later : ℕ} → Ran G X same same_result noop kind goal fate old e starts result new after later
        → IfStep result (λ given. Awaits G X same old.cx call given new after later)
    ran_waits (Began goals held nodes later pushes fates holds nodes_kept one counted) = begins_waiting G X same old.cx
        kind goal old e outset.new e.root_depth goals held nodes pushes starts later one counted call at
    ran_waits (NotBegun goals held later least one) = tt
    ran_waits (Then given mid between now result new after later ran turned) =
        step_of result
        (λ next. LeadsTo G X same old.cx call (work_left G X old.cx between.goals) between.goals next new after later) _
        (leads_over laws (ran_keeps ran).context turned (ran_right ran) call (ran_waits ran))
        (λ next on. record { waiting = on.leads.waiting; answers = on.answers })

    -- as each turn leads on
    pub then_leads :
        {given : Received R} {mid : Cache C I R T} {between : Evaluation D C V P F I R A T} {now : ℕ}
        → Ran G X same same_result noop kind goal fate old e starts (Ok (Step given)) mid between now
        → {result : Result (Next R) (Fault I R)} {new : Cache C I R T} {after : Evaluation D C V P F I R A T}
        {later : ℕ} → Turned G X same same_result noop given mid between now result new after later
        → IfOk result
        (λ next. LeadsTo G X same old.cx call (work_left G X old.cx between.goals) between.goals next new after later)
    then_leads ran turned =
        leads_over laws (ran_keeps ran).context turned (ran_right ran) call (ran_waits ran)

    -- or it stops
    pub ran_stops :
        {result : Result (Next R) (Fault I R)} {new : Cache C I R T} {after : Evaluation D C V P F I R A T}
        {later : ℕ} → Ran G X same same_result noop kind goal fate old e starts result new after later
        → IfErr result (λ fault. StopsWith G X same old.cx call fault new after later)
    ran_stops (Began goals held nodes later pushes fates holds nodes_kept one counted) = tt
    ran_stops (NotBegun goals held later least one) = never_pushed G X same old.cx kind goal old e outset.new
        e.root_depth old (record e { goals = goals; scopes = held }) starts later refl refl least one call at
    ran_stops (Then given mid between now result new after later ran turned) =
        stops_over laws (ran_keeps ran).context turned (ran_right ran) call (ran_waits ran)

  -- ---- what becomes of the goals' results

  module _ (fated : IsFated (G.scoped old.cx) (G.script old.cx) same old.results noop
      (record { goal = goal; depth = e.root_depth.0; fate = fate })) where
    pub ran_fates :
        {result : Result (Next R) (Fault I R)} {new : Cache C I R T} {after : Evaluation D C V P F I R A T}
        {later : ℕ} → Ran G X same same_result noop kind goal fate old e starts result new after later
        → IfStep result (λ given.
        KeepsFates (G.scoped old.cx) (G.script old.cx) same noop goal fate old.results after.goals new.results)
    ran_fates (Began goals held nodes later pushes fates holds nodes_kept one counted) =
        first_fates (G.scoped old.cx) (G.script old.cx) same noop goal fate old.results e.root_depth.0 e.goals goals
        old.results outset.new.no_goals fates fated refl
    ran_fates (NotBegun goals held later least one) = tt
    ran_fates (Then given mid between now result new after later ran turned) =
        let h = ran_fates ran in
        let before = kept ran in
        let turns = turned_cache before.drafts.0 turned in
        step_if result (goals_over laws before.keeps.context turned)
        (λ moves. then_fates (G.scoped old.cx) (G.script old.cx) same noop goal fate old.results between.goals
        mid.results new.results h turns.changes turns.results after.goals moves.fates)

    pub ran_spares :
        {result : Result (Next R) (Fault I R)} {new : Cache C I R T} {after : Evaluation D C V P F I R A T}
        {later : ℕ} → Ran G X same same_result noop kind goal fate old e starts result new after later
        → Spares same noop fate goal old.results new.results
    ran_spares (Began goals held nodes later pushes fates holds nodes_kept one counted) =
        record { recorded = λ records. refl; spared = λ unstored place. refl }
    ran_spares (NotBegun goals held later least one) =
        record { recorded = λ records. refl; spared = λ unstored place. refl }
    ran_spares (Then given mid between now result new after later ran turned) =
        let h = ran_fates ran in
        let before = kept ran in
        let turns = turned_cache before.drafts.0 turned in
        record {
          recorded = then_recorded (G.scoped old.cx) (G.script old.cx) same noop goal fate old.results between.goals
              mid.results new.results h turns.changes;
          spared = λ unstored. then_spared (G.scoped old.cx) (G.script old.cx) same noop goal fate old.results
              between.goals mid.results new.results h turns.changes (not_stored fate unstored);
        }

    -- ---- the call has its answer

    module _ (call : Call I)
        (at : Begins G X old.cx same call goal e.root_depth.0 starts e.limits_met old.results) where
      pub ran_ends :
          {result : Result (Next R) (Fault I R)} {new : Cache C I R T} {after : Evaluation D C V P F I R A T}
          {later : ℕ} → Ran G X same same_result noop kind goal fate old e starts result new after later
          → IfEnd result
          (λ answer. EndsWith G X same old.cx (fate ≡ becomes.Stored) (IsOfFate fate) call answer new after later)
      ran_ends (Began goals held nodes later pushes fates holds nodes_kept one counted) = tt
      ran_ends (NotBegun goals held later least one) = tt
      ran_ends (Then given mid between now result new after later ran turned) =
          let h = ran_fates ran in
          end_of result
          (λ next. LeadsTo G X same old.cx call (work_left G X old.cx between.goals) between.goals next new after later)
          _ (then_leads call at ran turned)
          (λ answer on. let only = only_one G X old.cx between.goals call.top on.leads.1 in record {
            ended = on.leads.2;
            store = on.answers.store;
            remembered = λ is_stored. on.remembered (only_stores (G.scoped old.cx) (G.script old.cx) same noop goal fate
                old.results between.goals only.0 only.1 is_stored h.oldest);
            compared = λ stored is_compared. only_meets (G.scoped old.cx) (G.script old.cx) same noop goal fate
                old.results between.goals only.0 only.1 answer.result stored is_compared h.oldest on.compared;
          })

  -- ---- the answer has its graph, and a fault its cause

  pub ran_has_graph :
      {result : Result (Next R) (Fault I R)} {new : Cache C I R T} {after : Evaluation D C V P F I R A T} {later : ℕ}
      → Ran G X same same_result noop kind goal fate old e starts result new after later
      → IfEnd result (λ answer. HasGraph (verdicts X) new.nodes goal answer.result answer.node)
  ran_has_graph (Began goals held nodes later pushes fates holds nodes_kept one counted) = tt
  ran_has_graph (NotBegun goals held later least one) = tt
  ran_has_graph (Then given mid between now result new after later ran turned) =
      let begins =
      some_call_begins G X old.cx same goal e.root_depth.0 starts e.limits_met outset.new.fits old.results in
      end_both result (λ answer. LeadsTo G X same old.cx (some_call goal e starts outset.new.fits)
      (work_left G X old.cx between.goals) between.goals (Finished answer) new after later)
      (λ answer. IsRightTurn G X same old.cx between.goals (Finished answer) new after) _
      (end_of result (λ next. LeadsTo G X same old.cx (some_call goal e starts outset.new.fits)
      (work_left G X old.cx between.goals) between.goals next new after later)
      _ (then_leads (some_call goal e starts outset.new.fits) begins ran turned) (λ answer on. on))
      (end_of result (λ next. IsRightTurn G X same old.cx between.goals next new after) _
      (right_over laws (ran_keeps ran).context turned (ran_right ran)) (λ answer on. on))
      (λ answer on right. only_has_graph G X old.cx new.nodes between.goals [] goal answer on.leads.1 right)

  pub ran_caused :
      {result : Result (Next R) (Fault I R)} {new : Cache C I R T} {after : Evaluation D C V P F I R A T} {later : ℕ}
      → Ran G X same same_result noop kind goal fate old e starts result new after later
      → IfErr result (IsCaused G X same new)
  ran_caused (Began goals held nodes later pushes fates holds nodes_kept one counted) = tt
  ran_caused (NotBegun goals held later least one) = OutOfMemory refl
  ran_caused (Then given mid between now result new after later ran turned) =
      let begins =
      some_call_begins G X old.cx same goal e.root_depth.0 starts e.limits_met outset.new.fits old.results in
      caused_over laws (ran_keeps ran).context turned (ran_right ran) (some_call goal e starts outset.new.fits)
      (ran_waits (some_call goal e starts outset.new.fits) begins ran)

  -- ---- which goals hold scopes

  pub ran_scopes :
      {result : Result (Next R) (Fault I R)} {new : Cache C I R T} {after : Evaluation D C V P F I R A T} {later : ℕ}
      → Ran G X same same_result noop kind goal fate old e starts result new after later
      → IfOk result (λ next. HoldScopesNext next after.goals after.scopes)
  ran_scopes (Began goals held nodes later pushes fates holds nodes_kept one counted) =
      subst (λ fs. HoldScopes fs held) (sym fates)
      (e.scopes, holds, subst (λ gs. HoldScopes (fates_of gs) e.scopes) (sym outset.new.no_goals) outset.new.no_scopes)
  ran_scopes (NotBegun goals held later least one) = tt
  ran_scopes (Then given mid between now result new after later ran turned) = turned_scopes (ran_scopes ran) turned

  -- ---- so the next turn can be taken, which leaves less work

  module _ {given : Received R} {mid : Cache C I R T} {between : Evaluation D C V P F I R A T} {now : ℕ}
      (ran : Ran G X same same_result noop kind goal fate old e starts (Ok (Step given)) mid between now) where
    pub ran_drafts : HasDrafts same mid between
    ran_drafts = (kept ran).drafts.0

    pub ran_reply : HasReply G X same mid.cx given mid between now
    ran_reply =
        subst (λ c. HasReply G X same c given mid between now) (sym (ran_keeps ran).context)
        (record {
          call = (some_call goal e starts outset.new.fits);
          waiting = (ran_waits (some_call goal e starts outset.new.fits) (some_call_begins G X old.cx same goal
              e.root_depth.0 starts e.limits_met outset.new.fits old.results) ran).waiting;
          right = ran_right ran;
        })

    pub ran_expected : IsFated (G.scoped old.cx) (G.script old.cx) same old.results noop
        (record { goal = goal; depth = e.root_depth.0; fate = fate })
        → HaveExpected (G.scoped mid.cx) (G.script mid.cx) same mid.results (fates_of between.goals)
    ran_expected fated = subst (λ c. HaveExpected (G.scoped c) (G.script c) same mid.results (fates_of between.goals))
        (sym (ran_keeps ran).context) (ran_fates fated ran).expected

    pub ran_falls :
        {next : Received R} {new : Cache C I R T} {after : Evaluation D C V P F I R A T} {later : ℕ}
        → Turned G X same same_result noop given mid between now (Ok (Step next)) new after later
        → work_left G X old.cx after.goals < work_left G X old.cx between.goals
    ran_falls turned = (then_leads (some_call goal e starts outset.new.fits) (some_call_begins G X old.cx same goal
        e.root_depth.0 starts e.limits_met outset.new.fits old.results) ran turned).leads.falls

-- ---- what is promised of a call that has ended, for its own kind of results

module _ {D C V P F I R A T : Type 0} {G : DelegateOf D C V P F I R A T} {X : CxOf C I R A T} {same : I → I → Bool}
    {same_result : R → R → Bool} {noop : Bool} (laws : AreLaws G X same same_result) {kind : PathKind} {goal : I}
    {fate : Fate R} {old : Cache C I R T} {e : Evaluation D C V P F I R A T} {starts : ℕ}
    (outset : IsAtOutset old e) (are_runs : AreRuns (verdicts X) (G.script old.cx) old.nodes)
    (sound : AreSoundResults same (verdicts X) (G.script old.cx) old.nodes old.results)
    (fated : IsFated (G.scoped old.cx) (G.script old.cx) same old.results noop
    (record { goal = goal; depth = e.root_depth.0; fate = fate }))
    {new : Cache C I R T} {after : Evaluation D C V P F I R A T} {later : ℕ} where
  call_evaluates : (result : Result (Answer R) (Fault I R))
      → Ran G X same same_result noop kind goal fate old e starts (ended result) new after later
      → Evaluates G X same old.cx (fate ≡ becomes.Stored) (IsOfFate fate) goal old e starts result new after later
  call_evaluates (Ok answer) ran =
      record { ended = λ call at. ran_ends laws outset are_runs sound fated call at ran; stopped = λ call at. tt }
  call_evaluates (Err fault) ran =
      record { ended = λ call at. tt; stopped = λ call at. ran_stops laws outset are_runs sound call at ran }

  call_is_grounded : (result : Result (Answer R) (Fault I R))
      → Ran G X same same_result noop kind goal fate old e starts (ended result) new after later
      → IsGrounded G X same goal new result
  call_is_grounded (Ok answer) ran = record {
    has_graph = ran_has_graph laws outset are_runs sound ran;
    caused = tt;
  }
  call_is_grounded (Err fault) ran = record {
    has_graph = tt;
    caused = ran_caused laws outset are_runs sound ran;
  }

  pub works_out : (result : Result (Answer R) (Fault I R))
      → Ran G X same same_result noop kind goal fate old e starts (ended result) new after later
      → WorksOut G X same noop goal fate old e starts result new after later
  works_out result ran = record {
    evaluates = call_evaluates result ran;
    spares = ran_spares laws outset are_runs sound fated ran;
    grounded = call_is_grounded result ran;
    keeps = ran_keeps laws outset are_runs sound ran;
  }
