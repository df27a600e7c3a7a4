-- What follows of a whole call where two runs of a goal are enough, turn by turn.
use Rattle.std.proofs.Common.{◌≡◌, ℕ, Bool, false, Result, Ok, Err, IfOk, OnErr, subst}
use Rattle.run_records.specs.declared.runs.Fate.{Fate}
use Rattle.run_records.specs.declared.runs.Fate.TheVariants as becomes
use Rattle.two_runs.specs.Evaluations.{IsSettledStore, Settles, SettlesNext}
use Rattle.search_context.specs.declared.context.Answer.{Answer}
use Rattle.search_graph.specs.Laws.{AreLaws}
use Rattle.two_runs.proofs.turns.Turns.{turned_leaves, turned_settles, turned_unmet}
use Rattle.two_runs.proofs.turns.Steps.{begins_settles, begins_unmet}
use Rattle.two_runs.specs.Below.{AreRuns, AreSoundResults, Awaits, Begins, Cache, Call, CxOf, DelegateOf, Fault}
use Rattle.two_runs.specs.Below.{Finished, IsFated, IsRightFor, Next, PathKind, Received, Step, verdicts}
use Rattle.search_graph.specs.Ran.{Began, ended, IfStep, NotBegun, Ran, Then, Turned}
use Rattle.two_runs.specs.Enough.{EndsSettled}
use Rattle.search_graph.specs.Turns.{IsAtOutset}
use Rattle.two_runs.specs.Settled.{CallNeedsTwoRuns}
use Rattle.two_runs.specs.Lone.{IsLone}
use Rattle.search_state.specs.declared.evaluation.Evaluation.{Evaluation}
use Rattle.search_graph.proofs.ran.Calls.{ran_keeps, ran_right, ran_waits, step_of}

-- the call has come to its end, with an answer or a fault, and then this holds
abbrev HasCome : {R E : Type 0} → Result (Next R) E → Type 0 → Type 0
HasCome (Ok (Step given)) P = Unit {0}
HasCome (Ok (Finished answer)) P = P
HasCome (Err fault) P = P

come_either : {R E : Type 0} (result : Result (Next R) E) (Q : Next R → Type 0) (P : Type 0) → IfOk result Q
    → ((answer : Answer R) → Q (Finished answer) → P) → OnErr result P → HasCome result P
come_either (Ok (Step given)) Q P h from fails = tt
come_either (Ok (Finished answer)) Q P h from fails = from answer h
come_either (Err fault) Q P h from fails = fails

-- a turn, told of a context that its cache has, too
module _ {D C V P F I R A T : Type 0} {G : DelegateOf D C V P F I R A T} {X : CxOf C I R A T} {same : I → I → Bool}
    {same_result : R → R → Bool} {noop : Bool} (laws : AreLaws G X same same_result) {cx : C} {given : Received R}
    {mid : Cache C I R T} {between : Evaluation D C V P F I R A T} {now : ℕ} (context : mid.cx ≡ cx)
    {result : Result (Next R) (Fault I R)} {new : Cache C I R T} {after : Evaluation D C V P F I R A T} {later : ℕ}
    (turned : Turned G X same same_result noop given mid between now result new after later)
    (right : IsRightFor G X same cx given mid between) (call : Call I)
    (awaits : Awaits G X same cx call given mid between now) where
  -- no limit is met, stored results are settled
  record TurnsSettled (c : C) : Type 0 where
    pub unmet : after.limits_met ≡ false
    pub settles : IfOk result (λ next. SettlesNext G X same c call next new after)
    pub leaves : OnErr result (IsSettledStore G X same c call.goals new.nodes new.results)

  settled_over : CallNeedsTwoRuns G X cx call noop → Settles G X same cx call given mid between → TurnsSettled cx
  settled_over needs settles =
      subst (λ c. IsRightFor G X same c given mid between → Awaits G X same c call given mid between now
      → CallNeedsTwoRuns G X c call noop → Settles G X same c call given mid between → TurnsSettled c) context
      (λ here there needed s. record {
        unmet = turned_unmet laws here call there needed s turned;
        settles = turned_settles laws here call there needed s turned;
        leaves = turned_leaves laws here call there needed s turned;
      }) right awaits needs settles

module _ {D C V P F I R A T : Type 0} {G : DelegateOf D C V P F I R A T} {X : CxOf C I R A T} {same : I → I → Bool}
    {same_result : R → R → Bool} {noop : Bool} (laws : AreLaws G X same same_result) {kind : PathKind} {goal : I}
    {fate : Fate R} {old : Cache C I R T} {e : Evaluation D C V P F I R A T} {starts : ℕ}
    (outset : IsAtOutset old e) (are_runs : AreRuns (verdicts X) (G.script old.cx) old.nodes)
    (sound : AreSoundResults same (verdicts X) (G.script old.cx) old.nodes old.results) where
  module _ (is_stored : fate ≡ becomes.Stored) (not_lone : IsLone same old.results goal → ⊥) (call : Call I)
      (at : Begins G X old.cx same call goal e.root_depth.0 starts e.limits_met old.results)
      (needs : CallNeedsTwoRuns G X old.cx call noop)
      (settled : IsSettledStore G X same old.cx call.goals old.nodes old.results) where
    ran_settles :
        {result : Result (Next R) (Fault I R)} {new : Cache C I R T} {after : Evaluation D C V P F I R A T}
        {later : ℕ} → Ran G X same same_result noop kind goal fate old e starts result new after later
        → IfStep result (λ given. Settles G X same old.cx call given new after)
    ran_settles (Began goals held nodes later pushes fates holds nodes_kept one counted) =
        begins_settles G X same laws.by_value laws.own old.cx kind goal old e outset.new e.root_depth goals held nodes
        pushes fate fates sound is_stored not_lone call
        (begins_unmet G X old.cx call noop goal e.root_depth.0 starts e.limits_met needs at.outset) settled
    ran_settles (NotBegun goals held later least one) = tt
    ran_settles (Then given mid between now result new after later ran turned) =
        step_of result (λ next. SettlesNext G X same old.cx call next new after) _
        (settled_over laws (ran_keeps laws outset are_runs sound ran).context turned
        (ran_right laws outset are_runs sound ran) call
        (ran_waits laws outset are_runs sound call at ran) needs (ran_settles ran)).settles
        (λ next on. on)

    pub ran_unmet :
        {result : Result (Next R) (Fault I R)} {new : Cache C I R T}
        {after : Evaluation D C V P F I R A T} {later : ℕ}
        → Ran G X same same_result noop kind goal fate old e starts result new after later → after.limits_met ≡ false
    ran_unmet (Began goals held nodes later pushes fates holds nodes_kept one counted) =
        begins_unmet G X old.cx call noop goal e.root_depth.0 starts e.limits_met needs at.outset
    ran_unmet (NotBegun goals held later least one) =
        begins_unmet G X old.cx call noop goal e.root_depth.0 starts e.limits_met needs at.outset
    ran_unmet (Then given mid between now result new after later ran turned) =
        (settled_over laws (ran_keeps laws outset are_runs sound ran).context turned
        (ran_right laws outset are_runs sound ran) call
        (ran_waits laws outset are_runs sound call at ran) needs (ran_settles ran)).unmet

    pub ran_settled :
        {result : Result (Next R) (Fault I R)} {new : Cache C I R T} {after : Evaluation D C V P F I R A T}
        {later : ℕ} → Ran G X same same_result noop kind goal fate old e starts result new after later
        → HasCome result (IsSettledStore G X same old.cx call.goals new.nodes new.results)
    ran_settled (Began goals held nodes later pushes fates holds nodes_kept one counted) = tt
    ran_settled (NotBegun goals held later least one) = settled
    ran_settled (Then given mid between now result new after later ran turned) =
        let turns = settled_over laws (ran_keeps laws outset are_runs sound ran).context turned
        (ran_right laws outset are_runs sound ran) call
        (ran_waits laws outset are_runs sound call at ran) needs (ran_settles ran) in
        come_either result (λ next. SettlesNext G X same old.cx call next new after) _
        turns.settles (λ answer on. on) turns.leaves

-- ---- what is promised of a call that has ended, for its own kind of results

module _ {D C V P F I R A T : Type 0} {G : DelegateOf D C V P F I R A T} {X : CxOf C I R A T} {same : I → I → Bool}
    {same_result : R → R → Bool} {noop : Bool} (laws : AreLaws G X same same_result) {kind : PathKind} {goal : I}
    {fate : Fate R} {old : Cache C I R T} {e : Evaluation D C V P F I R A T} {starts : ℕ}
    (outset : IsAtOutset old e) (are_runs : AreRuns (verdicts X) (G.script old.cx) old.nodes)
    (sound : AreSoundResults same (verdicts X) (G.script old.cx) old.nodes old.results)
    (fated : IsFated (G.scoped old.cx) (G.script old.cx) same old.results noop
    (record { goal = goal; depth = e.root_depth.0; fate = fate }))
    {new : Cache C I R T} {after : Evaluation D C V P F I R A T} {later : ℕ} where
  pub call_ends_settled :
      (result : Result (Answer R) (Fault I R))
      → Ran G X same same_result noop kind goal fate old e starts (ended result) new after later → fate ≡ becomes.Stored
      → (IsLone same old.results goal → ⊥)
      → EndsSettled G X same old.cx noop goal old e starts result new after
  call_ends_settled (Ok answer) ran is_stored not_lone = record {
    unmet = λ call at needs settled. ran_unmet laws outset are_runs sound is_stored not_lone call at needs settled ran;
    settles =
        λ call at needs settled. ran_settled laws outset are_runs sound is_stored not_lone call at needs settled ran;
  }
  call_ends_settled (Err fault) ran is_stored not_lone = record {
    unmet = λ call at needs settled. ran_unmet laws outset are_runs sound is_stored not_lone call at needs settled ran;
    settles =
        λ call at needs settled. ran_settled laws outset are_runs sound is_stored not_lone call at needs settled ran;
  }
