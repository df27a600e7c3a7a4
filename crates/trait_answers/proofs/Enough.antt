-- Two runs of each goal are enough, where all goals are decided and the depth is at least their number.
use Rattle.std.proofs.Common.{◌≡◌, ℕ, ◌+◌, ◌<◌, ◌≤◌, Bool, true, false, List, length, Contains, Some, Result, inl, inr}
use Rattle.std.proofs.Common.{refl, sym, ap, ◌∙◌, subst, arith, get_or, nat_le, Ok, Err, ◌&&◌}
use Rattle.std.proofs.Math.Logic.{∥∥₁_elim, ∥∥₁_map}
use Rattle.std.specs.Prelude.{IfOk, IfErr}
use Rattle.std.specs.List.{range_with_len}
use Rattle.std.proofs.lemmas.Bool.{leb-true, true≢false}
use Rattle.std.proofs.lemmas.List.FromFn.{get_or-range_with_len, length-range_with_len}
use Rattle.search_context.specs.Run.{fault_after, IsFitting, IsOrderly}
use Rattle.search_context.specs.declared.context.Fault.TheVariants.{Conflict, Protocol, Validation}
use Rattle.search_context.specs.declared.context.Reply.{Reply}
use Rattle.search_graph.specs.Reaching.{MayAsk, MayReach, here as reach_here, on as reach_on}
use Rattle.search_rules.specs.Claims.{BreaksOrder, OtherResult, OtherThanStored, OutOfMemory, OutOfOrder, WantsMemory}
use Rattle.two_runs.specs.OneKind.{AsksByOneKind}
use Rattle.trait_goals.specs.Decided.{here, LeadsTo, on}
use Rattle.trait_goals.proofs.Decided.{asked_own, asked_within, goals_are_decisive, goals_are_orderly, scripts}
use Rattle.trait_answers.specs.Answered.{CanBeTold, IsImplemented, IsNotImplemented, IsTold}
use Rattle.trait_answers.specs.Below.{Answer, AreAllDecided, AreDefinite, AreRight, AreSettled, Cache, CxOf, DelegateOf}
use Rattle.trait_answers.specs.Below.{Fault, HasOneOfEach, IsCaused, IsDecisive, IsDefinite, IsEnclosed}
use Rattle.trait_answers.specs.Below.{IsMemoryOrOrder}
use Rattle.trait_answers.specs.Below.{Maybe, Memory, No, Outcome, outcome_verdicts, Overflow, StoredReachNested, Table}
use Rattle.trait_answers.specs.Below.{TwoRunsAreEnough, verdicts, Yes}
use Rattle.trait_answers.specs.Deciding.{EndsDecided, EndsTold, goals_of, KeepsDeciding}
use Rattle.trait_answers.specs.declared.answers.Answered.{Answered}

-- results that are both yes, or both no, are equal
one_of_each : HasOneOfEach outcome_verdicts
one_of_each Yes Yes h e = refl
one_of_each No No h e = refl
one_of_each Yes No h e = absurd cc
one_of_each Yes Maybe h e = absurd cc
one_of_each Yes Overflow h e = absurd cc
one_of_each No Yes h e = absurd cc
one_of_each No Maybe h e = absurd cc
one_of_each No Overflow h e = absurd cc
one_of_each Maybe y h e = absurd (h refl)
one_of_each Overflow y h e = absurd (h refl)

-- a definite answer that is right of what it says
pub told_by : (table : Table) (goal : ℕ) (r : Outcome) → IsDefinite outcome_verdicts r →
    (r ≡ Yes → IsImplemented table goal) → (r ≡ No → IsNotImplemented table goal) → IsTold table goal r
told_by table goal Yes h is_so is_not = is_so refl
told_by table goal No h is_so is_not = is_not refl
told_by table goal Maybe h is_so is_not = absurd (h refl)
told_by table goal Overflow h is_so is_not = absurd (h refl)

-- a number below the count is among the first so many, and none else is
among : (count n : ℕ) → n < count → Contains (range_with_len 0 count) n
among count n less = (
  n,
  (let e : length (range_with_len 0 count) ≡ count = length-range_with_len 0 count in omega (arith, e)),
  get_or-range_with_len 0 count n n less ∙ omega arith,
)

below : (count n : ℕ) → Contains (range_with_len 0 count) n → n < count
below count n has =
    let e : length (range_with_len 0 count) ≡ count = length-range_with_len 0 count in
    let less : has.0 < count = omega (arith, has.1, e) in
    let is : get_or (range_with_len 0 count) has.0 n ≡ 0 + has.0 = get_or-range_with_len 0 count has.0 n less in
    let same : get_or (range_with_len 0 count) has.0 n ≡ n = has.2 in
    omega (arith, less, is, same)

module _ (table : Table) (right : AreRight table) (all : AreAllDecided table) where
  leads : (goal other : ℕ) → MayReach (scripts table) goal other → LeadsTo table goal other
  leads goal other reach_here = here
  leads goal other (reach_on {kind = kind} {asked = asked} may rest) =
      on (asked_own table right all goal may.replies kind asked may.asks).asks_it (leads asked other rest)

  all_by_one_kind : AsksByOneKind (scripts table)
  all_by_one_kind goal kind asked other other_kind other_asked one there another back =
      let a = asked_own table right all goal one.replies kind asked one.asks in
      let b = asked_own table right all other another.replies other_kind other_asked another.asks in
      a.same_kind ∙ (all.one_kind goal other (on a.asks_it (leads asked other there))
      (on b.asks_it (leads other_asked goal back)) ∙ sym b.same_kind)

-- there is depth enough for all goals
enclosed : (table : Table) → AreRight table → (goal depth : ℕ) → CanBeTold table goal depth →
    IsEnclosed (scripts table) (goals_of table) depth goal
enclosed table right goal depth can = record {
  within = among (length table.asked) goal can.is_goal;
  closed = λ asking has replies kind asked fits e.
      among (length table.asked) asked
      (asked_within table right asking asked (asked_own table right can.all asking replies kind asked e).asks_it);
  fits =
      let e : length (goals_of table) ≡ length table.asked = length-range_with_len 0 (length table.asked) in
      omega (arith, e, can.deep);
}

-- a conflict is neither want of memory nor a request out of order
no_conflict : (goal : ℕ) (stored found : Outcome) (fault : Fault ℕ Outcome)
    → fault ≡ Conflict goal stored found → IsMemoryOrOrder fault → ⊥
no_conflict goal stored found fault is (WantsMemory e) = absurd cc
no_conflict goal stored found fault is (BreaksOrder number e) = absurd cc

module _ {D C V P F A T : Type 0} (G : DelegateOf D C V P F ℕ Outcome A T) (X : CxOf C ℕ Outcome A T)
    (same : ℕ → ℕ → Bool) (table : Table) (cache : Cache C ℕ Outcome T) where
  -- The only fault of such a call is want of memory: no request of a goal's script is out of order,
  -- and no conflict is left.
  only_memory : (fault : Fault ℕ Outcome) → G.script cache.cx ≡ scripts table →
      ((asked : ℕ) → G.scoped cache.cx asked ≡ false) → IsCaused G X same cache fault → IsMemoryOrOrder fault →
      fault ≡ Memory
  only_memory fault script unscoped (OutOfMemory is) either = is
  only_memory fault script unscoped (OutOfOrder goal replies number fitting after is) either =
      absurd (in_order goal replies number fitting after)
    where
      in_order : (goal : ℕ) (replies : List (Reply Outcome)) (number : ℕ)
          → IsFitting (G.script cache.cx goal) replies → fault_after (G.script cache.cx goal) replies ≡ Some number → ⊥
      in_order goal replies number fitting after =
          let none = subst (λ s. IsOrderly (s goal)) (sym script) (goals_are_orderly table goal) replies fitting in
          absurd cc
  only_memory fault script unscoped (OtherResult goal stored found conflict is) either =
      absurd (no_conflict goal stored found fault is either)
  only_memory fault script unscoped (OtherThanStored goal stored found scoped conflict is) either =
      absurd (true≢false (sym scoped ∙ unscoped goal))

module _ {D C V P F A T : Type 0} (G : DelegateOf D C V P F ℕ Outcome A T) (X : CxOf C ℕ Outcome A T)
    (same : ℕ → ℕ → Bool) (table : Table) (cache : Cache C ℕ Outcome T) where
  -- so it is for a delegate that has the scripts and the verdicts of goals, and a cache that is kept ready
  pub enough : (depth goal : ℕ) (noop : Bool) → AreRight table → verdicts X ≡ outcome_verdicts →
      G.script cache.cx ≡ scripts table → 2 ≤ G.FIXPOINT_STEP_LIMIT →
      ((asked : ℕ) → G.scoped cache.cx asked ≡ false) → noop ≡ true → CanBeTold table goal depth →
      KeepsDeciding same table cache → TwoRunsAreEnough G X same (goals_of table) cache depth goal noop
  enough depth goal noop right says script some_runs unscoped unrecorded can ready = record {
    needs = record {
      decisive =
          subst (λ s. IsDecisive (verdicts X) s) (sym script)
          (subst (λ v. IsDecisive v (scripts table)) (sym says) (goals_are_decisive table right can.all));
      one_of_each = subst HasOneOfEach (sym says) one_of_each;
      one_kind = inr (subst AsksByOneKind (sym script) (all_by_one_kind table right can.all));
      some_runs = some_runs;
      enclosed = subst (λ s. IsEnclosed s (goals_of table) depth goal) (sym script)
          (enclosed table right goal depth can);
      unscoped = λ asked within. unscoped asked;
      unrecorded = unrecorded;
    };
    no_overflow = ready.no_overflow;
    definite = subst (λ v. AreDefinite v same cache.results) (sym says) ready.definite;
    settled = record {
      settled = subst (λ v. AreSettled v same cache.nodes cache.results (goals_of table)) (sym says) ready.settled;
      suit = inr (subst (λ s. StoredReachNested s same (goals_of table) cache.results) (sym script) ready.reached);
    };
  }

  -- and what such a call leaves is ready again
  stays_ready : (result : Result (Answer Outcome) (Fault ℕ Outcome)) (met : Bool) (new : Cache C ℕ Outcome T) →
      verdicts X ≡ outcome_verdicts → G.script cache.cx ≡ scripts table → G.ENABLE_PROVISIONAL_CACHE ≡ true →
      EndsDecided G X same (goals_of table) cache.cx result met new → KeepsDeciding same table new
  stays_ready result met new says script provisional ends = record {
    definite = subst (λ v. AreDefinite v same new.results) says ends.definite;
    no_overflow = ends.no_overflow;
    settled = subst (λ v. AreSettled v same new.nodes new.results (goals_of table)) says ends.settled;
    reached = elim ends.suit [
      | inl off ↦ absurd (true≢false (sym provisional ∙ off))
      | inr reached ↦ subst (λ s. StoredReachNested s same (goals_of table) new.results) script reached
    ];
  }

  -- so its question is told
  pub ends_told : (answer : Answer Outcome) (met told : Bool) (new : Cache C ℕ Outcome T) → told ≡ met →
      verdicts X ≡ outcome_verdicts → G.script cache.cx ≡ scripts table → G.ENABLE_PROVISIONAL_CACHE ≡ true →
      EndsDecided G X same (goals_of table) cache.cx (Ok answer) met new →
      EndsTold same table (Ok (record { outcome = answer.result; limits_met = told })) new
  ends_told answer met told new is says script provisional ends = record {
    answer = subst (λ v. IsDefinite v answer.result) says ends.answer;
    unmet = is ∙ ends.unmet;
    fault = tt;
    ready = stays_ready (Ok answer) met new says script provisional ends;
  }

  -- so a fault of a question is want of memory
  pub fault_told : (fault : Fault ℕ Outcome) (met : Bool) (new : Cache C ℕ Outcome T) →
      new.cx ≡ cache.cx → verdicts X ≡ outcome_verdicts → G.script cache.cx ≡ scripts table →
      G.ENABLE_PROVISIONAL_CACHE ≡ true → ((asked : ℕ) → G.scoped cache.cx asked ≡ false) →
      IsCaused G X same new fault → EndsDecided G X same (goals_of table) cache.cx (Err fault) met new →
      EndsTold same table (Err fault) new
  fault_told fault met new same_context says script provisional unscoped caused ends = record {
    answer = tt;
    unmet = tt;
    fault = only_memory G X same table new fault (subst (λ cx. G.script cx ≡ scripts table) (sym same_context) script)
        (subst (λ cx. (asked : ℕ) → G.scoped cx asked ≡ false) (sym same_context) unscoped) caused ends.fault;
    ready = stays_ready (Err fault) met new says script provisional ends;
  }

-- What was told of a result, whether there is an answer or a fault.
both : (a b : Bool) → (a && b) ≡ true → (a ≡ true) × (b ≡ true)
both true true e = (refl, refl)
both true false e = absurd cc
both false b e = absurd cc

is_false : (b : Bool) → (b ≡ true → ⊥) → b ≡ false
is_false true h = absurd (h refl)
is_false false h = refl

is_memory : (fault : Fault ℕ Outcome) → ((fault ≡ Memory → ⊥) → ⊥) → fault ≡ Memory
is_memory Memory h = refl
is_memory (Protocol number) h = absurd (h (λ e. cc))
is_memory (Conflict goal stored found) h = absurd (h (λ e. cc))
is_memory (Validation goal stored found) h = absurd (h (λ e. cc))

module _ {C T : Type 0} (same : ℕ → ℕ → Bool) (table : Table) (goal : ℕ) where
  pub told_of : (result : Result Answered (Fault ℕ Outcome)) (new : Cache C ℕ Outcome T) →
      IfOk result (λ answered. answered.outcome ≡ Yes → IsImplemented table goal) →
      IfOk result (λ answered. answered.outcome ≡ No → IsNotImplemented table goal) →
      ∥ EndsTold same table result new ∥₁ → IfOk result (λ answered. IsTold table goal answered.outcome)
  told_of (Ok answered) new is_so is_not ends =
      told_by table goal answered.outcome (λ e. ∥∥₁_elim ends (λ a b. absurd a) (λ ends. ends.answer e)) is_so is_not
  told_of (Err fault) new is_so is_not ends = tt

  pub unmet_of : (result : Result Answered (Fault ℕ Outcome)) (new : Cache C ℕ Outcome T) →
      ∥ EndsTold same table result new ∥₁ → IfOk result (λ answered. answered.limits_met ≡ false)
  unmet_of (Ok answered) new ends = is_false answered.limits_met (λ met.
      ∥∥₁_elim ends (λ a b. absurd a) (λ ends. let unmet : answered.limits_met ≡ false = ends.unmet in cc))
  unmet_of (Err fault) new ends = tt

  pub fault_of : (result : Result Answered (Fault ℕ Outcome)) (new : Cache C ℕ Outcome T) →
      ∥ EndsTold same table result new ∥₁ → IfErr result (λ fault. fault ≡ Memory)
  fault_of (Ok answered) new ends = tt
  fault_of (Err fault) new ends =
      is_memory fault (λ other. ∥∥₁_elim ends (λ a b. absurd a) (λ ends. other ends.fault))

  -- so the cache stays ready, also for the same table in other words
  pub ready_of : (had now : Bool) (depth : ℕ) (later : Table) (result : Result Answered (Fault ℕ Outcome))
      (old new : Cache C ℕ Outcome T) → later ≡ table → now ≡ (had && nat_le (length table.asked) depth) →
      goal < length table.asked → (CanBeTold table goal depth → KeepsDeciding same table old →
      EndsTold same table result new) →
      ∥ (had ≡ true → AreAllDecided table → KeepsDeciding same table old) ∥₁ →
      ∥ (now ≡ true → AreAllDecided later → KeepsDeciding same later new) ∥₁
  ready_of had now depth later result old new same_table is within told ready = ∥∥₁_map ready (λ ready had_it all.
      let b = both had (nat_le (length table.asked) depth) (sym is ∙ had_it) in
      let deep : length table.asked ≤ depth = leb-true (length table.asked) depth b.1 in
      let own = subst AreAllDecided same_table all in
      subst (λ t. KeepsDeciding same t new) (sym same_table)
      (told (record { all = own; is_goal = within; deep = deep }) (ready b.0 own)).ready)

  -- also where nothing was asked
  pub ready_still : (had now : Bool) (depth : ℕ) (old : Cache C ℕ Outcome T) →
      now ≡ (had && nat_le (length table.asked) depth) →
      ∥ (had ≡ true → AreAllDecided table → KeepsDeciding same table old) ∥₁ →
      ∥ (now ≡ true → AreAllDecided table → KeepsDeciding same table old) ∥₁
  ready_still had now depth old is ready = ∥∥₁_map ready (λ ready had_it all.
      ready (both had (nat_le (length table.asked) depth) (sym is ∙ had_it)).0 all)
