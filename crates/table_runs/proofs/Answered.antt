-- What a question came to, from what the search promises.
use Rattle.std.proofs.Common.{◌≡◌, ℕ, Bool, true, false, List, [], ◌∷◌, ◌++◌, Option, Some, None, Ok, Err, Result, ap}
use Rattle.std.proofs.Common.{sym, refl, subst, ◌∙◌}
use Rattle.std.proofs.lemmas.List.Elements.{All-nil, All-push}
use Rattle.std.specs.Prelude.{IfOk, IfSome}
use Rattle.search_context.specs.declared.context.Answer.{Answer}
use Rattle.answer_lines.specs.declared.goals.Told.{Told}
use Rattle.answer_lines.specs.declared.goals.Check.TheVariants.{Accepted}
use Rattle.table_runs.specs.Below.{CxOf, DelegateOf, Cache, Fault, Goal, Graph, HasRun, IsSoundCache, NodeId, Outcome}
use Rattle.table_runs.specs.Below.{IsPaid, verdicts}
use Rattle.table_runs.specs.declared.program.questions.Checks.{Checks}
use Rattle.table_runs.specs.Right.{AreShown, IsRightOutcome, SomeGraphShows}
use Rattle.table_runs.specs.Told.{AnsweredQuestion, AreRight, IsRightlyTold}
use Rattle.table_runs.specs.Answers.{AreInTurn, call_on, IsAnswered, InTurn, LeaveCache}

pub IfSome-weaker : {T : Type 0} (o : Option T) (P Q : T → Type 0) → ((x : T) → P x → Q x) → IfSome o P → IfSome o Q
IfSome-weaker None P Q f h = tt
IfSome-weaker (Some x) P Q f h = f x h

-- the results of equal answers
pub result_of : {E : Type 0} (r s : Result (Answer Outcome) E) (a b : Answer Outcome) → r ≡ s
    → r ≡ Ok a → s ≡ Ok b → a.result ≡ b.result
result_of r s a b e x y = let same : a ≡ b = cc in ap (λ answer. answer.result) same

-- a price under equal numbers
pub paid : (runs root depth last old before new started : ℕ) → root ≡ depth → old ≡ before → started ≡ new
    → IsPaid runs root last old new → IsPaid runs depth last before started
paid runs root depth last old before new started r o s h = subst (λ n. IsPaid runs depth last before n) (sym s)
    (subst (λ n. IsPaid runs depth last n new) o (subst (λ n. IsPaid runs n last old new) r h))

-- a call that was made on a new graph, with a new builder, as it is told
pub call_told : {D C V P F A T : Type 0} (G : DelegateOf D C V P F Goal Outcome A T) (X : CxOf C Goal Outcome A T)
    (same : Goal → Goal → Bool) (same_result : Outcome → Outcome → Bool)
    (goal : Goal) (depth : ℕ) (before after : Cache C Goal Outcome T) (noop : Bool) (graph left : Graph)
    (from to started : ℕ) (answer : Answer Outcome)
    → noop ≡ true → graph ≡ record { root_depth = depth; limits_met = false } → from ≡ 0 → started ≡ to
    → HasRun G X same same_result (call_on noop goal before graph from answer after left to)
    → HasRun G X same same_result (call_on true goal before (record { root_depth = depth; limits_met = false }) 0 answer
    after (record { root_depth = depth; limits_met = left.limits_met }) started)
call_told G X same same_result goal depth before after noop graph left from to started
    answer is_noop is_graph none counted ran =
    let new : Graph = record { root_depth = depth; limits_met = false } in
    subst (λ n. HasRun G X same same_result (call_on true goal before new 0 answer after
    (record { root_depth = depth; limits_met = left.limits_met }) n)) (sym counted)
    (subst (λ d. HasRun G X same same_result
    (call_on true goal before new 0 answer after (record { root_depth = d; limits_met = left.limits_met }) to))
    (ran.same_depth ∙ ap (λ g. g.root_depth) is_graph)
    (subst (λ n. HasRun G X same same_result (call_on true goal before new n answer after left to)) none
    (subst (λ g. HasRun G X same same_result (call_on true goal before g from answer after left to)) is_graph
    (subst (λ b. HasRun G X same same_result (call_on b goal before graph from answer after left to)) is_noop ran))))

-- what the outcome is worth, and what was accepted, together
told_rightly : {C A T : Type 0} (X : CxOf C Goal Outcome A T) (cx : C) (goal : Goal)
    (came : Result Told (Fault Goal Outcome)) → IfOk came (λ told. IsRightOutcome X cx goal told.outcome) →
    IfOk came (λ told. told.check ≡ Accepted → SomeGraphShows X cx goal told.outcome) →
    IfOk came (IsRightlyTold X cx goal)
told_rightly X cx goal (Ok told) right shown = record { right = right; shown = shown }
told_rightly X cx goal (Err fault) right shown = tt

module _ {D C V P F A T : Type 0} (G : DelegateOf D C V P F Goal Outcome A T) (X : CxOf C Goal Outcome A T)
    (same : Goal → Goal → Bool) (same_result : Outcome → Outcome → Bool) (checks : Checks) where
  -- one question more
  InTurn-more : (before between after : Cache C Goal Outcome T) (last : AnsweredQuestion) →
      IsAnswered G X same same_result checks between last after → IsSoundCache same (verdicts X) G.script after →
      (all : List AnsweredQuestion) → InTurn G X same same_result checks before all between →
      InTurn G X same same_result checks before (all ++ last ∷ []) after
  InTurn-more before between after last is sound [] h =
      (after, subst (λ cache. IsAnswered G X same same_result checks cache last after) (sym h) is, sound, refl)
  InTurn-more before between after last is sound (first ∷ others) h =
      (h.0, h.1, h.2, InTurn-more h.0 between after last is sound others h.3)

  module _ (cx : C) where
    -- The questions were answered in turn, and left this cache. What is remembered as shown is shown by the rules.
    pub record HaveLed (cache : Cache C Goal Outcome T) (shown : List (Goal × (Outcome × NodeId)))
        (answered : List AnsweredQuestion) : Type 0 where
      pub in_turn : LeaveCache G X same same_result checks cx cache answered
      pub same_context : cache.cx ≡ cx
      pub are_shown : AreShown X cx shown
      pub are_right : AreRight X cx answered

    pub none_in_turn : AreInTurn G X same same_result checks cx []
    none_in_turn = record {
      after = _;
      in_turn = refl;
      are_right = All-nil (λ a. IfOk a.came (IsRightlyTold X cx a.question.1));
    }

    pub none_led : (cache : Cache C Goal Outcome T) (shown : List (Goal × (Outcome × NodeId))) →
        cache ≡ record { cx = cx; nodes = []; results = [] } → shown ≡ [] → HaveLed cache shown []
    none_led cache shown empty none = record {
      in_turn = sym empty;
      same_context = ap (λ k. k.cx) empty;
      are_shown = subst (AreShown X cx) (sym none) (All-nil (λ key. SomeGraphShows X cx key.0 key.1.0));
      are_right = All-nil (λ a. IfOk a.came (IsRightlyTold X cx a.question.1));
    }

    pub all_in_turn : (cache : Cache C Goal Outcome T) (shown : List (Goal × (Outcome × NodeId)))
        (all : List AnsweredQuestion) → HaveLed cache shown all → AreInTurn G X same same_result checks cx all
    all_in_turn cache shown all led = record { after = cache; in_turn = led.in_turn; are_right = led.are_right }

    -- one question more, over the cache that the others left
    pub led_on : (before after : Cache C Goal Outcome T) (old new : List (Goal × (Outcome × NodeId)))
        (last : AnsweredQuestion) → IsAnswered G X same same_result checks before last after →
        IsSoundCache same (verdicts X) G.script after →
        IfOk last.came (λ told. IsRightOutcome X before.cx last.question.1 told.outcome) →
        (AreShown X before.cx old →
        IfOk last.came (λ told. told.check ≡ Accepted → SomeGraphShows X before.cx last.question.1 told.outcome)) →
        (AreShown X before.cx old → AreShown X before.cx new) →
        (all : List AnsweredQuestion) → HaveLed before old all → HaveLed after new (all ++ last ∷ [])
    led_on before after old new last is sound right shown remembered all led =
        let keys : AreShown X before.cx old = subst (λ k. AreShown X k old) (sym led.same_context) led.are_shown in
        let told = told_rightly X before.cx last.question.1 last.came right (shown keys) in
        record {
          in_turn = InTurn-more _ before after last is sound all led.in_turn;
          same_context = is.same_context ∙ led.same_context;
          are_shown = subst (λ k. AreShown X k new) led.same_context (remembered keys);
          are_right =
              All-push (λ a. IfOk a.came (IsRightlyTold X cx a.question.1)) all last led.are_right
              (subst (λ k. IfOk last.came (IsRightlyTold X k last.question.1)) led.same_context told);
        }
