-- The laws of a delegate, on which all rests that follows of a call.
use Rattle.std.specs.Prelude.{◌≡◌, ◌≤◌, Bool, true, false, List, Some}
use Rattle.search_context.specs.Question.{Overlap, Question}
use Rattle.search_context.specs.Run.{EndsIn, progress_after, questions_answered}
use Rattle.search_graph.specs.Below.{CxOf, DelegateOf, PathKind, Reply}
use Rattle.search_questions.specs.Below.{IsCycleResult, IsNeither}

module _ {D C V P F I R A T : Type 0} (G : DelegateOf D C V P F I R A T) (X : CxOf C I R A T)
    (same : I → I → Bool) (same_result : R → R → Bool) where
  pub record AreLaws : Type 0 where
    pub by_value : (x y : I) → same x y ≡ true → x ≡ y
    pub own : (x : I) → same x x ≡ true
    pub own_result : (x : R) → same_result x x ≡ true
    pub divides : 2 ≤ G.DIVIDE_AVAILABLE_DEPTH_ON_OVERFLOW
    pub one_sort : (r : R) → X.is_yes r ≡ true → X.is_no r ≡ false
    pub clash : (cx : C) (goal : I) (held failed : List (Question I)) → X.proves cx goal held
        → X.refutes cx goal failed → Overlap held failed
    pub yes_is_proved : (cx : C) (goal : I) (replies : List (Reply R)) (r : R)
        → EndsIn (G.script cx goal) replies r → X.is_yes r ≡ true
        → X.proves cx goal (questions_answered X.is_yes (progress_after (G.script cx goal) replies))
    pub no_is_refuted : (cx : C) (goal : I) (replies : List (Reply R)) (r : R)
        → EndsIn (G.script cx goal) replies r → X.is_no r ≡ true
        → X.refutes cx goal (questions_answered X.is_no (progress_after (G.script cx goal) replies))
    pub initial_sort : (cx : C) (kind : PathKind) (goal : I)
        → IsCycleResult X.is_yes X.is_no kind (G.initial_result cx kind goal)
    pub stack_overflow : (cx : C) (goal : I) → IsNeither X.is_yes X.is_no (G.stack_overflow cx goal)
    pub ambiguous : (r : R) (info : A) → G.ambiguity r ≡ Some info → IsNeither X.is_yes X.is_no r
