-- What a delegate and its context promise of one context's goals, as one value.
use Rattle.std.proofs.Common.{◌≡◌, true, false, List}
use Rattle.search_context.proofs.Rules.{KeepsRule}
use Rattle.determined.specs.Below.{IsCycleResult, IsWithin, Overlap, PathKind, Question, Reply, Request, Verdicts}

pub record AreLawful {I R : Type 0} (says : Verdicts R) (scripts : I → List (Reply R) → Request I R)
    (cycle_result : PathKind → I → R) (proves refutes : I → List (Question I) → Type 0) : Type 0 where
  pub cycles : (kind : PathKind) (goal : I) → IsCycleResult says.is_yes says.is_no kind (cycle_result kind goal)
  pub yes_is_proved : KeepsRule says.is_yes scripts proves
  pub no_is_refuted : KeepsRule says.is_no scripts refutes
  pub proves_more : (goal : I) (some more : List (Question I)) → IsWithin some more
      → proves goal some → proves goal more
  pub refutes_more : (goal : I) (some more : List (Question I)) → IsWithin some more
      → refutes goal some → refutes goal more
  pub clash : (goal : I) (held failed : List (Question I)) → proves goal held
      → refutes goal failed → Overlap held failed
  pub one_sort : (r : R) → says.is_yes r ≡ true → says.is_no r ≡ false
