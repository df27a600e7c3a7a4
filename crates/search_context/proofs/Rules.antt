-- What a delegate's laws say of the runs that its scripts lead to.
use Rattle.std.specs.Prelude.{◌≡◌, Bool, true, List}
use Rattle.search_context.specs.Run.{EndsIn, progress_after, questions_answered}
use Rattle.search_context.specs.Words.{Request, Reply, Question}

-- a rule that the questions of each run's answers keep
abbrev pub KeepsRule : {I R : Type 0} → (R → Bool) → (I → List (Reply R) → Request I R)
    → (I → List (Question I) → Type 0) → Type 0
KeepsRule {I} {R} test scripts rule =
    (goal : I) (replies : List (Reply R)) (r : R)
    → EndsIn (scripts goal) replies r → test r ≡ true
    → rule goal (questions_answered test (progress_after (scripts goal) replies))
