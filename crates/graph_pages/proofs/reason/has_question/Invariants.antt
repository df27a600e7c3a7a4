use Rattle.std.proofs.Common.{◌≡◌, All, take}
use Rattle.graph_pages.proofs.reason.has_question.Given as goal

-- no question so far is this one
abbrev pub invariant-loop-question : goal.invariant-loop-question
invariant-loop-question l = All (λ question. question ≡ l.asking → ⊥) (take l.question-index l.questions)
