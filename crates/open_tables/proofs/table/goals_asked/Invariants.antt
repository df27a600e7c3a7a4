use Rattle.std.proofs.Common.{◌≡◌, map, take}
use Rattle.open_tables.proofs.table.goals_asked.Given as goal

abbrev pub invariant-loop-question : goal.invariant-loop-question
invariant-loop-question l = l.goals.items ≡ map (λ q. q.goal) (take l.question-index l.questions)
