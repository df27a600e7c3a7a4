use Rattle.std.specs.Prelude.{take}
use Rattle.rule_tables.specs.Words.{HasAsked}
use Rattle.rule_tables.proofs.draft.Draft.ask.Given as goal

abbrev pub invariant-loop-question : goal.invariant-loop-question
invariant-loop-question l = HasAsked l.fn.self l.self (take l.question-index l.questions)
