use Rattle.std.proofs.Common.{map, take}
use Rattle.rule_tables.specs.Question.{named}
use Rattle.open_tables.proofs.Naming.{AreNamed}
use Rattle.open_tables.proofs.table.OpenTable.name_all.Given as goal

abbrev pub invariant-loop-question : goal.invariant-loop-question
invariant-loop-question l =
    AreNamed l.fn.self l.self l.asked.items (map named (take l.question-index l.questions))
