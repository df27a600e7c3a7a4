-- A question that was read.
use Rattle.std.specs.Prelude.{length, ◌≤◌}
use Rattle.rule_tables.specs.declared.reading.question.Question.{Question}
use Rattle.rule_tables.specs.Grammar.{NamedQuestion}

-- the question without where its name lies in memory
abbrev pub named : Question → NamedQuestion
named question = record { kind = question.kind; name = question.name.now }

-- a table has room for its name
abbrev pub HasShortName : Question → Type 0
HasShortName question = length question.name.now ≤ 16
