-- What a line that was read says, without where its names lie in memory.
use Rattle.std.specs.Prelude.{List, map}
use Rattle.rule_tables.specs.declared.reading.line.Line.{Line}
use Rattle.rule_tables.specs.declared.reading.line.Line.TheVariants.{PassedOver, Rule, Ask}
use Rattle.rule_tables.specs.declared.reading.line.Said as said
use Rattle.rule_tables.specs.declared.reading.line.Said.TheVariants as said_to_be
use Rattle.rule_tables.specs.declared.reading.question.Question.{Question}
use Rattle.rule_tables.specs.Grammar as grammar
use Rattle.rule_tables.specs.Grammar.{NamedQuestion, Statement}
use Rattle.rule_tables.specs.Question.{named}

abbrev pub statement_of : Line → Statement
statement_of PassedOver = grammar.Nothing
statement_of (Rule is_marked name questions) = grammar.Rule is_marked name.now (map named questions.items)
statement_of (Ask depth name) = grammar.Ask depth name.now

-- with the questions that stand in a list
abbrev pub statement_with : List Question → said.Said → Statement
statement_with questions said_to_be.PassedOver = grammar.Nothing
statement_with questions (said_to_be.Rule is_marked name) = grammar.Rule is_marked name.now (map named questions)
statement_with questions (said_to_be.Ask depth name) = grammar.Ask depth name.now
