use Rattle.std.specs.Prelude.{map}
use Rattle.rule_tables.specs.Words.{named, words_left}
use Rattle.rule_tables.proofs.Questions.{AreReadTo}
use Rattle.rule_tables.proofs.reading.line.read_questions.Given as goal

abbrev pub invariant-loop-word : goal.invariant-loop-word
invariant-loop-word l = AreReadTo (words_left l.fn.words) (words_left l.word-iterator) (map named l.questions.items)
