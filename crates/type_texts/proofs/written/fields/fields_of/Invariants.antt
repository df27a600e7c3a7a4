use Rattle.std.proofs.Common.{map}
use Rattle.std.specs.Option.{option_copied}
use Rattle.type_texts.specs.Words.{named, words_left}
use Rattle.type_texts.proofs.Spelling.{AreFieldsTo}
use Rattle.type_texts.proofs.written.fields.fields_of.Given as goal

abbrev pub invariant-loop-word : goal.invariant-loop-word
invariant-loop-word l = AreFieldsTo (words_left l.fn.words) (words_left l.word-iterator)
    (map named l.fields.items) (option_copied l.due) l.is_closed
