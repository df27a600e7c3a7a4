-- The words that an iterator over a line has left.
use Rattle.std.specs.Prelude.{ℕ, List}
use Rattle.line_texts.specs.declared.words.Words.{Words}
use Rattle.line_texts.specs.Lines.{words_of}

abbrev pub words_left : Words → List (List ℕ)
words_left words = words_of words.rest.now
