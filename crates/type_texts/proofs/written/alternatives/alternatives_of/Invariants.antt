use Rattle.std.proofs.Common.{◌∷◌, map}
use Rattle.std.specs.Prelude.{codes}
use Rattle.type_texts.specs.Words.{words_left}
use Rattle.type_texts.proofs.Spelling.{AreNamesTo}
use Rattle.type_texts.proofs.written.alternatives.alternatives_of.Given as goal

abbrev pub invariant-loop-word : goal.invariant-loop-word
invariant-loop-word l = AreNamesTo (l.fn.first ∷ codes "|" ∷ words_left l.fn.words) (words_left l.word-iterator)
    (map (λ name. name.now) l.alternatives.items) l.is_due
