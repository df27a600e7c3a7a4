-- Reading a text, one line after another.
use Rattle.std.proofs.Common.{◌≡◌, ℕ, ◌+◌, List, [], ◌∷◌, ◌++◌, map, take, Some}
use Rattle.std.specs.Prelude.{slice_get}
use Rattle.std.specs.List.{AllZip}
use Rattle.std.proofs.lemmas.List.{map-append}
use Rattle.type_texts.specs.Words.{lines_of, Says, statement_of}
use Rattle.type_texts.specs.declared.line.Line.{Line}
use Rattle.line_texts.proofs.Lines.{says_more}

-- one line more
pub read_more : (text : List ℕ) (i : ℕ) (old new : List Line) (line : List ℕ) (said : Line) →
    AllZip Says (take i (lines_of text)) (map statement_of old) → slice_get (lines_of text) i ≡ Some line →
    Says line (statement_of said) → new ≡ old ++ said ∷ [] →
    AllZip Says (take (i + 1) (lines_of text)) (map statement_of new)
read_more text i old new line said so_far e says pushed =
    rw (pushed, map-append) (says_more Says text i line (map statement_of old) (statement_of said) so_far e says)
