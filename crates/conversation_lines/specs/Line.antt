-- What a line that was read says, without where its name lies in memory.
use Rattle.conversation_lines.specs.declared.line.Said.{Said}
use Rattle.conversation_lines.specs.declared.line.Said.TheVariants as said
use Rattle.std.specs.Prelude.{ℕ, ◌∷◌, List, codes}
use Rattle.conversation_lines.specs.Grammar.{Forget, IsForget, OfTable, Saying}
use Rattle.rule_tables.specs.Line.{statement_of}

abbrev pub saying_of : Said → Saying
saying_of (said.OfTable line) = OfTable (statement_of line)
saying_of (said.Forget name) = Forget name.now

-- the words after `forget` say this
abbrev pub SaysForget : List (List ℕ) → Saying → Type 0
SaysForget words (OfTable statement) = ⊥
SaysForget words (Forget name) = IsForget (codes "forget" ∷ words) name
