-- What a run of the program came to.
use Rattle.std.specs.Prelude.{◌⊎◌, ℕ, Bool, List, Option}
use Rattle.std.specs.Io.KnownBytes.{Keeps}
use Rattle.line_texts.specs.Questions.{IsReadAs}
use Rattle.program_ends.specs.declared.stop.Stop.{Stop}
use Rattle.program_ends.specs.declared.stop.Stop.TheVariants.{Memory, Text}
use Rattle.type_runs.specs.Answers.{AreAllTold, AreFirstTold}
use Rattle.type_texts.specs.declared.reading.ReadFault.{ReadFault}
use Rattle.type_texts.specs.declared.reading.ReadFault.TheVariants as read
use Rattle.type_texts.specs.Text.{IsDeclaredTwice, IsFirstBadLine, IsUndeclared, IsUnguarded, Reads}

-- all questions of the text were answered, and their lines were written
abbrev pub IsAllTold : (known old new : Option (List ℕ)) → Bool → Type 0
IsAllTold known old new all_fine = IsReadAs Reads known (λ table. AreAllTold table old new all_fine)

-- nothing was written, or a beginning of the lines of the text's first questions, which were answered
abbrev pub IsBrokenOff : (known old new : Option (List ℕ)) → Type 0
IsBrokenOff known old new = Keeps old new ⊎ IsReadAs Reads known (λ table. AreFirstTold table old new)

-- Why a text is not answered.
pub data IsRefused (text : List ℕ) : Type 0 where
  Malformed : (line : ℕ) → IsFirstBadLine text line → IsRefused text
  Twice : (line : ℕ) → IsDeclaredTwice text line → IsRefused text
  Undeclared : (line : ℕ) → IsUndeclared text line → IsRefused text
  Unguarded : (line : ℕ) → IsUnguarded text line → IsRefused text

-- what a fault of the reading stops
abbrev pub stopped_text : ReadFault → Stop ReadFault
stopped_text (read.BadLine n) = Text (read.BadLine n)
stopped_text (read.Twice n) = Text (read.Twice n)
stopped_text (read.Undeclared n) = Text (read.Undeclared n)
stopped_text (read.Unguarded n) = Text (read.Unguarded n)
stopped_text read.Memory = Memory
