-- The line that tells what a question on a goal came to.
use Rattle.std.specs.Prelude.{ℕ, List, [], ◌++◌, Result, Ok, Err, codes, decimal}
use Rattle.delegate_parts.specs.Outcome.{word_of}
use Rattle.delegate_parts.specs.declared.outcome.Outcome.{Outcome}
use Rattle.search_context.specs.declared.context.Fault.{Fault}
use Rattle.answer_lines.specs.Faults.{fault_word_of}
use Rattle.answer_lines.specs.declared.goals.Told.{Told}
use Rattle.answer_lines.specs.declared.goals.Check.{Check}
use Rattle.answer_lines.specs.declared.goals.Check.TheVariants.{None, Accepted, Refused}

-- what follows the number of frames
abbrev pub check_words : Check → List ℕ
check_words None = []
check_words Accepted = codes " checked"
check_words Refused = codes " unchecked"

-- what follows the name: ` yes 3 checked`, and a newline
abbrev pub told_words : Told → List ℕ
told_words told =
    codes " " ++ word_of told.outcome ++ codes " " ++ decimal told.started ++ check_words told.check ++ codes "\n"

-- the same, or ` fault memory` and a newline
abbrev pub words_of_answer : {I : Type 0} → Result Told (Fault I Outcome) → List ℕ
words_of_answer (Ok told) = told_words told
words_of_answer (Err fault) = codes " fault " ++ fault_word_of fault ++ codes "\n"

-- the line of a question: its goal's name, and what it came to
abbrev pub line_told : {I : Type 0} → List ℕ → Result Told (Fault I Outcome) → List ℕ
line_told name came = name ++ words_of_answer came
