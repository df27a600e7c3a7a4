-- The line that tells what a question on two types came to.
use Rattle.std.specs.Prelude.{ℕ, Bool, if◌then◌else◌, List, ◌++◌, Result, Ok, Err, codes}
use Rattle.search_context.specs.declared.context.Fault.{Fault}
use Rattle.answer_lines.specs.Faults.{fault_word_of}
use Rattle.answer_lines.specs.declared.types.Told.{Told}

-- the answer's word
abbrev pub answer_word_of : Bool → List ℕ
answer_word_of is_below = if is_below then codes "yes" else codes "no"

-- what follows the names: ` yes`, or ` no` with its reason, and a newline
abbrev pub told_words : Told → List ℕ
told_words told = codes " " ++ answer_word_of told.is_below ++ told.reason.items ++ codes "\n"

-- the same, or ` fault memory` and a newline
abbrev pub words_of_answer : {I R : Type 0} → Result Told (Fault I R) → List ℕ
words_of_answer (Ok told) = told_words told
words_of_answer (Err fault) = codes " fault " ++ fault_word_of fault ++ codes "\n"

-- the line of a question: its names, and what it came to
abbrev pub line_told : {I R : Type 0} → (left right : List ℕ) → Result Told (Fault I R) → List ℕ
line_told left right came = left ++ codes " < " ++ right ++ words_of_answer came
