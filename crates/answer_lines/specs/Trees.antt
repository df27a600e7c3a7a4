-- The line that tells what a goal came to, under its tree.
use Rattle.std.specs.Prelude.{ℕ, List, ◌++◌, Result, Ok, Err, codes, decimal}
use Rattle.delegate_parts.specs.Outcome.{word_of}
use Rattle.delegate_parts.specs.declared.outcome.Outcome.{Outcome}
use Rattle.search_context.specs.declared.context.Answer.{Answer}
use Rattle.search_context.specs.declared.context.Fault.{Fault}
use Rattle.answer_lines.specs.Faults.{fault_word_of}

-- what follows the name, with an empty line
abbrev pub answer_words : {I : Type 0} → Result (Answer Outcome) (Fault I Outcome) → ℕ → List ℕ
answer_words (Ok answer) started = codes " " ++ word_of answer.result ++ codes " " ++ decimal started ++ codes "\n\n"
answer_words (Err fault) started = codes " fault " ++ fault_word_of fault ++ codes "\n\n"
