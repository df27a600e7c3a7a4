-- What the answers of a text's questions are.
use Rattle.std.specs.Prelude.{◌≡◌, ◌↔◌, ℕ, true, false, All, Bool, List, [], Option, Result, IfOk, is_ok}
use Rattle.delegate_parts.specs.declared.outcome.Outcome.{Outcome}
use Rattle.line_texts.specs.Questions as asked
use Rattle.search_context.specs.declared.context.Fault.{Fault}
use Rattle.type_order.specs.declared.delegate.Pair.{Pair}
use Rattle.type_order.specs.Subtypes.{IsBelow}
use Rattle.answer_lines.specs.Types.{line_told}
use Rattle.answer_lines.specs.declared.types.Told.{Told}
use Rattle.type_texts.specs.declared.table.TypeTable.{TypeTable}
use Rattle.type_texts.specs.Reasons.{IsReason, name_of}
use Rattle.type_texts.specs.Table.{forms_in, questions_of}

-- the answer is yes exactly if the pair's left type is below its right one, and each no, but no yes, has a reason
pub record IsTold (table : TypeTable) (pair : Pair) (told : Told) : Type 0 where
  pub is_exact : (told.is_below ≡ true) ↔ IsBelow (forms_in table) pair.left pair.right
  pub no_reason : told.is_below ≡ true → told.reason.items ≡ []
  pub reason : told.is_below ≡ false → IsReason table pair told.reason.items

-- what a question came to
abbrev pub Came : Type 0
Came = Result Told (Fault Pair Outcome)

-- the line of a question, which is asked by its pair
abbrev pub line_of : TypeTable → asked.AnsweredQuestion Pair Came → List ℕ
line_of table answered =
    line_told (name_of table answered.question.left) (name_of table answered.question.right) answered.came

-- the pairs were answered as is right, unless a fault was met
abbrev pub AreRight : TypeTable → List (asked.AnsweredQuestion Pair Came) → Type 0
AreRight table = All (λ a. IfOk a.came (IsTold table a.question))

-- all questions were answered, and their lines were written; `all_fine` says that none met a fault
abbrev pub AreAllTold : TypeTable → (old new : Option (List ℕ)) → (all_fine : Bool) → Type 0
AreAllTold table = asked.AreAllTold (line_of table) is_ok (AreRight table) (questions_of table)

-- the first questions were answered, and a beginning of their lines was written
abbrev pub AreFirstTold : TypeTable → (old new : Option (List ℕ)) → Type 0
AreFirstTold table = asked.AreFirstTold (line_of table) is_ok (AreRight table) (questions_of table)
