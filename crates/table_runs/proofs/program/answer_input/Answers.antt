use Rattle.std.proofs.Common.{refl, subst}
use Rattle.table_runs.specs.Below.{Reads}
use Rattle.line_texts.proofs.Questions.{begun_of_text, told_of_text}
use Rattle.table_runs.proofs.program.answer_input.Goals as goal

pub returns-clause-told : goal.returns-clause-told
returns-clause-told g c =
    let reads = subst (λ text. Reads text c.in_ok-rules.rules) c.as_slice.ensures.value c.in_ok-rules.ensures.ok in
    told_of_text _ _ _ _ c.in_ok-text.ensures reads _ _ (c.answer_questions.ensures.told (λ builder. (refl, refl)))

pub returns-clause-beginning : goal.returns-clause-beginning
returns-clause-beginning g c =
    let reads = subst (λ text. Reads text c.in_ok-rules.rules) c.as_slice.ensures.value c.in_ok-rules.ensures.ok in
    begun_of_text _ _ _ _ c.in_ok-text.ensures reads _ _ _
    (c.answer_questions.ensures.beginning (λ builder. (refl, refl)))
