use Rattle.std.proofs.Common.{subst}
use Rattle.trees.specs.Below.{Reads}
use Rattle.line_texts.proofs.Questions.{begun_of_text, told_of_text}
use Rattle.trees.proofs.Trees.{sees_records}
use Rattle.trees.proofs.program.show_input.Goals as goal

pub show_questions-requires : goal.show_questions-requires
show_questions-requires g c = record { sees = sees_records }

pub returns-clause-told : goal.returns-clause-told
returns-clause-told g c =
    let reads = subst (λ text. Reads text c.in_ok-rules.rules) c.as_slice.ensures.value c.in_ok-rules.ensures.ok in
    told_of_text _ _ _ _ c.in_ok-text.ensures reads _ _ c.show_questions.ensures.told

pub returns-clause-beginning : goal.returns-clause-beginning
returns-clause-beginning g c =
    let reads = subst (λ text. Reads text c.in_ok-rules.rules) c.as_slice.ensures.value c.in_ok-rules.ensures.ok in
    begun_of_text _ _ _ _ c.in_ok-text.ensures reads _ _ _ c.show_questions.ensures.beginning
