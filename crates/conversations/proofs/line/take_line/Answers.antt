use Rattle.std.proofs.Common.{◌∙◌, Err, ap, refl}
use Rattle.rule_tables.proofs.Lines.{short_names}
use Rattle.conversations.specs.Conversation.{PassedOver}
use Rattle.conversations.proofs.Taking.{malformed_takes, refused_takes, took, unchanged}
use Rattle.conversations.proofs.line.take_line.Goals as goal

pub add_rule-requires-clause-questions : goal.add_rule-requires-clause-questions
add_rule-requires-clause-questions c =
    let said = rw (c.in-Ok-OfTable-Rule.field-0-is, c.in-Ok-OfTable-Rule.field-0-0-is)
    at c.in-Ok-OfTable-Rule.ensures.ok in
    rw c.as_slice.ensures (short_names said.asked c.in-Ok-OfTable-Rule.questions.items said.are_questions)

pub returns-in-Ok-OfTable-PassedOver-clause-took : goal.returns-in-Ok-OfTable-PassedOver-clause-took
returns-in-Ok-OfTable-PassedOver-clause-took c = λ changes table.
    took _ changes _ _ _ _ _ PassedOver
    (rw (c.in-Ok-OfTable-PassedOver.field-0-is, c.in-Ok-OfTable-PassedOver.field-0-0-is)
    at c.in-Ok-OfTable-PassedOver.ensures.ok)
    (unchanged changes _ table) c.clear.ensures.items refl

pub returns-in-Err-Malformed-clause-took : goal.returns-in-Err-Malformed-clause-took
returns-in-Err-Malformed-clause-took c =
    malformed_takes _ _ _ (λ changes table. table) _ _ _
    (λ changes. c.said_by.ensures.malformed (c.in-Err-Malformed.is ∙ ap Err c.in-Err-Malformed.field-0-is))
    c.tell_malformed.result c.tell_malformed.ensures.words c.tell_malformed.ensures.not_fine

pub returns-in-Err-Memory-clause-took : goal.returns-in-Err-Memory-clause-took
returns-in-Err-Memory-clause-took c =
    refused_takes _ _ _ (λ changes table. table) _ _ _ (λ changes. tt)
    c.tell_refused.result c.tell_refused.ensures.words c.tell_refused.ensures.not_fine
