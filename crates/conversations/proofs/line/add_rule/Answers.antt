use Rattle.std.proofs.Common.{refl}
use Rattle.conversations.specs.Conversation.{Changed}
use Rattle.conversations.proofs.Taking.{refused_takes, took}
use Rattle.conversations.proofs.line.add_rule.Goals as goal

pub returns-in-Ok-clause-took : goal.returns-in-Ok-clause-took
returns-in-Ok-clause-took c = λ line says changes table.
    took _ changes _ _ line _ _ (Changed _) says (c.in-Ok.ensures.added changes table) c.clear.ensures.items refl

pub returns-in-Err-clause-took : goal.returns-in-Err-clause-took
returns-in-Err-clause-took c = λ line says.
    refused_takes _ _ _ c.in-Err.ensures.refused _ _ _ (λ changes. tt) c.tell_refused.result
    c.tell_refused.ensures.words
    c.tell_refused.ensures.not_fine
