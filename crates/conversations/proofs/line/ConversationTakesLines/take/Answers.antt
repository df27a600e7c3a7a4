use Rattle.conversations.proofs.Taking.{refused_takes}
use Rattle.conversations.proofs.line.ConversationTakesLines.take.Goals as goal

pub returns-else-end-clause-took : goal.returns-else-end-clause-took
returns-else-end-clause-took c = λ bytes whole.
    refused_takes _ _ _ (λ changes table. table) _ _ _ (λ changes. tt)
    c.tell_refused.result c.tell_refused.ensures.words c.tell_refused.ensures.not_fine
