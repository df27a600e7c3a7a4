use Rattle.std.proofs.Common.{◌∙◌, ◌++◌, ap}
use Rattle.answer_lines.specs.Goals.{line_told}
use Rattle.conversations.specs.Conversation.{Answered}
use Rattle.conversations.proofs.Taking.{refused_takes, took, unchanged}
use Rattle.conversations.proofs.line.ask.Goals as goal

pub returns-in-Err-clause-took : goal.returns-in-Err-clause-took
returns-in-Err-clause-took c = λ line says.
    refused_takes _ _ _ c.ask.ensures.table _ _ _ (λ changes. tt) c.tell_refused.result c.tell_refused.ensures.words
    c.tell_refused.ensures.not_fine

pub returns-in-Ok-write_line-clause-took : goal.returns-in-Ok-write_line-clause-took
returns-in-Ok-write_line-clause-took c = λ line says changes table.
    took _ changes _ _ line _ _ (Answered _ _) (c.args.depth, says, c.in-Ok.ensures.answered changes table)
    (unchanged changes _ (c.ask.ensures.table changes table))
    (c.in-Ok-write_line.ensures ∙ ap (λ bytes. bytes ++ line_told c.args.name.now c.in-Ok.came) c.clear.ensures.items)
    c.came_fine.ensures
