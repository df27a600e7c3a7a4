use Rattle.conversations.proofs.Turning.{unread}
use Rattle.conversations.proofs.turns.buffered.Goals as goal

pub returns-in-Ok-clause-unread : goal.returns-in-Ok-clause-unread
returns-in-Ok-clause-unread g c =
    unread g.R.Read.remaining c.in-Ok.reader c.args.input c.in-Ok.ensures.inner c.in-Ok.ensures.empty
    c.in-Ok.ensures.capacity
