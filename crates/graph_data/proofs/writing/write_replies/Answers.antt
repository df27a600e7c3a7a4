use Rattle.std.proofs.Common.{codes, refl}
use Rattle.graph_data.proofs.Spelling.{list_more, puts_none, puts_string}
use Rattle.graph_data.proofs.writing.write_replies.Goals as goal
use Rattle.graph_data.specs.Data.{reply_tokens}

pub loop-reply-preserved : goal.loop-reply-preserved
loop-reply-preserved c =
    let one = puts_string c.loop-reply.writer c.loop-reply.writer c.string.new.self _ _ _
    (puts_none c.loop-reply.writer) c.in_ok-string.ensures.ok c.in_ok-string.ensures.room.0 c.word_of_reply.ensures in
    list_more (codes "replies") reply_tokens c.args.writer.now c.loop-reply.writer c.string.new.self c.args.replies.now
    c.loop-reply.reply-index _ _ c.loop-reply-test.true refl c.loop-reply.invariant one
