use Rattle.std.proofs.Common.{◌∷◌, length, refl}
use Rattle.graph_words.proofs.Lists.{list_more, puts_none, puts_word}
use Rattle.graph_words.proofs.writing.write_replies.Goals as goal
use Rattle.graph_words.specs.Words.{reply_words}

pub loop-reply-preserved : goal.loop-reply-preserved
loop-reply-preserved c =
    let one = puts_word c.loop-reply.words.items c.loop-reply.words.items c.push-in-loop-reply.new.self.items _ _
    (λ rest. rest) (puts_none c.loop-reply.words.items) c.in_ok-push-2.ensures.items c.reply_word.ensures in
    list_more reply_words c.args.words.now.items c.loop-reply.words.items c.push-in-loop-reply.new.self.items
    (λ rest. length c.args.replies.now ∷ rest) c.args.replies.now c.loop-reply.reply-index _ _ c.loop-reply-test.true
    refl c.loop-reply.invariant one
