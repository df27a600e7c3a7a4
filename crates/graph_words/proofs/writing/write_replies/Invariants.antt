use Rattle.std.proofs.Common.{◌∷◌, length, take}
use Rattle.graph_words.proofs.writing.write_replies.Given as goal
use Rattle.graph_words.specs.Words.{PutsWords, reply_words, list_words}

-- so many are written
abbrev pub invariant-loop-reply : goal.invariant-loop-reply
invariant-loop-reply l = PutsWords l.fn.words.items l.words.items
    (λ rest. length l.replies ∷ list_words reply_words (take l.reply-index l.replies) rest)
