use Rattle.std.proofs.Common.{◌∷◌, codes, take}
use Rattle.json.specs.Token.{begin_array, key}
use Rattle.graph_data.proofs.writing.write_replies.Given as goal
use Rattle.graph_data.specs.Data.{list_tokens, PutsTokens, reply_tokens}

-- so many are written
abbrev pub invariant-loop-reply : goal.invariant-loop-reply
invariant-loop-reply l = PutsTokens l.fn.writer l.writer
    (λ rest. key (codes "replies") ∷ begin_array ∷ list_tokens reply_tokens (take l.reply-index l.replies) rest)
