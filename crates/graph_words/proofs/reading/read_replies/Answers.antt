use Rattle.std.proofs.Common.{◌∷◌, arith}
use Rattle.graph_words.proofs.Lists.{length-pushed, read_more}
use Rattle.graph_words.proofs.Readback.{counted_left, reply_parts}
use Rattle.graph_words.proofs.Stops.{stops_before}
use Rattle.graph_words.proofs.reading.read_replies.Goals as goal
use Rattle.graph_words.specs.Words.{reply_words}

pub loop-preserved : goal.loop-preserved
loop-preserved c = record {
  spelled = read_more reply_words (λ words. c.in_ok-count.count ∷ words) c.loop.replies.items _ _ _ _ _
      c.loop.invariant.spelled
      c.in_ok-reply.ensures.read c.in_ok-push.ensures.items;
  many = length-pushed c.loop.replies.items _ _ _ c.in_ok-push.ensures.items c.loop.invariant.many;
}

pub returns-in_err-reply-clause-refused : goal.returns-in_err-reply-clause-refused
returns-in_err-reply-clause-refused c =
    stops_before _ _ _ _ (λ all. counted_left reply_words reply_parts _ c.loop.replies.items _ _
    c.loop.invariant.spelled (omega (arith, c.loop.invariant.many, c.loop-test.true)) all)
    c.from_residual-in_err-reply.ensures.1 c.in_err-reply.ensures.refused
