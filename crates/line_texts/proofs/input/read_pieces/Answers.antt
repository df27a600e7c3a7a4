use Rattle.line_texts.proofs.Bytes.{consumes_more}
use Rattle.line_texts.proofs.input.read_pieces.Goals as goal

pub loop-preserved : goal.loop-preserved
loop-preserved g c = let appended = c.in_ok-extend_from_slice.ensures.items in
    λ all before. rw appended (consumes_more _ _ _ _ _ (c.loop.invariant all before) c.in_ok-count.ensures.bytes.0)
