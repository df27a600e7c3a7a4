use Rattle.std.proofs.Common.{arith, length-drop, take-add}
use Rattle.std.proofs.KnownBytes.{Appends-kept, Appends-trans}
use Rattle.line_texts.proofs.Bytes.{to_end}
use Rattle.line_texts.proofs.writing.write_bytes.Goals as goal
use Rattle.line_texts.proofs.writing.write_bytes.Goals.{in-Ok, in-Err+else-ne}

pub loop-preserved : goal.loop-preserved
loop-preserved g c =
    let so_far = c.loop.invariant in
    let all = c.args.bytes.now in
    let written = c.loop.written in
    elim c.match-write.branch [
      | in-Ok w ↦
          let more = rw (to_end all written) at w.in-Ok.ensures.bytes in
          let bound = rw (to_end all written) at w.in-Ok.ensures.bound in
          rw (w.written-is, take-add written w.in-Ok.more all)
          (omega (arith, so_far.0, bound, length-drop written all), Appends-trans _ _ _ _ _ so_far.1 more)
      | in-Err+else-ne w ↦ rw w.written-is (so_far.0, Appends-kept _ _ _ _ so_far.1 w.in-Err.ensures.bytes)
    ]
