use Rattle.std.proofs.Common.{◌≡◌, length, rules}
use Rattle.conversation_lines.proofs.Taken.{none_passed, passed_kept, read_end, read_newline, read_other}
use Rattle.conversation_lines.proofs.input.pass_over.Goals as goal
use Rattle.conversation_lines.proofs.input.pass_over.Goals.{in-Ok+else-byte-eq-NEWLINE, in-Err+else-ne}

pub loop-init : goal.loop-init
loop-init g c = none_passed _

pub loop-preserved : goal.loop-preserved
loop-preserved g c = elim c.match-read.branch [
  | in-Ok+else-byte-eq-NEWLINE w ↦ let room : length c.read.new.buf ≡ 1 = search rules in
      read_other _ _ _ c.loop.invariant c.read.new.buf room w.in-Ok.field-0 w.in-Ok.ensures.bytes
      w.in-Ok.ensures.bound.0 w.in-Ok.field-0-test.1 w.if-byte-eq-NEWLINE.false
  | in-Err+else-ne w ↦ passed_kept _ _ _ c.loop.invariant (rw w.in-Err.is at c.read.ensures.bytes)
]

pub returns-in-Ok-eq0 : goal.returns-in-Ok-eq0
returns-in-Ok-eq0 g c =
    let room : length c.read.new.buf ≡ 1 = search rules in
    read_end _ _ _ c.loop.invariant c.read.new.buf room c.in-Ok-eq0.field-0 c.in-Ok-eq0.ensures.bytes
    c.in-Ok-eq0.field-0-test

pub returns-then-byte-eq-NEWLINE : goal.returns-then-byte-eq-NEWLINE
returns-then-byte-eq-NEWLINE g c =
    let room : length c.read.new.buf ≡ 1 = search rules in
    read_newline _ _ _ c.loop.invariant c.read.new.buf room c.in-Ok.field-0 c.in-Ok.ensures.bytes
    c.in-Ok.ensures.bound.0 c.in-Ok.field-0-test.1 c.if-byte-eq-NEWLINE.true
