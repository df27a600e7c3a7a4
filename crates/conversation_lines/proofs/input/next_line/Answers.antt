use Rattle.std.proofs.Common.{◌≡◌, [], ap, sym}
use Rattle.std.proofs.lemmas.Bool.{false≢true}
use Rattle.conversation_lines.proofs.Taken.{passed_line_over, refused_line, whole_line}
use Rattle.conversation_lines.proofs.input.next_line.Goals as goal

pub returns-in-Ok : goal.returns-in-Ok
returns-in-Ok g c =
    let cleared : c.clear.new.self.items ≡ [] = c.clear.ensures.items in
    let read = c.read_until-came.ensures in
    let bytes = c.read_until-came.new.buf.items in
    record {
      taken = (
        _,
        whole_line _ _ bytes (rw cleared at read.stops) (rw cleared at read.none_lost) _
            c.take_newline-has_newline.ensures.value (rw cleared at c.in-Ok.ensures.bytes) c.in-Ok.ensures.rest,
        λ _. c.take_newline-has_newline.ensures.line,
      );
    }

pub returns-then-has_newline : goal.returns-then-has_newline
returns-then-has_newline g c =
    let cleared : c.clear.new.self.items ≡ [] = c.clear.ensures.items in
    let read = c.read_until-came.ensures in
    let bytes = c.read_until-came.new.buf.items in
    record {
      taken = (
        _,
        refused_line _ _ bytes (rw cleared at read.stops) (rw cleared at read.none_lost) _
            c.take_newline-has_newline.ensures.value c.if-has_newline.true,
        λ is. absurd (false≢true is),
      );
    }

pub returns-in_ok-is_last-in-Err : goal.returns-in_ok-is_last-in-Err
returns-in_ok-is_last-in-Err g c =
    let cleared : c.clear.new.self.items ≡ [] = c.clear.ensures.items in
    let read = c.read_until-came.ensures in
    let bytes = c.read_until-came.new.buf.items in
    let over = passed_line_over _ _ _ bytes (rw cleared at read.stops) (rw cleared at read.none_lost) _
    c.take_newline-has_newline.ensures.value c.if-has_newline.false _ c.in_ok-is_last-in-Err.ensures in
    record { taken = (over.0, over.1, λ is. absurd (false≢true is)) }
