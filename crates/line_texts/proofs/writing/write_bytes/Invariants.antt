use Rattle.std.proofs.Common.{◌≤◌, length, take}
use Rattle.std.specs.Io.KnownBytes.{Appends}
use Rattle.line_texts.proofs.writing.write_bytes.Given as goal

-- so many bytes are written
abbrev pub invariant-loop : goal.invariant-loop
invariant-loop g l = (l.written ≤ length l.bytes)
    × Appends (g.W.Write.contents l.fn.out) (g.W.Write.contents l.out) (take l.written l.bytes)
