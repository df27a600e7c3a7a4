use Rattle.std.specs.Io.Buffered.{reader_remaining}
use Rattle.conversations.proofs.Turning.{SoFar}
use Rattle.conversations.proofs.turns.hold.Given as goal

-- so many lines were taken, and what is told of them was written
abbrev pub invariant-loop-before : goal.invariant-loop-before
invariant-loop-before g l =
    SoFar g.K.TakesLines.may_come (g.R.Read.remaining l.fn.input) (reader_remaining g.R.Read.remaining l.input)
    (g.W.Write.contents l.fn.out) (g.W.Write.contents l.out) (g.K.TakesLines.table l.known) l.before l.all_fine
