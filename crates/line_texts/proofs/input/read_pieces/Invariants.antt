use Rattle.std.proofs.Common.{ℕ, List, Option}
use Rattle.std.specs.Io.KnownBytes.{Consumes}
use Rattle.line_texts.proofs.input.read_pieces.Given as goal

abbrev pub invariant-loop : goal.invariant-loop
invariant-loop g l =
    let remaining = g.R.Read.remaining in (all : Option (List ℕ)) → Consumes all (remaining l.fn.input) l.fn.text.items
    → Consumes all (remaining l.input) l.text.items
