use Rattle.std.proofs.Common.{take}
use Rattle.std.specs.Io.KnownBytes.{Appends}
use Rattle.proof_trees.specs.Text.{text_of}
use Rattle.proof_trees.proofs.writing.write_entries.Given as goal

-- so many entries are written
abbrev pub invariant-loop-entry : goal.invariant-loop-entry
invariant-loop-entry g l =
    let contents = g.W.Write.contents in
    let words = g.N.Words in
    Appends (contents l.fn.out) (contents l.out) (text_of (record {
      kind = words.kind_words l.words;
      goal = words.goal_words l.words;
      outcome = words.result_words l.words;
    }) (take l.entry-index l.entries))
