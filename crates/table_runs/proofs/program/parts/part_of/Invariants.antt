use Rattle.std.proofs.Common.{◌≡◌, length}
use Rattle.table_runs.specs.Parts.{KnownAreShown}
use Rattle.table_runs.specs.Right.{AreShown}
use Rattle.table_runs.proofs.program.parts.part_of.Given as goal

-- each node so far has its mark, and those that are known are shown
abbrev pub invariant-loop-place : goal.invariant-loop-place
invariant-loop-place g l = record {
  each : length l.known.items ≡ length l.nodes.items;
  known : AreShown g.X.Cx l.cache.cx l.shown.entries
      → KnownAreShown g.X.Cx l.cache.cx l.sort l.known.items l.nodes.items;
}
