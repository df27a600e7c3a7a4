use Rattle.table_runs.specs.Parts.{AllAreShown}
use Rattle.table_runs.specs.Right.{AreShown}
use Rattle.table_runs.proofs.program.parts.remember.Given as goal

-- what is remembered so far is shown
abbrev pub invariant-loop-place : goal.invariant-loop-place
invariant-loop-place g l = (cx : g.row.X.Denot) → AllAreShown g.X.Cx cx l.part.graph.nodes.items
    → AreShown g.X.Cx cx l.initial.shown.entries → AreShown g.X.Cx cx l.shown.entries
