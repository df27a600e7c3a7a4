use Rattle.std.proofs.Common.{All, take}
use Rattle.run_records.specs.Words.{HasRunNodes}
use Rattle.run_records.proofs.Nodes.{Kept}
use Rattle.run_records.proofs.runs.push_run_nodes.Given as goal

-- what was there is kept, and the nodes of the runs so far are there
abbrev pub invariant-loop-run : goal.invariant-loop-run
invariant-loop-run g l = record {
  kept : Kept l.initial.nodes.items l.nodes.items;
  so_far : All (HasRunNodes l.nodes.items) (take l.run-index l.runs);
}
