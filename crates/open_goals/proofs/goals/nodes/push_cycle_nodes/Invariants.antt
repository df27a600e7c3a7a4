use Rattle.std.proofs.Common.{All, take}
use Rattle.open_goals.specs.Nodes.{HasCycleNode}
use Rattle.run_records.proofs.Nodes.{Kept}
use Rattle.open_goals.proofs.goals.nodes.push_cycle_nodes.Given as goal

-- what was there is kept, and the nodes of the goals so far are there
abbrev pub invariant-loop-place : goal.invariant-loop-place
invariant-loop-place g l = record {
  kept : Kept l.initial.nodes.items l.nodes.items;
  so_far : All (HasCycleNode l.nodes.items) (take l.place l.stack);
}
