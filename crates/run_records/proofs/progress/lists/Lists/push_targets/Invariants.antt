use Rattle.std.proofs.Common.{All, take}
use Rattle.run_records.specs.Words.{HasTarget}
use Rattle.run_records.proofs.Nodes.{Kept}
use Rattle.run_records.proofs.progress.lists.Lists.push_targets.Given as goal

-- what was there is kept, and the nodes of the answers so far are there
abbrev pub invariant-loop-packed : goal.invariant-loop-packed
invariant-loop-packed g l = record {
  kept : Kept l.initial.nodes.items l.nodes.items;
  so_far : All (HasTarget l.nodes.items) (take l.packed-index l.self.answers);
}
