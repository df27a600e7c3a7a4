use Rattle.std.proofs.Common.{◌≤◌}
use Rattle.run_records.proofs.progress.lists.Lists.edge_count.Given as goal

abbrev pub invariant-loop-packed : goal.invariant-loop-packed
invariant-loop-packed g l = l.count ≤ l.packed-index
