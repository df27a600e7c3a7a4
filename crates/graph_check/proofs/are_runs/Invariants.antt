use Rattle.std.proofs.Common.{◌≡◌, ◌≤◌, ◌+◌, take}
use Rattle.graph_check.specs.Words.{has_sort, AreRunsOfSort}
use Rattle.graph_check.proofs.are_runs.Given as goal
use Rattle.graph_check.specs.Below.{verdicts}

-- the nodes so far are runs, and each has started one frame at most
abbrev pub invariant-loop-node : goal.invariant-loop-node
invariant-loop-node g l = record {
  runs : AreRunsOfSort (has_sort (verdicts g.D.Cx.Cx) l.sort) (g.D.Delegate.script l.cx) (take l.node-index l.nodes);
  frames : g.D.Delegate.starts l.inspect ≤ g.D.Delegate.starts l.initial.inspect + l.node-index;
  same_noop : g.D.Delegate.noop l.inspect ≡ g.D.Delegate.noop l.initial.inspect;
}
