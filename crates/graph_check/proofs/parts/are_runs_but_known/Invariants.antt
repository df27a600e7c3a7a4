use Rattle.std.proofs.Common.{◌≡◌, ◌≤◌, ◌+◌, ◌<◌, ℕ, Some, false, slice_get}
use Rattle.graph_check.specs.Below.{IsRunOfSort, Node, verdicts}
use Rattle.graph_check.specs.Words.{has_sort}
use Rattle.graph_check.proofs.parts.are_runs_but_known.Given as goal

-- the nodes so far are runs, unless they are known, and each has started one frame at most
abbrev pub invariant-loop-place : goal.invariant-loop-place
invariant-loop-place g l = record {
  runs : (at : ℕ) (n : Node _ _) → at < l.place → slice_get l.nodes at ≡ Some n → slice_get l.known at ≡ Some false
      → IsRunOfSort (has_sort (verdicts g.D.Cx.Cx) l.sort) (g.D.Delegate.script l.cx n.input) n;
  frames : g.D.Delegate.starts l.inspect ≤ g.D.Delegate.starts l.initial.inspect + l.place;
  same_noop : g.D.Delegate.noop l.inspect ≡ g.D.Delegate.noop l.initial.inspect;
}
