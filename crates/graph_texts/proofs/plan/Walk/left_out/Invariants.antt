use Rattle.std.proofs.Common.{◌≡◌, ◌≤◌}
use Rattle.graph_texts.specs.Plan.{left_out}
use Rattle.graph_texts.proofs.plan.Walk.left_out.Given as goal

abbrev pub invariant-loop-mark : goal.invariant-loop-mark
invariant-loop-mark l = record {
  count : l.left ≡ left_out l.mark-index l.self.lines.items;
  within : l.left ≤ l.mark-index;
}
