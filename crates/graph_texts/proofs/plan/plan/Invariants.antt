use Rattle.std.proofs.Common.{◌≡◌, length}
use Rattle.graph_texts.specs.Plan.{AreCutBelow, IsReplayed, ShowsSeen, pending_of}
use Rattle.graph_texts.proofs.plan.plan.Given as goal

abbrev pub invariant-loop : goal.invariant-loop
invariant-loop l = record {
  walk : ShowsSeen l.walk.lines.items l.walk.marks.items;
  deep : AreCutBelow l.most (length l.nodes) l.walk.lines.items;
  count : length l.walk.marks.items ≡ length l.nodes;
  most : l.walk.most ≡ l.most;
  replayed : IsReplayed l.nodes l.walk.lines.items (pending_of l.walk.stack.items);
}
