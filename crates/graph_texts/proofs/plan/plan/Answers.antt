use Rattle.std.proofs.Common.{rules}
use Rattle.graph_texts.proofs.Plans.{walk_begins}
use Rattle.graph_texts.proofs.Replay.{walk_ended}
use Rattle.graph_texts.proofs.plan.plan.Goals as goal

pub meet-requires-clause-walk : goal.meet-requires-clause-walk
meet-requires-clause-walk c =
    walk_begins _ _ _ c.new.ensures.items (c.in_ok-from_elem.ensures.items_if_clones_equal (λ y h. h))

pub returns-then-not-branch-clause-whole : goal.returns-then-not-branch-clause-whole
returns-then-not-branch-clause-whole c = walk_ended c.args.nodes.now c.advance.new.self.lines.items
    c.advance.new.self.stack.items c.in_ok-advance.ensures.replayed (c.in_ok-advance.ensures.end (search rules))
