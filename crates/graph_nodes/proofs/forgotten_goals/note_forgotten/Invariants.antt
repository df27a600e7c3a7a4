use Rattle.std.proofs.Common.{map}
use Rattle.std.specs.Map.Iter.{deref}
use Rattle.graph_nodes.specs.Words.{Forgets, is_among}
use Rattle.graph_nodes.proofs.forgotten_goals.note_forgotten.Given as goal

abbrev pub invariant-loop-goal : goal.invariant-loop-goal
invariant-loop-goal g l =
    Forgets g.I.PartialEq.eq (is_among g.I.PartialEq.eq (map deref l.yielded)) l.next l.fn.forgotten.entries
    l.forgotten.entries
