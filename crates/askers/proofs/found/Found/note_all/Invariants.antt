use Rattle.std.proofs.Common.{Contains, take}
use Rattle.askers.specs.Found.{Finds}
use Rattle.askers.proofs.found.Found.note_all.Given as goal

abbrev pub invariant-loop-goal : goal.invariant-loop-goal
invariant-loop-goal g l =
    Finds g.I.PartialEq.eq (λ other. Contains (take l.goal-index l.goals) other) l.fn.self l.self
