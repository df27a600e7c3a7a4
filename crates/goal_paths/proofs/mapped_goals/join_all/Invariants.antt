use Rattle.std.specs.HashMap.{spare}
use Rattle.goal_paths.specs.Words.{after_step, AreNoted, paths_noted}
use Rattle.goal_paths.proofs.NestedLists.{IsJoining}
use Rattle.goal_paths.proofs.mapped_goals.join_all.Given as goal

abbrev pub invariant-loop-input : goal.invariant-loop-input
invariant-loop-input g l =
    IsJoining g.I.PartialEq.eq (after_step l.step) (paths_noted l.raises l.initial.goals.entries)
    (paths_noted l.raises l.goals.entries)
    l.initial.input-iterator l.input-iterator (spare l.goals)
    × AreNoted g.I.PartialEq.eq l.raises l.goals.entries
