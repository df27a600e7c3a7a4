use Rattle.std.proofs.Common.{◌-◌, vec_len, vec_capacity}
use Rattle.std.specs.List.{IsDistinct}
use Rattle.std.specs.Map.{keys_of}
use Rattle.goal_paths.specs.Words.{after_step}
use Rattle.goal_paths.proofs.NestedLists.{IsJoining}
use Rattle.goal_paths.proofs.goal_list.join_all.Given as goal

abbrev pub invariant-loop-input : goal.invariant-loop-input
invariant-loop-input g l =
    IsJoining g.I.PartialEq.eq (after_step l.step) l.initial.goals.items l.goals.items
    l.initial.input-iterator l.input-iterator (vec_capacity l.goals - vec_len l.goals)
    × IsDistinct g.I.PartialEq.eq (keys_of l.goals.items)
