use Rattle.std.specs.List.{IsDistinct}
use Rattle.goal_paths.proofs.goal_list.GoalList.new.Goals as goal

-- no two goals of none are the same
pub invariant_of-result : goal.invariant_of-result
unfolding IsDistinct
invariant_of-result g c = rw c.new.ensures.items tt
