-- Where goals with the paths to them are: few stand in a list, and many in a map.
use Rattle.std.specs.Slice.Iter.{iter_rest}
use Rattle.goal_paths.specs.Nested.{NestedPaths}
use Rattle.goal_paths.specs.Raises.{paths_noted}
use Rattle.goal_paths.specs.declared.noted_goals.Goals.{Goals}
use Rattle.goal_paths.specs.declared.noted_goals.Goals.TheVariants as kept
use Rattle.goal_paths.specs.declared.noted_goals.GoalsLeft.{GoalsLeft}
use Rattle.goal_paths.specs.declared.noted_goals.GoalsLeft.TheVariants as left

module _ {I : Type 0} where
  abbrev pub goals_of : Goals I → NestedPaths I
  goals_of (kept.Few goals) = goals
  goals_of (kept.Many goals) = goals.value

  abbrev pub goals_left : GoalsLeft I → NestedPaths I
  goals_left (left.Few goals) = iter_rest goals
  goals_left (left.Many goals) = paths_noted goals.raises goals.noted
