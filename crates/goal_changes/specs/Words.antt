-- The words of this crate, from one place.
pub use Rattle.goal_changes.specs.Candidates.{CanIgnore, CanIgnoreNewest, CanIgnoreUsages, CanNote, Covers}
pub use Rattle.goal_changes.specs.Candidates.{enters, Ignores}
pub use Rattle.goal_changes.specs.Candidates.{IgnoresNewest, IgnoresUsages, records_candidate, leaves}
pub use Rattle.goal_changes.specs.Candidates.{less_head, less_usages}
pub use Rattle.goal_changes.specs.Candidates.{NotesCandidate, usages_at, with_replaced, without_head}
pub use Rattle.goal_changes.specs.Entries.{candidate_over, cycle_head, is_in_cycle, joined_over}
pub use Rattle.goal_changes.specs.Entries.{rerun_under, some_heads}
pub use Rattle.goal_changes.specs.Entries.{TakesHeads, usages_over, with_depth, with_nested_goals, with_used_head}
pub use Rattle.goal_changes.specs.Items.{AnswersNewest, rerun_with}
pub use Rattle.goal_changes.specs.NestedGoals.{ChangesNested, Joined, LeavesAnswer, NotesOverflow, TakesHeadGoal}
pub use Rattle.goal_changes.specs.NestedGoals.{TakesNestedGoals, TakesStored}
pub use Rattle.goal_changes.specs.Newest.{change_newest, newest, paired}
pub use Rattle.goal_changes.specs.OpenGoal.{OpenGoal}
pub use Rattle.goal_changes.specs.Steps.{CanStep, HasStepped, IsStepFault, NoMemoryLeft, OutOfOrder}
