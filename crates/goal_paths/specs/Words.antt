-- The words of this crate, from one place.
pub use Rattle.goal_paths.specs.Nested.{after_step, goals_in, held, HasNoStep, HasOwn, joined_paths, JoinsEach}
pub use Rattle.goal_paths.specs.Nested.{JoinsPaths, NestedPaths, paths_at}
pub use Rattle.goal_paths.specs.Raises.{AreNoted, noted_now, paths_noted, paths_now, raised}
pub use Rattle.goal_paths.specs.StackIndex.{IsIndex}
pub use Rattle.goal_paths.specs.Steps.{AreLastSteps, kind_by, kind_past, TellsKinds, with_step}
