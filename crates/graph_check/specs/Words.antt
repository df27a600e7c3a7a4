-- The words of this crate, from one place.
pub use Rattle.graph_check.specs.Replay.{IsReplayOf, asked_in, asked_of, has_sort, is_answer, is_orderly}
pub use Rattle.graph_check.specs.Replay.{IsLegal, nothing_replayed, open_number, question_asked}
pub use Rattle.graph_check.specs.Replay.{questions_counted, Replayed}
pub use Rattle.graph_check.specs.Replay.{Replays, replied, requested}
pub use Rattle.graph_check.specs.Runs.{AreRunsOfSort}
pub use Rattle.graph_check.specs.Walks.{HasCycle, HasInnerEdge, IsBetween, IsGreater, IsLesser, leads_to, steps_over}
pub use Rattle.graph_check.specs.Walks.{targets_over}
