-- The words of this crate, from one place.
pub use Rattle.evaluations.specs.Enclosed.{AreDistinct, IsEnclosed, StayEnclosed}
pub use Rattle.evaluations.specs.Evaluation.{Answered, at, Ends, GoesOn, MeetsNone, IsEvaluating, IsRooted}
pub use Rattle.evaluations.specs.Evaluation.{IsStarted, Limits}
pub use Rattle.evaluations.specs.Evaluation.{Move, Popped, PoppedAtLimit, Pushed, Refused, RunAgain, State, Stops}
pub use Rattle.evaluations.specs.EvaluationLaws.{EnclosedRefusesNone, EvaluationStops, FailedStartStops}
pub use Rattle.evaluations.specs.EvaluationLaws.{FittingMeetsNoLimit, LastFrameEnds}
pub use Rattle.evaluations.specs.EvaluationLaws.{LastRunEnds, MoveGoesOn, RootIsEvaluating}
pub use Rattle.evaluations.specs.Frames.{answered, Asks, AsksAt, Frame, fresh, IsAllowed, Outcome, refused, replied}
pub use Rattle.evaluations.specs.Frames.{run_again, stepped}
pub use Rattle.evaluations.specs.Mirror.{AreSeen, HasRequested, IsAmong, IsPending, IsSeen, ItemLeaves, Mirror}
pub use Rattle.evaluations.specs.Mirror.{TakesReply, TakesStep, Waits, with_replies, work}
pub use Rattle.evaluations.specs.Plain.{AreSafe, HasRoom, HaveRoom, IsOnStack, IsSafe, IsSafeOutcome, LeavesOutcome}
pub use Rattle.evaluations.specs.Price.{frames_started, HasCounted, HaveFullDepths, IsPrice, IsPriced}
pub use Rattle.evaluations.specs.Starts.{frames_ahead, frames_ahead_of, frames_below, Spends, StaysWithin, steps_ahead}
pub use Rattle.evaluations.specs.Starts.{steps_in_runs}
