-- The words of this crate, from one place.
pub use Rattle.lean_runs.specs.Backed.{Beyond, OfAnswer, verdict_shape}
pub use Rattle.lean_runs.specs.Lean.{AreAnsweredAgain, GivesAgain, HasReplayed, IsAnsweredAgain, IsBackedEdge}
pub use Rattle.lean_runs.specs.Lean.{IsBackedQuestion, IsGuide, IsGuided, IsLeanRun, IsRecordFor, IsReplaying}
pub use Rattle.lean_runs.specs.Lean.{LeadsTo, OnRecord, Refused}
