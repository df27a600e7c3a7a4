-- The words of this crate, from one place.
pub use Rattle.open_graphs.specs.AnswerLaws.{CycleIsAnswered, DoneIsAnswered, FinalIsAnswered, OneAnswerKeepsSound}
pub use Rattle.open_graphs.specs.AnswerLaws.{ProvisionalIsAnswered, with_edge}
pub use Rattle.open_graphs.specs.Graph.{Avoids, cycle_kind, Edge, end, Finished, go, Grown, has_verdict, HasShapeEdge}
pub use Rattle.open_graphs.specs.Graph.{IsFinished, IsClosedGraph, Neither, No, Node, Path, same_verdict, stay}
pub use Rattle.open_graphs.specs.Graph.{then, Unfinished}
pub use Rattle.open_graphs.specs.Graph.{Verdict, Walk, Yes}
pub use Rattle.open_graphs.specs.Rebased.{Ambiguity, Coinductive, ForcedAmbiguity, HasResult, Inductive}
pub use Rattle.open_graphs.specs.Rebased.{IsInitial, IsRebasable, IsSingle, IsTakenOut}
pub use Rattle.open_graphs.specs.Rebased.{IsTrueReason, Needed, NoCycleUsages, NotNeeded, Overflow}
pub use Rattle.open_graphs.specs.Rebased.{ReachedFixpoint, Reason, RebasedIsAfterPop}
pub use Rattle.open_graphs.specs.Rebased.{RebasedKeepsStored, Stays, Unknown}
pub use Rattle.open_graphs.specs.Run.{Again, AllAnswered, Anew, Answered, IsAnsweredEdge, IsRunsNode, IsStack}
pub use Rattle.open_graphs.specs.Run.{Running, Without}
pub use Rattle.open_graphs.specs.Stack.{Accepts, DistinctNodes, Entry, greatest, IsLeaf, IsSameOrFresh, path_kind}
pub use Rattle.open_graphs.specs.Stack.{path_through}
pub use Rattle.open_graphs.specs.State.{AfterPop, AllFinal, AllRunning, AllProvisional, answering, Final}
pub use Rattle.open_graphs.specs.State.{in_first_run, Fixpoint}
pub use Rattle.open_graphs.specs.State.{RunningGoal, IsFixpoint, IsMoved, IsOther, IsSoundState, ProvisionalEntry}
pub use Rattle.open_graphs.specs.State.{Lower, in_next_run, no_heads}
pub use Rattle.open_graphs.specs.State.{Other, OwnsOther, stack_of, Unused}
pub use Rattle.open_graphs.specs.StateLaws.{Added, AnswersKeepSound, Before, FinalIsGraph, IsFinalAfter}
pub use Rattle.open_graphs.specs.StateLaws.{IsLeft, Now, PopKeepsSound, PushKeepsSound, RerunKeepsSound, StartIsSound}
pub use Rattle.open_graphs.specs.StateLaws.{Survives}
pub use Rattle.open_graphs.specs.TakeOver.{KeepsCycleKinds, TakesOver}
pub use Rattle.open_graphs.specs.Use.{Head, Heads, HeadsWithin, Includes, IncludesBelow, Recorded, OpenGraph}
pub use Rattle.open_graphs.specs.Use.{Step, ProvisionalUse}
pub use Rattle.open_graphs.specs.Use.{Unreached, Use, UsesNo}
