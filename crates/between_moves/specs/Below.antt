-- What the crates below have, from one place.
pub use Rattle.path_kinds.specs.declared.path.PathKind.{PathKind}
pub use Rattle.search_context.specs.Delegate.{CountsOne, KeepsBuilder}
pub use Rattle.search_context.specs.Verdicts.{verdicts}
pub use Rattle.search_context.specs.declared.context.Cx.{Ghosts as CxOf}
pub use Rattle.search_context.specs.declared.context.Delegate.{Ghosts as DelegateOf}
pub use Rattle.search_context.specs.declared.context.Fault.{Fault}
pub use Rattle.search_context.specs.declared.context.NodeId.{NodeId}
pub use Rattle.search_context.specs.declared.context.Request.{Request}
pub use Rattle.search_context.specs.declared.context.Request.TheVariants.{Evaluate}
pub use Rattle.graph_nodes.specs.Nodes.{CacheNode, KeepsFinished, KeepsNodes}
pub use Rattle.global_cache.specs.Cache.{Cache}
pub use Rattle.global_cache.specs.Store.{KeepsResults}
pub use Rattle.goal_changes.specs.declared.Next.{Next}
pub use Rattle.run_records.specs.declared.runs.Received.{Received}
pub use Rattle.goal_changes.specs.OpenGoal.{OpenGoal}
pub use Rattle.search_rules.specs.Fates.{ChangesNewest}
pub use Rattle.search_rules.specs.Runs.{KeepsBut}
pub use Rattle.search_rules.specs.Runs.{KeepsEarlier, StayFrom}
