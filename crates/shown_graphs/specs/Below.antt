-- What the crates below have, from one place.
pub use Rattle.delegate_parts.specs.Laws.{AreVerdicts}
pub use Rattle.delegate_parts.specs.declared.outcome.Outcome.{Outcome}
pub use Rattle.delegate_parts.specs.declared.outcome.Outcome.TheVariants.{Maybe, No, Overflow, Yes}
pub use Rattle.graph_nodes.specs.Definite.{HasGraph}
pub use Rattle.graph_nodes.specs.Nodes.{CacheNode}
pub use Rattle.path_kinds.specs.declared.path.PathKind.TheVariants.{Coinductive, Inductive}
pub use Rattle.rule_tables.specs.Rules.{questions_of}
pub use Rattle.rule_tables.specs.Text.{IsFirstBadLine, Reads}
pub use Rattle.rule_tables.specs.declared.rules.Goal.{Goal}
pub use Rattle.rule_tables.specs.declared.rules.Rules.{Rules}
pub use Rattle.search_context.specs.Rank.{IsPlainValue}
pub use Rattle.search_context.specs.Valid.{IsValid, IsValidFor}
pub use Rattle.search_context.specs.Verdicts.{IsDefinite, verdicts, Verdicts}
pub use Rattle.global_cache.specs.Cache.{Cache}
pub use Rattle.search_context.specs.declared.context.Cx.{Ghosts as CxOf}
pub use Rattle.search_context.specs.declared.context.Delegate.{Ghosts as DelegateOf}
pub use Rattle.search_graph.specs.Called.{HasRun}
pub use Rattle.search_graph.specs.Graph.{Graph}
pub use Rattle.watched_runs.specs.Reasons.{IsReason}
pub use Rattle.watched_runs.specs.declared.watch.Reason.{Reason}
pub use Rattle.search_context.specs.declared.context.Answer.{Answer}
pub use Rattle.search_context.specs.declared.context.Fault.{Fault}
pub use Rattle.search_context.specs.declared.context.Fault.TheVariants.{Memory}
pub use Rattle.search_context.specs.declared.context.Node.{Node}
pub use Rattle.search_context.specs.declared.context.NodeId.{NodeId}
pub use Rattle.search_context.specs.declared.context.Reply.{Reply}
pub use Rattle.search_context.specs.declared.context.Request.{Request}
