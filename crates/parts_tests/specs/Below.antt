-- What the crates below have, from one place.
pub use Rattle.path_kinds.specs.declared.path.PathKind.{PathKind}
pub use Rattle.delegate_parts.specs.Outcome.{outcome_verdicts}
pub use Rattle.delegate_parts.specs.declared.outcome.Outcome.{Outcome}
pub use Rattle.search_context.specs.Rank.{HasNoRank, IsRanked}
pub use Rattle.search_context.specs.Verdicts.{verdict_of}
pub use Rattle.search_context.specs.declared.context.Reply.TheVariants.{Begin}
pub use Rattle.provisional_cache.specs.Provisional.{AppendsEntry, entries_at, Lists}
pub use Rattle.provisional_cache.specs.declared.ProvisionalCacheEntry.{ProvisionalCacheEntry}
pub use Rattle.graph_nodes.specs.Nodes.{CacheNode}
pub use Rattle.graph_nodes.specs.Definite.{HasGraph}
