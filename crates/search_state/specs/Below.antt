-- What the crates below have, from one place.
pub use Rattle.search_context.specs.Verdicts.{IsDefinite, verdict_of, verdicts}
pub use Rattle.search_context.specs.declared.context.Cx.{Ghosts as CxOf}
pub use Rattle.search_context.specs.Graph.{IsReached}
pub use Rattle.search_context.specs.declared.context.Fault.{Fault}
pub use Rattle.search_context.specs.declared.context.NodeId.{NodeId}
pub use Rattle.search_context.specs.declared.context.Fault.TheVariants.{Memory}
pub use Rattle.graph_nodes.specs.Nodes.{CacheNode, finished_node, graph_nodes_of, KeepsFinished}
pub use Rattle.global_cache.specs.Cache.{Cache}
pub use Rattle.graph_nodes.specs.Definite.{HasGraph}
pub use Rattle.global_cache.specs.Store.{KeepsResults, stored_at}
pub use Rattle.global_cache.specs.declared.results.Place.{Place}
pub use Rattle.global_cache.specs.declared.results.StoredResult.{StoredResult}
