-- What the crates below have, from one place.
pub use Rattle.path_kinds.specs.declared.memory.NoMemory.{NoMemory}
pub use Rattle.delegate_parts.specs.Builder.{is_noop_of, started_in}
pub use Rattle.delegate_parts.specs.Outcome.{outcome_verdicts}
pub use Rattle.delegate_parts.specs.declared.builder.Builder.{Builder}
pub use Rattle.delegate_parts.specs.declared.outcome.Outcome.{Outcome}
pub use Rattle.delegate_parts.specs.declared.outcome.Outcome.TheVariants.{No, Yes}
pub use Rattle.search_context.specs.Question.{Question}
pub use Rattle.search_context.specs.Verdicts.{IsDefinite, verdicts, Verdicts}
pub use Rattle.search_context.specs.Valid.{goal_nodes_of, IsValidFor}
pub use Rattle.search_context.specs.Graph.{GraphNode, IsProofGraph, IsRefutationGraph}
pub use Rattle.search_context.specs.Decisive.{IsDecisive}
pub use Rattle.search_context.specs.Rank.{IsPlainTo, IsPlainValue}
unfoldable pub use Rattle.search_context.specs.Rank.{frames_within}
pub use Rattle.search_context.specs.declared.context.Cx.{Ghosts as CxOf}
pub use Rattle.search_context.specs.declared.context.Delegate.{Ghosts as DelegateOf}
pub use Rattle.search_context.specs.declared.context.Fault.{Fault}
pub use Rattle.search_context.specs.declared.context.Fault.TheVariants.{Memory}
pub use Rattle.search_context.specs.declared.context.Node.{Node}
pub use Rattle.search_context.specs.declared.context.NodeId.{NodeId}
pub use Rattle.search_context.specs.declared.context.Reply.{Reply}
pub use Rattle.search_context.specs.declared.context.Request.{Request}
pub use Rattle.search_context.specs.declared.context.Verdict.{Verdict}
pub use Rattle.graph_nodes.specs.Definite.{HasGraph}
pub use Rattle.graph_nodes.specs.HandedOut.{IsCopyFrom, IsWhole}
pub use Rattle.graph_nodes.specs.Nodes.{CacheNode, graph_nodes_of, KeepsFinished, KeepsNodes}
pub use Rattle.graph_nodes.specs.Held.{is_held, IsGone}
pub use Rattle.global_cache.specs.Cache.{Cache}
pub use Rattle.global_cache.specs.Hits.{first_accepted, usable}
pub use Rattle.global_cache.specs.Store.{Store, stored_at}
pub use Rattle.global_cache.specs.declared.results.Place.{Place}
pub use Rattle.global_cache.specs.declared.results.Place.TheVariants.{Success, WithOverflow}
pub use Rattle.global_cache.specs.declared.results.StoredResult.{StoredResult}
pub use Rattle.search_graph.specs.Below.{IsPaid}
pub use Rattle.search_graph.specs.Called.{Called, HasRun}
pub use Rattle.search_graph.specs.Calls.{KeepsAll}
pub use Rattle.search_graph.specs.Graph.{Graph}
pub use Rattle.search_rules.specs.Claims.{IsCaused, IsProved, IsRefuted}
pub use Rattle.search_rules.specs.Results.{AreDefinite, HaveNoOverflow}
pub use Rattle.candidate_lists.specs.Candidate.{Proves, Refutes}
pub use Rattle.candidate_lists.specs.Frame.{script_of}
pub use Rattle.rule_arrays.specs.Table.{candidates_of, question_of, Table}
pub use Rattle.graph_words.specs.Words.{AreWordsOf, plain_node}
