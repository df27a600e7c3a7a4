-- What the crates below have, from one place.
pub use Rattle.path_kinds.specs.declared.memory.NoMemory.{NoMemory}
pub use Rattle.path_kinds.specs.declared.path.PathKind.TheVariants.{Coinductive, Inductive}
pub use Rattle.delegate_parts.specs.Builder.{is_noop_of, started_in}
pub use Rattle.delegate_parts.specs.declared.builder.Builder.{Builder}
pub use Rattle.delegate_parts.specs.declared.outcome.Outcome.{Outcome}
pub use Rattle.search_context.specs.Verdicts.{IsDefinite, verdicts, Verdicts}
pub use Rattle.search_context.specs.Valid.{goal_nodes_of, IsValid, IsValidFor}
pub use Rattle.search_context.specs.Graph.{IsProofGraph, IsRefutationGraph}
pub use Rattle.determined.specs.Closed.{HasProof, HasRefutation}
pub use Rattle.determined.specs.Kept.{KeepsRule}
pub use Rattle.graph_nodes.specs.Forgotten.{is_among}
pub use Rattle.graph_nodes.specs.Definite.{HasGraph}
pub use Rattle.search_graph.specs.Below.{IsPaid}
pub use Rattle.search_graph.specs.Called.{Called, HasRun}
pub use Rattle.search_graph.specs.Graph.{Graph}
pub use Rattle.search_rules.specs.Claims.{IsCaused, IsProved, IsRefuted}
pub use Rattle.search_rules.specs.Results.{AreDefinite, HaveNoOverflow}
pub use Rattle.search_context.specs.Decisive.{IsDecisive}
pub use Rattle.search_context.specs.Rank.{IsPlainTo, IsPlainValue}
unfoldable pub use Rattle.search_context.specs.Rank.{frames_within}
pub use Rattle.search_context.specs.declared.context.Cx.{Ghosts as CxOf}
pub use Rattle.search_context.specs.declared.context.Delegate.{Ghosts as DelegateOf}
pub use Rattle.search_context.specs.declared.context.Fault.{Fault}
pub use Rattle.search_context.specs.declared.context.Fault.TheVariants.{Memory}
pub use Rattle.search_context.specs.declared.context.Node.{Node}
pub use Rattle.search_context.specs.declared.context.NodeId.{NodeId}
pub use Rattle.search_context.specs.declared.context.Reply.{Reply}
pub use Rattle.search_context.specs.declared.context.Request.{Request}
pub use Rattle.search_context.specs.declared.context.Verdict.{Verdict}
pub use Rattle.graph_nodes.specs.Nodes.{KeepsFinished}
pub use Rattle.global_cache.specs.Cache.{Cache}
pub use Rattle.global_cache.specs.Sound.{IsSoundCache}
pub use Rattle.global_cache.specs.Hits.{first_accepted, usable}
pub use Rattle.search_stack.specs.Hit.{Hit}
pub use Rattle.global_cache.specs.Store.{KeepsResults}
pub use Rattle.rule_tables.specs.Rules.{name_of, questions_of}
pub use Rattle.rule_tables.specs.Text.{IsFirstBadLine, Reads}
pub use Rattle.rule_tables.specs.declared.delegate.Table.{Table}
pub use Rattle.rule_tables.specs.declared.rules.Goal.{Goal}
pub use Rattle.rule_tables.specs.declared.rules.Rules.{Rules}
