-- What the crates below have, from one place.
pub use Rattle.delegate_parts.specs.Outcome.{is_no, is_yes, outcome_verdicts}
pub use Rattle.delegate_parts.specs.declared.outcome.Outcome.{Outcome}
pub use Rattle.delegate_parts.specs.declared.outcome.Outcome.TheVariants.{Maybe, No, Overflow, Yes}
pub use Rattle.evaluations.specs.Enclosed.{IsEnclosed}
pub use Rattle.graph_nodes.specs.Nodes.{graph_nodes_of}
pub use Rattle.search_context.specs.Graph.{GraphNode, IsProofGraph, IsRefutationGraph}
pub use Rattle.search_context.specs.Decisive.{IsDecisive}
pub use Rattle.search_context.specs.Verdicts.{IsDefinite, verdicts}
pub use Rattle.search_context.specs.declared.context.Answer.{Answer}
pub use Rattle.search_context.specs.declared.context.Cx.{Ghosts as CxOf}
pub use Rattle.search_context.specs.declared.context.Delegate.{Ghosts as DelegateOf}
pub use Rattle.search_context.specs.declared.context.Fault.{Fault}
pub use Rattle.search_context.specs.declared.context.Fault.TheVariants.{Memory}
pub use Rattle.search_context.specs.declared.context.NodeId.{NodeId}
pub use Rattle.global_cache.specs.Cache.{Cache}
pub use Rattle.global_cache.specs.Store.{stored_at}
pub use Rattle.global_cache.specs.declared.results.Place.TheVariants.{Success, WithOverflow}
pub use Rattle.search_rules.specs.Claims.{HasOneOfEach, IsCaused, IsMemoryOrOrder, IsProved, IsRefuted}
pub use Rattle.search_rules.specs.Results.{AreDefinite, HaveNoOverflowOf}
pub use Rattle.two_runs.specs.Enough.{TwoRunsAreEnough}
pub use Rattle.two_runs.specs.Kinds.{StoredReachNested, StoredSuit}
pub use Rattle.two_runs.specs.Settled.{AreSettled}
pub use Rattle.candidate_lists.specs.Frame.{script_of}
pub use Rattle.trait_rules.specs.Terms.{Term}
pub use Rattle.trait_goals.specs.Implementing.{Implements}
pub use Rattle.trait_goals.specs.Known.{AreRight, IsAsked, Table, candidates_at}
pub use Rattle.trait_goals.specs.Decided.{AreAllDecided}
pub use Rattle.trait_goals.specs.Rule.{candidates_of}
