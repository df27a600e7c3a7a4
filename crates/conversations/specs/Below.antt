-- What the crates below have, from one place.
pub use Rattle.answer_lines.specs.declared.goals.Told.{Told}
pub use Rattle.candidate_lists.specs.declared.lists.AnyOf.{AnyOf}
pub use Rattle.delegate_parts.specs.declared.goals.ContextOf.{ContextOf}
pub use Rattle.delegate_parts.specs.declared.outcome.Outcome.{Outcome}
pub use Rattle.determined.specs.Kept.{KeepsRule}
pub use Rattle.global_cache.specs.Cache.{Cache}
pub use Rattle.global_cache.specs.Changed.{is_among, KeepsOtherNodes, KeepsOtherResults, KeepsOthers}
pub use Rattle.global_cache.specs.Findings.{AreSoundFindings, Findings}
pub use Rattle.global_cache.specs.Sound.{IsSoundCache}
pub use Rattle.open_tables.specs.Changes.{Add, Change, Clear, HasChange, HasNoChange, IsOpenTableOf}
pub use Rattle.open_tables.specs.Kept.{KeepsAllOtherCandidates, KeepsCandidates, KeepsNames, KeepsOtherCandidates}
pub use Rattle.open_tables.specs.Table.{candidates_of, IsConcerned, name_of, scripts_of, Table}
pub use Rattle.open_tables.specs.declared.delegate.OpenRules.{OpenRules}
pub use Rattle.rule_tables.specs.Rules.{question_of}
pub use Rattle.rule_tables.specs.declared.rules.Goal.{Goal}
pub use Rattle.search_context.specs.Verdicts.{verdicts}
pub use Rattle.search_context.specs.declared.context.Cx.{Ghosts as CxOf}
pub use Rattle.search_context.specs.declared.context.Delegate.{Ghosts as DelegateOf}
pub use Rattle.search_context.specs.declared.context.Fault.{Fault}
pub use Rattle.search_context.specs.declared.context.NodeId.{NodeId}
pub use Rattle.table_runs.specs.Answers.{IsAnswered}
pub use Rattle.table_runs.specs.Right.{AreShown}
pub use Rattle.table_runs.specs.Told.{IsRightlyTold}
pub use Rattle.table_runs.specs.declared.program.questions.Checks.TheVariants.{EachGraph}
