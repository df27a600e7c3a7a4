-- What the crates below have, from one place.
pub use Rattle.delegate_parts.specs.Builder.{started_in}
pub use Rattle.delegate_parts.specs.declared.builder.Builder.{Builder}
pub use Rattle.delegate_parts.specs.declared.outcome.Outcome.{Outcome}
pub use Rattle.proof_trees.specs.Entries.{root_place}
pub use Rattle.proof_trees.specs.Recorded.{HasSeen, Recorded}
pub use Rattle.proof_trees.specs.Recorder.{entries_of, inner_of, next_of, records}
pub use Rattle.proof_trees.specs.Text.{text_of}
pub use Rattle.proof_trees.specs.Whole.{is_whole}
pub use Rattle.proof_trees.specs.declared.entry.Entry.{Entry}
pub use Rattle.proof_trees.specs.declared.recorder.Recorder.{Recorder}
pub use Rattle.rule_tables.specs.Rules.{number_of, questions_of}
pub use Rattle.rule_tables.specs.Text.{IsFirstBadLine, Reads}
pub use Rattle.rule_tables.specs.declared.delegate.Table.{Table}
pub use Rattle.rule_tables.specs.declared.rules.Goal.{Goal}
pub use Rattle.rule_tables.specs.declared.rules.Rules.{Rules}
pub use Rattle.search_context.specs.declared.context.Answer.{Answer}
pub use Rattle.search_context.specs.declared.context.Fault.{Fault}
pub use Rattle.search_context.specs.declared.context.Fault.TheVariants.{Memory}
pub use Rattle.search_context.specs.Rank.{IsPlainTo, IsPlainValue}
unfoldable pub use Rattle.search_context.specs.Rank.{frames_within}
pub use Rattle.search_context.specs.declared.context.Cx.{Ghosts as CxOf}
pub use Rattle.search_context.specs.declared.context.Delegate.{Ghosts as DelegateOf}
pub use Rattle.table_words.specs.Words.{name_or_none, words_of}
pub use Rattle.search_rules.specs.Claims.{IsCaused, IsProved, IsRefuted}
pub use Rattle.search_graph.specs.Called.{HasRun}
pub use Rattle.search_graph.specs.Graph.{Graph}
pub use Rattle.global_cache.specs.Cache.{Cache}
