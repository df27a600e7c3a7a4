-- The words of this crate, from one place.
pub use Rattle.rule_tables.specs.Frame.{steps_of, steps_within}
pub use Rattle.rule_tables.specs.Grammar.{Ask, IsDepth, IsMalformed, IsQuestion, letter_of, NamedQuestion}
pub use Rattle.rule_tables.specs.Grammar.{Nothing, Rule, Say, Says, Statement}
pub use Rattle.line_texts.specs.Lines.{lines_of}
pub use Rattle.line_texts.specs.LineWords.{words_left}
pub use Rattle.rule_tables.specs.Line.{statement_of, statement_with}
pub use Rattle.line_texts.specs.Names.{with_name}
pub use Rattle.rule_tables.specs.Question.{named}
pub use Rattle.rule_tables.specs.Rules.{candidates_of, name_of, names_of, number_of, questions_of}
pub use Rattle.rule_tables.specs.Draft.{Adds, HasAsked, IsDraftOf, IsMadeOf, Mentions}
pub use Rattle.rule_tables.specs.DraftRule.{EndsWithin, is_of, IsKnown, rules_of}
pub use Rattle.rule_tables.specs.Groups.{AreGroups, AreLinked, IsChain, IsGroup, row_of}
pub use Rattle.rule_tables.specs.Starts.{AreStarts, rows_at, rows_between}
pub use Rattle.rule_tables.specs.Table.{AreAsked, candidate_in, first_mentions, IsAsked, IsCandidate, IsTableOf}
pub use Rattle.rule_tables.specs.Table.{IsToBeAnswered, NamedCandidate, names_in, question_in}
pub use Rattle.rule_tables.specs.declared.candidates.Row.{Row}
pub use Rattle.rule_tables.specs.declared.draft.Draft.{Draft}
pub use Rattle.rule_tables.specs.declared.draft.DraftRule.{DraftRule}
pub use Rattle.rule_tables.specs.Text.{IsFirstBadLine, Reads}
pub use Rattle.rule_tables.specs.declared.rules.Asking.{Asking}
pub use Rattle.rule_tables.specs.Candidate.{Candidate}
pub use Rattle.rule_tables.specs.declared.rules.Goal.{Goal}
pub use Rattle.rule_tables.specs.declared.rules.Rules.{Rules}
