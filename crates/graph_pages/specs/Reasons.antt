-- What is named of an answer that is neither yes nor no.
use Rattle.std.specs.Prelude.{Contains}
use Rattle.rule_tables.specs.Candidate.{Candidate}
use Rattle.rule_tables.specs.declared.rules.Asking.{Asking}
use Rattle.graph_pages.specs.Below.{candidates_of, Goal, Rules}
use Rattle.watched_runs.specs.declared.watch.Cut.{Cut}
use Rattle.watched_runs.specs.declared.watch.Reason.{Reason}
use Rattle.watched_runs.specs.declared.watch.Reason.TheVariants as reason

-- a rule of the goal asks the question
pub record IsAskedBy (rules : Rules) (goal : Goal) (asking : Asking) : Type 0 where
  pub rule : Candidate
  pub is_rule : Contains (candidates_of rules goal) rule
  pub asks : Contains rule.questions asking

-- the question that was cut off, as a question of a rule
abbrev pub asking_of : Cut Goal → Asking
asking_of cut = record { kind = cut.kind; goal = cut.asked }

-- the question that is named is one of a rule of the goal that is named beside it
abbrev pub IsNamedByRules : Rules → Reason Goal → Type 0
IsNamedByRules rules (reason.Cut cut) = IsAskedBy rules cut.by (asking_of cut)
IsNamedByRules rules reason.Runs = Unit {0}
IsNamedByRules rules reason.Known = Unit {0}
IsNamedByRules rules reason.Unnoted = Unit {0}
