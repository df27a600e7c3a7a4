-- Why goals are neither yes nor no.
use Rattle.std.specs.Prelude.{◌≡◌, ◌||◌, ℕ, Bool, false, nat_eq, not, List, [], Option, Some, None, is_some, IfSome}
use Rattle.std.specs.Prelude.{Result, Ok, Err}
use Rattle.candidate_lists.specs.Candidate.{question_at}
use Rattle.delegate_parts.specs.Outcome.{is_no, is_yes}
use Rattle.sessions.specs.Below.{Cache, CacheNode, CxOf, DelegateOf, Fault, NodeId, Outcome, Table, candidates_of}
use Rattle.sessions.specs.Below.{question_of}
use Rattle.sessions.specs.Questions.{IsAsked}
use Rattle.sessions.specs.Rules.{IsRightAnswer, is_unknown}
use Rattle.sessions.specs.declared.asking.Asked.{Asked}
use Rattle.sessions.specs.declared.causes.Caused.{Caused}
use Rattle.sessions.specs.declared.causes.Watched.{Watched}
use Rattle.watched_runs.specs.Reasons.{IsReason}
use Rattle.watched_runs.specs.declared.watch.Cut.{Cut}
use Rattle.watched_runs.specs.declared.watch.Reason.{Reason}
use Rattle.watched_runs.specs.declared.watch.Reason.TheVariants as reason

-- the candidate at this place has the question that was cut off
pub record Asks (rules : Table) (cut : Cut ℕ) (candidate : ℕ) : Type 0 where
  pub place : ℕ
  pub is_question : question_at question_of (candidates_of rules cut.by) candidate place ≡ Some (cut.kind, cut.asked)

-- one of the candidates of the goal beside it has it
pub record IsAskedBy (rules : Table) (cut : Cut ℕ) : Type 0 where
  pub candidate : ℕ
  pub asks : Asks rules cut candidate

-- the question that is named, if one is, is one of the rows'
abbrev pub IsNamedByRows : Table → Reason ℕ → Type 0
IsNamedByRows rules (reason.Cut cut) = IsAskedBy rules cut
IsNamedByRows rules reason.Runs = Unit {0}
IsNamedByRows rules reason.Known = Unit {0}
IsNamedByRows rules reason.Unnoted = Unit {0}

-- the candidates of the goal that asked the question are not known
abbrev pub is_of_unknown : Table → Option (Reason ℕ) → Bool
is_of_unknown rules None = false
is_of_unknown rules (Some (reason.Cut cut)) = is_unknown rules cut.by
is_of_unknown rules (Some reason.Runs) = false
is_of_unknown rules (Some reason.Known) = false
is_of_unknown rules (Some reason.Unnoted) = false

-- A reason is told just of what is neither yes nor no. It is one that fits what the goal came to, and by the rows.
pub record HasReason (rules : Table) (caused : Caused) : Type 0 where
  pub told : is_some caused.reason ≡ not (is_yes caused.outcome || is_no caused.outcome)
  pub fits : IfSome caused.reason (IsReason (not (nat_eq caused.started 0)) caused.limits_met caused.outcome)
  pub named : IfSome caused.reason (IsNamedByRows rules)
  pub unknown : caused.is_unknown ≡ is_of_unknown rules caused.reason

-- a yes or a no is right by the rows alone
pub record IsRightOutcome (rules : Table) (goal : ℕ) (outcome : Outcome) : Type 0 where
  pub nodes : List (CacheNode ℕ Outcome)
  pub node : Option NodeId
  pub right : IsRightAnswer rules nodes goal outcome node

-- what is told of what a question came to
abbrev pub told_of : Asked → Option (Reason ℕ) → Bool → Caused
told_of asked reason is_unknown = record {
  outcome = asked.outcome;
  limits_met = asked.limits_met;
  started = asked.started;
  reason = reason;
  is_unknown = is_unknown;
}

-- what the question came to
abbrev pub asked_of : Result Watched (Fault ℕ Outcome) → Result Asked (Fault ℕ Outcome)
asked_of (Ok watched) = Ok watched.asked
asked_of (Err fault) = Err fault

-- what a question came to, of which this is told; the node is that of its graph
abbrev pub asked_with : Option NodeId → Result Caused (Fault ℕ Outcome) → Result Asked (Fault ℕ Outcome)
asked_with root (Ok caused) = Ok (record {
  outcome = caused.outcome;
  limits_met = caused.limits_met;
  started = caused.started;
  node = root;
})
asked_with root (Err fault) = Err fault

module _ {D C V P F A T : Type 0} (G : DelegateOf D C V P F ℕ Outcome A T) (X : CxOf C ℕ Outcome A T)
    (same : ℕ → ℕ → Bool) (same_result : Outcome → Outcome → Bool) where
  -- The goal was asked with this depth while nothing was known, and came to this.
  pub record IsAskedAnew (cx : C) (depth goal : ℕ) (came : Result Asked (Fault ℕ Outcome)) : Type 0 where
    pub before : Cache C ℕ Outcome T
    pub nothing_known : before ≡ record { cx = cx; nodes = []; results = [] }
    pub after : Cache C ℕ Outcome T
    pub asked : IsAsked G X same same_result before depth goal came after

  -- It did, and this is told of it.
  pub record IsToldAnew (cx : C) (depth goal : ℕ) (told : Result Caused (Fault ℕ Outcome)) : Type 0 where
    pub node : Option NodeId
    pub anew : IsAskedAnew cx depth goal (asked_with node told)
