-- What is told of why goals are neither yes nor no.
use Rattle.std.specs.Prelude.{◌≡◌, ℕ, ◌<◌, ◌≤◌, Bool, true, false, if◌then◌else◌, Option, Some, None, is_some}
use Rattle.std.specs.Prelude.{Result, Ok, Err, IfOk}
use Rattle.path_kinds.specs.declared.path.PathKind.TheVariants.{Inductive, Unknown, Coinductive, ForcedAmbiguity}
use Rattle.rule_arrays.specs.Rows.{number_of as number_of_kind}
use Rattle.sessions.specs.Below.{Fault, Outcome}
use Rattle.sessions.specs.Causes.{HasReason, IsRightOutcome}
use Rattle.sessions.specs.declared.causes.Caused.{Caused}
use Rattle.watched_runs.specs.declared.watch.Cause.{Cause as Noted}
use Rattle.watched_runs.specs.declared.watch.Cause.TheVariants as noted
use Rattle.watched_runs.specs.declared.watch.Cut.{Cut}
use Rattle.watched_runs.specs.declared.watch.Reason.{Reason}
use Rattle.watched_runs.specs.declared.watch.Reason.TheVariants as reason
use Rattle.mirfodwel.specs.Asked.{fault_number, number_of}
use Rattle.mirfodwel.specs.Rows.{goals_in, rows_in}
use Rattle.mirfodwel.specs.declared.causes.Cause.{Cause}
use Rattle.mirfodwel.specs.declared.inside.Inside.{Inside}

abbrev pub Came : Type 0
Came = Result Caused (Fault ℕ Outcome)

-- the question that was cut off, if one is named
abbrev pub cut_of : Option (Reason ℕ) → Option (Cut ℕ)
cut_of None = None
cut_of (Some (reason.Cut cut)) = Some cut
cut_of (Some reason.Runs) = None
cut_of (Some reason.Known) = None
cut_of (Some reason.Unnoted) = None

abbrev pub cause_number : Noted → ℕ
cause_number (noted.Depth false) = 1
cause_number (noted.Depth true) = 2
cause_number noted.Runs = 3
cause_number (noted.Cycle Unknown) = 4
cause_number (noted.Cycle ForcedAmbiguity) = 5
cause_number (noted.Cycle Inductive) = 7
cause_number (noted.Cycle Coinductive) = 7
cause_number noted.Known = 7

-- the number of a reason; 6 where the candidates of the goal that asked are not known
abbrev pub kind_of : Bool → Option (Reason ℕ) → ℕ
kind_of is_unknown None = 0
kind_of is_unknown (Some (reason.Cut cut)) = if is_unknown then 6 else cause_number cut.cause
kind_of is_unknown (Some reason.Runs) = 3
kind_of is_unknown (Some reason.Known) = 7
kind_of is_unknown (Some reason.Unnoted) = 8

abbrev pub by_of : Option (Cut ℕ) → ℕ
by_of None = 0
by_of (Some cut) = cut.by

abbrev pub asked_of : Option (Cut ℕ) → ℕ
asked_of None = 0
asked_of (Some cut) = cut.asked

abbrev pub step_of : Option (Cut ℕ) → ℕ
step_of None = 0
step_of (Some cut) = number_of_kind cut.kind

-- the cause that tells what a goal came to
abbrev pub cause_of : Came → Cause
cause_of (Ok caused) = record {
  started = caused.started;
  by = by_of (cut_of caused.reason);
  asked = asked_of (cut_of caused.reason);
  step = step_of (cut_of caused.reason);
  has_question = is_some (cut_of caused.reason);
  kind = kind_of caused.is_unknown caused.reason;
  outcome = number_of caused.outcome;
  fault = 0;
  limits_met = caused.limits_met;
}
cause_of (Err fault) = record {
  started = 0;
  by = 0;
  asked = 0;
  step = 0;
  has_question = false;
  kind = 0;
  outcome = 2;
  fault = fault_number fault;
  limits_met = false;
}

-- 0 where it was answered, and 1 for a fault
abbrev pub status_of : Came → ℕ
status_of (Ok caused) = 0
status_of (Err fault) = 1

-- A yes or a no is right by the rows alone, and all else has a reason that fits what the goal came to, and the rows.
pub record IsWatched (inside : Inside) (goal : ℕ) (came : Came) : Type 0 where
  pub right : IfOk came (λ caused. IsRightOutcome (rows_in inside) goal caused.outcome)
  pub reason : IfOk came (HasReason (rows_in inside))

-- The goal was asked anew, as the search promises, and what it came to is told with its reason; or there is no such
-- goal.
pub data TellsCause (IsPromised : Came → Type 0) (inside : Inside) (goal : ℕ) (cause told : Cause) (status : ℕ) :
    Type 0 where
  Told : (came : Came) → goal < goals_in inside → IsWatched inside goal came → IsPromised came
      → told ≡ cause_of came → status ≡ status_of came → TellsCause IsPromised inside goal cause told status
  NoGoal : goals_in inside ≤ goal → told ≡ cause → status ≡ 7 → TellsCause IsPromised inside goal cause told status
