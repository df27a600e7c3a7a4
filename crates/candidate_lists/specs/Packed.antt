-- What a packed state of a frame holds.
use Rattle.std.specs.Prelude.{ℕ, ◌-◌, Bool, Option, Some, None}
use Rattle.candidate_lists.specs.Below.{PathKind, Request, Evaluate, EnterCandidate, FinishCandidate, Ignore}
use Rattle.candidate_lists.specs.Below.{Done, Outcome}
use Rattle.candidate_lists.specs.Frame.{outcome_by}
use Rattle.candidate_lists.specs.declared.frame.Made.{Made}
use Rattle.candidate_lists.specs.declared.frame.Made.TheVariants as made

-- the request, of which the other fields hold the parts
abbrev pub request_made : {I : Type 0} → Made → PathKind → I → ℕ → Bool → Bool → Option (Request I Outcome)
request_made made.Nothing kind asked next some_holds each_fails = None
request_made made.Enter kind asked next some_holds each_fails = Some EnterCandidate
request_made made.Evaluate kind asked next some_holds each_fails = Some (Evaluate kind asked)
request_made made.Finish kind asked next some_holds each_fails = Some FinishCandidate
request_made made.Ignore kind asked next some_holds each_fails = Some (Ignore (next - 1))
request_made made.Done kind asked next some_holds each_fails = Some (Done (outcome_by some_holds each_fails))

-- the question that comes next, and 0 behind the last candidate
abbrev pub question_next : Made → ℕ → ℕ
question_next made.Ignore next = 0
question_next made.Done next = 0
question_next _ next = next

-- the candidate from which on none is ignored yet
abbrev pub ignored_next : Made → ℕ → ℕ
ignored_next made.Ignore next = next
ignored_next made.Done next = next
ignored_next _ next = 0
