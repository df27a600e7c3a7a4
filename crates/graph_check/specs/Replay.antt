-- How far a run has come that is replayed, and what its record has of it. The newest reply stands first.
use Rattle.std.specs.Prelude.{◌≡◌, ℕ, nat_lt, Bool, true, false, not, ◌&&◌, if◌then◌else◌, List, [], ◌∷◌, ◌++◌, map}
use Rattle.std.specs.Prelude.{filter, length, slice_set, Option, None, Some}
use Rattle.graph_check.specs.Below.{Request, Evaluate, EnterCandidate, FinishCandidate, Ignore, Reply, Answer, Verdict}
use Rattle.graph_check.specs.Below.{Yes, No, Neither, Question, Asked, Progress, request_after, progress_after}
use Rattle.graph_check.specs.Below.{counted_by, ignored_by, is_ignored, IsFitting, IsInOrder, Verdicts}
use Rattle.graph_check.specs.declared.replay.run_record.AskedQuestion.{AskedQuestion}

-- the test that a result is of this sort; for neither there is no test
abbrev pub has_sort : {R : Type 0} → Verdicts R → Verdict → R → Bool
has_sort says Yes r = says.is_yes r
has_sort says No r = says.is_no r
has_sort says Neither r = false

-- the reply is an answer that passes the test
abbrev pub is_answer : {R : Type 0} → (R → Bool) → Reply R → Bool
is_answer test (Answer r) = test r
is_answer test _ = false

-- the last request, the questions whose answers pass the test, whether a candidate is open, and for each finished
-- candidate whether it is ignored
pub record Replayed (I R : Type 0) : Type 0 where
  pub request : Option (Request I R)
  pub asked : List (AskedQuestion I)
  pub is_open : Bool
  pub ignored : List Bool

-- what was asked
abbrev pub question_asked : {I : Type 0} → AskedQuestion I → Question I
question_asked a = record { kind = a.kind; goal = a.input }

module _ {I R : Type 0} where
  -- nothing was done yet
  abbrev pub nothing_replayed : Replayed I R
  nothing_replayed = record { request = None; asked = []; is_open = false; ignored = [] }

  -- an open candidate has the number that it gets once it is finished
  abbrev pub open_number : Replayed I R → Option ℕ
  open_number p = if p.is_open then Some (length p.ignored) else None

  -- the record once the request was replied to, by an answer that passes the test or not
  abbrev pub replied : Replayed I R → Option (Request I R) → Bool → Replayed I R
  replied p (Some (Evaluate kind input)) true =
      record p { asked = p.asked ++ record { kind = kind; input = input; candidate = open_number p } ∷ [] }
  replied p (Some EnterCandidate) _ = record p { is_open = true }
  replied p (Some FinishCandidate) _ = record p { is_open = false; ignored = p.ignored ++ false ∷ [] }
  replied p (Some (Ignore n)) _ = record p { ignored = slice_set p.ignored n true }
  replied p _ _ = p

  -- the record with the request that followed
  abbrev pub requested : Replayed I R → Request I R → Replayed I R
  requested p request = record p { request = Some request }

  -- the request comes in order: a candidate begins while none is open, the open one ends, and one is ignored that is
  -- finished and isn't ignored already
  abbrev pub is_orderly : Replayed I R → Request I R → Bool
  is_orderly p EnterCandidate = not p.is_open
  is_orderly p FinishCandidate = p.is_open
  is_orderly p (Ignore n) = nat_lt n (length p.ignored) && not (ignored_by p.ignored n)
  is_orderly p _ = true

  -- the questions outside ignored candidates, in the order of asking
  abbrev pub questions_counted : Replayed I R → List (Question I)
  questions_counted p = map question_asked (filter (λ a. counted_by p.ignored a.candidate) p.asked)

-- a question and its candidate, in the record
abbrev pub asked_of : {I : Type 0} → AskedQuestion I → Question I × Option ℕ
asked_of a = (question_asked a, a.candidate)

-- the same in the run
abbrev pub asked_in : {I R : Type 0} → Asked I R → Question I × Option ℕ
asked_in a = (a.question, a.candidate)

-- the record says what the run did
pub record IsReplayOf {I R : Type 0} (test : R → Bool) (p : Replayed I R) (done : Progress I R) : Type 0 where
  pub open_is : p.is_open ≡ done.is_open
  pub finished_are : length p.ignored ≡ done.finished
  pub ignored_are : (n : ℕ) → is_ignored done.ignored n ≡ ignored_by p.ignored n
  pub asked_are : map asked_of p.asked ≡ map asked_in (filter (λ a. test a.answer) done.asked)

-- the replies can be replayed: each fits, and no request comes out of order
pub record IsLegal {I R : Type 0} (script : List (Reply R) → Request I R) (replies : List (Reply R)) : Type 0 where
  pub is_fitting : IsFitting script replies
  pub is_in_order : IsInOrder script replies

-- the record is that of these replies, which can be replayed
pub record Replays {I R : Type 0} (test : R → Bool) (script : List (Reply R) → Request I R) (p : Replayed I R)
    (replies : List (Reply R)) : Type 0 where
  pub legal : IsLegal script replies
  pub request_is : p.request ≡ request_after script replies
  pub agrees : IsReplayOf test p (progress_after script replies)
