-- Runs of a frame. A script gives the request that follows some replies, of which the newest stands first.
use Rattle.std.specs.Prelude.{◌≡◌, ℕ, ◌+◌, ◌==◌, nat_lt, Bool, true, false, not, ◌&&◌, if◌then◌else◌, List, [], ◌∷◌}
use Rattle.std.specs.Prelude.{◌++◌, map, filter, get_or, Option, None, Some, ⊤}
use Rattle.std.specs.List.{list_any}
use Rattle.search_context.specs.declared.context.Request.{Request}
use Rattle.search_context.specs.declared.context.Request.TheVariants.{Evaluate, EnterCandidate, FinishCandidate}
use Rattle.search_context.specs.declared.context.Request.TheVariants.{Ignore, Done}
use Rattle.search_context.specs.declared.context.Reply.{Reply}
use Rattle.search_context.specs.declared.context.Reply.TheVariants.{Begin, Answer, Noted}
use Rattle.search_context.specs.Question.{Question}

-- the request that the next reply is to; there is none before the first reply
abbrev pub request_after : {I R : Type 0} → (List (Reply R) → Request I R) → List (Reply R) → Option (Request I R)
request_after script [] = None
request_after script (r ∷ earlier) = Some (script (r ∷ earlier))

-- the reply fits the request, and an answer is one that is allowed for its goal
abbrev pub IsReplyTo : {I R : Type 0} → (I → R → Type 0) → Option (Request I R) → Reply R → Type 0
IsReplyTo allowed None Begin = ⊤
IsReplyTo allowed (Some (Evaluate kind goal)) (Answer r) = allowed goal r
IsReplyTo allowed (Some EnterCandidate) Noted = ⊤
IsReplyTo allowed (Some FinishCandidate) Noted = ⊤
IsReplyTo allowed (Some (Ignore n)) Noted = ⊤
IsReplyTo allowed _ _ = ⊥

-- each reply fits the request before it, so there is none after the result
abbrev pub AreRepliesTo : {I R : Type 0} → (I → R → Type 0) → (List (Reply R) → Request I R) → List (Reply R) → Type 0
AreRepliesTo allowed script [] = ⊤
AreRepliesTo allowed script (r ∷ earlier) =
    IsReplyTo allowed (request_after script earlier) r × AreRepliesTo allowed script earlier

-- the same with any answers
abbrev pub Fits : {I R : Type 0} → Option (Request I R) → Reply R → Type 0
Fits = IsReplyTo (λ _ _. ⊤)

-- each reply fits the request before it, whatever the answers are
abbrev pub IsFitting : {I R : Type 0} → (List (Reply R) → Request I R) → List (Reply R) → Type 0
IsFitting = AreRepliesTo (λ _ _. ⊤)

-- a question that was answered, and the number of the candidate that it was asked in
pub record Asked (I R : Type 0) : Type 0 where
  pub question : Question I
  pub answer : R
  pub candidate : Option ℕ

-- what a run has done so far
pub record Progress (I R : Type 0) : Type 0 where
  pub asked : List (Asked I R)
  pub is_open : Bool
  pub finished : ℕ
  pub ignored : List ℕ

-- the progress before the first reply
abbrev pub no_progress : {I R : Type 0} → Progress I R
no_progress = record { asked = []; is_open = false; finished = 0; ignored = [] }

-- an open candidate has the number that it gets once it is finished
abbrev pub open_candidate : {I R : Type 0} → Progress I R → Option ℕ
open_candidate p = if p.is_open then Some p.finished else None

-- the progress with one more request and its reply
abbrev pub progress_with : {I R : Type 0} → Progress I R → Option (Request I R) → Reply R → Progress I R
progress_with p (Some (Evaluate kind goal)) (Answer r) =
    record p {
      asked = p.asked
          ++ record { question = record { kind = kind; goal = goal }; answer = r; candidate = open_candidate p } ∷ [];
    }
progress_with p (Some EnterCandidate) Noted = record p { is_open = true }
progress_with p (Some FinishCandidate) Noted = record p { is_open = false; finished = p.finished + 1 }
progress_with p (Some (Ignore n)) Noted = record p { ignored = n ∷ p.ignored }
progress_with p _ _ = p

-- the progress after these replies
abbrev pub progress_after : {I R : Type 0} → (List (Reply R) → Request I R) → List (Reply R) → Progress I R
progress_after script [] = no_progress
progress_after script (r ∷ earlier) = progress_with (progress_after script earlier) (request_after script earlier) r

-- the candidate of this number is ignored
abbrev pub is_ignored : List ℕ → ℕ → Bool
is_ignored ignored n = list_any (λ m. m == n) ignored

-- the fault that a request is, if it comes out of order: 1, a candidate begins while one is open; 2, none is open
-- that could end; 3, the candidate to be ignored isn't finished; 4, it is ignored already
abbrev pub order_fault : {I R : Type 0} → Progress I R → Option (Request I R) → Option ℕ
order_fault p (Some EnterCandidate) = if p.is_open then Some 1 else None
order_fault p (Some FinishCandidate) = if p.is_open then None else Some 2
order_fault p (Some (Ignore n)) =
    if nat_lt n p.finished then (if is_ignored p.ignored n then Some 4 else None) else Some 3
order_fault p _ = None

-- the request that follows the replies is out of order, with this fault
abbrev pub fault_after : {I R : Type 0} → (List (Reply R) → Request I R) → List (Reply R) → Option ℕ
fault_after script replies = order_fault (progress_after script replies) (request_after script replies)

-- no request of the run is out of order
abbrev pub IsInOrder : {I R : Type 0} → (List (Reply R) → Request I R) → List (Reply R) → Type 0
IsInOrder script [] = ⊤
IsInOrder script (r ∷ earlier) = (fault_after script (r ∷ earlier) ≡ None) × IsInOrder script earlier

-- no replies make the script give a request out of order
abbrev pub IsOrderly : {I R : Type 0} → (List (Reply R) → Request I R) → Type 0
IsOrderly {I} {R} script = (replies : List (Reply R)) → IsFitting script replies → fault_after script replies ≡ None

-- the replies lead to this result, with no request out of order
pub record EndsIn {I R : Type 0} (script : List (Reply R) → Request I R)
    (replies : List (Reply R)) (r : R) : Type 0 where
  pub is_fitting : IsFitting script replies
  pub is_in_order : IsInOrder script replies
  pub is_done : request_after script replies ≡ Some (Done r)

-- what is asked outside candidates counts, and what is asked in a candidate unless that is ignored
abbrev pub is_counted : List ℕ → Option ℕ → Bool
is_counted ignored None = true
is_counted ignored (Some n) = not (is_ignored ignored n)

-- the questions outside ignored candidates whose answers pass the test, in the order of asking
abbrev pub questions_answered : {I R : Type 0} → (R → Bool) → Progress I R → List (Question I)
questions_answered test p =
    map (λ a. a.question) (filter (λ a. test a.answer && is_counted p.ignored a.candidate) p.asked)

-- the same where each finished candidate has a flag: whether the candidate of this number is ignored
abbrev pub ignored_by : List Bool → ℕ → Bool
ignored_by ignored n = get_or ignored n false

-- and whether what was asked there counts
abbrev pub counted_by : List Bool → Option ℕ → Bool
counted_by ignored None = true
counted_by ignored (Some n) = not (ignored_by ignored n)
