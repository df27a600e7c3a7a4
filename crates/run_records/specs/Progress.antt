-- What a run has done so far, as its record has it. The replies stand with the oldest first.
use Rattle.std.specs.Prelude.{◌≡◌, ◌↔◌, ℕ, nat_lt, zero, suc, IsTrue, IsSome, Bool, true, false, ◌&&◌, if◌then◌else◌}
use Rattle.std.specs.Prelude.{List, [], ◌∷◌, ◌++◌, map, filter, length, reverse, slice_set, Option, None}
use Rattle.std.specs.Prelude.{Some, Contains}
use Rattle.run_records.specs.Below.{Request, Evaluate, EnterCandidate, FinishCandidate, Ignore, Reply, Begin, Answer}
use Rattle.run_records.specs.Below.{Noted, Verdict, Yes, No, Neither, NodeId, Edge, PathKind, Question, question_of}
use Rattle.run_records.specs.Below.{Asked, Progress, request_after, progress_after, counted_by, ignored_by, is_ignored}
use Rattle.run_records.specs.Below.{IsInOrder, Verdicts, Done, IsFitting}
use Rattle.run_records.specs.declared.progress.DefiniteAnswer.{DefiniteAnswer}
use Rattle.run_records.specs.declared.progress.Beginning.{Beginning}
use Rattle.run_records.specs.declared.progress.Beginning.TheVariants.{Nothing, Begun, InCandidate}

-- the replies, the last request, the definite answers, whether a candidate is open, and for each finished candidate
-- whether it is ignored
pub record RunRecord (I R : Type 0) : Type 0 where
  pub replies : List (Reply R)
  pub request : Option (Request I R)
  pub answers : List (DefiniteAnswer I)
  pub is_open : Bool
  pub ignored : List Bool

-- the number to which one was added, unless there is 0
abbrev pub less_one : ℕ → Option ℕ
less_one zero = None
less_one (suc number) = Some number

-- whether the two verdicts are the same
abbrev pub is_same_verdict : Verdict → Verdict → Bool
is_same_verdict Yes Yes = true
is_same_verdict No No = true
is_same_verdict Neither Neither = true
is_same_verdict _ _ = false

-- whether a result of this verdict rests on the answer
abbrev pub rests_on : {I : Type 0} → List Bool → Verdict → DefiniteAnswer I → Bool
rests_on ignored verdict d = is_same_verdict d.verdict verdict && counted_by ignored d.candidate

-- what a definite answer was asked, and in which candidate
abbrev pub asked_of : {I : Type 0} → DefiniteAnswer I → Question I × Option ℕ
asked_of d = (question_of d.edge, d.candidate)

-- the same of a question that was answered
abbrev pub asked_in : {I R : Type 0} → Asked I R → Question I × Option ℕ
asked_in a = (a.question, a.candidate)

-- the edge of a question that a node answers
abbrev pub edge_to : {I : Type 0} → PathKind → I → NodeId → Edge I
edge_to kind input node = record { kind = kind; input = input; target = node.0 }

-- the replies of a run that has only begun
abbrev pub replies_of : {R : Type 0} → Beginning → List (Reply R)
replies_of Nothing = []
replies_of Begun = Begin ∷ []
replies_of InCandidate = Begin ∷ Noted ∷ []

-- whether it has begun a candidate
abbrev pub is_in_candidate : Beginning → Bool
is_in_candidate InCandidate = true
is_in_candidate _ = false

module _ {I R : Type 0} where
  -- nothing was done yet
  abbrev pub no_record : RunRecord I R
  no_record = record { replies = []; request = None; answers = []; is_open = false; ignored = [] }

  -- what was done by a run that has only begun, its last request aside
  abbrev pub begun : Beginning → RunRecord I R
  begun beginning = record no_record { replies = replies_of beginning }

  -- the same of a run that has these lists, or has only begun
  abbrev pub done_in : Option (RunRecord I R) → Beginning → RunRecord I R
  done_in (Some p) _ = p
  done_in None beginning = begun beginning

  -- the record with this last request, with an open candidate or not
  abbrev pub going_on : RunRecord I R → Option (Request I R) → Bool → RunRecord I R
  going_on p request is_open = record p { request = request; is_open = is_open }

  -- an open candidate has the number that it gets once it is finished
  abbrev pub open_number : RunRecord I R → Option ℕ
  open_number p = if p.is_open then Some (length p.ignored) else None

  -- the answers with one more, to a question that is asked now
  abbrev pub answers_with : RunRecord I R → Edge I → Verdict → List (DefiniteAnswer I)
  answers_with p edge verdict = p.answers ++ record { edge = edge; verdict = verdict; candidate = open_number p } ∷ []

  -- the answers with the one to this question, if that is definite and has a node
  abbrev pub answers_after : RunRecord I R → PathKind → I → Verdict → Option NodeId → List (DefiniteAnswer I)
  answers_after p kind input Yes (Some node) = answers_with p (edge_to kind input node) Yes
  answers_after p kind input No (Some node) = answers_with p (edge_to kind input node) No
  answers_after p kind input _ _ = p.answers

  -- the record once this request was answered
  abbrev pub answered : RunRecord I R → Option (Request I R) → Verdict → Option NodeId → RunRecord I R
  answered p (Some (Evaluate kind input)) verdict target =
      record p { answers = answers_after p kind input verdict target }
  answered p (Some EnterCandidate) _ _ = record p { is_open = true }
  answered p (Some FinishCandidate) _ _ = record p { is_open = false; ignored = p.ignored ++ false ∷ [] }
  answered p (Some (Ignore n)) _ _ = record p { ignored = slice_set p.ignored n true }
  answered p _ _ _ = p

  -- the record where its request about candidates counts as done, though it was not replied to yet
  abbrev pub acted : RunRecord I R → RunRecord I R
  acted p = answered p p.request Neither None

  -- the record with the reply to its request
  abbrev pub received : RunRecord I R → Reply R → Verdict → Option NodeId → RunRecord I R
  received p reply verdict target = record (answered p p.request verdict target) { replies = p.replies ++ reply ∷ [] }

  -- the record with the request that followed
  abbrev pub requested : RunRecord I R → Request I R → RunRecord I R
  requested p request = record p { request = Some request }

  -- the fault that a request is, if it comes out of order: 1, a candidate begins while one is open; 2, none is open
  -- that could end; 3, the candidate to be ignored isn't finished; 4, it is ignored already
  abbrev pub fault_of : RunRecord I R → Request I R → Option ℕ
  fault_of p EnterCandidate = if p.is_open then Some 1 else None
  fault_of p FinishCandidate = if p.is_open then None else Some 2
  fault_of p (Ignore n) =
      if nat_lt n (length p.ignored) then (if ignored_by p.ignored n then Some 4 else None) else Some 3
  fault_of p _ = None

  -- the edges that a result of this verdict rests on, in the order of asking
  abbrev pub edges_of : RunRecord I R → Verdict → List (Edge I)
  edges_of p verdict = map (λ d. d.edge) (filter (rests_on p.ignored verdict) p.answers)

  -- the questions that were answered with this verdict, and their candidates
  abbrev pub asked_with : Verdict → RunRecord I R → List (Question I × Option ℕ)
  asked_with verdict p = map asked_of (filter (λ d. is_same_verdict d.verdict verdict) p.answers)

-- the record says what the run did
pub record Agrees {I R : Type 0} (says : Verdicts R) (p : RunRecord I R) (done : Progress I R) : Type 0 where
  pub open_is : p.is_open ≡ done.is_open
  pub finished_are : length p.ignored ≡ done.finished
  pub ignored_are : (n : ℕ) → is_ignored done.ignored n ≡ ignored_by p.ignored n
  pub yes : asked_with Yes p ≡ map asked_in (filter (λ a. says.is_yes a.answer) done.asked)
  pub no : asked_with No p ≡ map asked_in (filter (λ a. says.is_no a.answer) done.asked)

-- The record is that of a run of the script that has had these replies, the newest first, and has made no request out
-- of order.
pub record Records {I R : Type 0} (says : Verdicts R) (script : List (Reply R) → Request I R) (p : RunRecord I R)
    (replies : List (Reply R)) : Type 0 where
  pub replies_are : reverse p.replies ≡ replies
  pub request_is : p.request ≡ request_after script replies
  pub in_order : IsInOrder script replies
  pub agrees : Agrees says p (progress_after script replies)

-- the record is that of a run that came to this result
pub record CameTo {I R : Type 0} (says : Verdicts R) (script : List (Reply R) → Request I R)
    (p : RunRecord I R) (r : R) : Type 0 where
  pub replies : List (Reply R)
  pub is_fitting : IsFitting script replies
  pub is_done : request_after script replies ≡ Some (Done r)
  pub on_record : Records says script p replies

-- the verdict is that of the result, and a definite one has its node
pub record IsSortedAs {R : Type 0} (says : Verdicts R) (r : R) (verdict : Verdict)
    (target : Option NodeId) : Type 0 where
  pub yes : (verdict ≡ Yes) ↔ IsTrue (says.is_yes r)
  pub no : (verdict ≡ No) ↔ IsTrue (says.is_no r)
  pub yes_node : IsTrue (says.is_yes r) → IsSome target
  pub no_node : IsTrue (says.is_no r) → IsSome target

-- the same of a reply, if that is an answer
abbrev pub IsReplySorted : {R : Type 0} → Verdicts R → Reply R → Verdict → Option NodeId → Type 0
IsReplySorted says (Answer r) verdict target = IsSortedAs says r verdict target
IsReplySorted says _ verdict target = Unit {0}

-- the edge is that of an answer with this verdict outside ignored candidates
pub record IsEdgeOfAnswer {I : Type 0} (answers : List (DefiniteAnswer I)) (ignored : List Bool)
    (verdict : Verdict) (e : Edge I) : Type 0 where
  pub answer : DefiniteAnswer I
  pub is_in : Contains answers answer
  pub verdict_is : answer.verdict ≡ verdict
  pub edge_is : answer.edge ≡ e
  pub kept : counted_by ignored answer.candidate ≡ true

-- the answers are those of the record and one more, to its last request
pub record KeepsAnswer {I R : Type 0} (p : RunRecord I R) (verdict : Verdict) (target : Option NodeId)
    (answers : List (DefiniteAnswer I)) : Type 0 where
  pub kind : PathKind
  pub input : I
  pub node : NodeId
  pub was : p.request ≡ Some (Evaluate kind input)
  pub target_is : target ≡ Some node
  pub kept : answers ≡ answers_with p (edge_to kind input node) verdict
