-- The candidates of a goal, and what proves and refutes a goal that has these. Each question stands in its candidate as
-- a value of any type, of which `question_of` says what it asks.
use Rattle.std.specs.Prelude.{ℕ, Bool, List, map, slice_get, Contains, Option, Some, None}
use Rattle.candidate_lists.specs.Below.{PathKind, Question, IsWithin, Overlap}

-- one way in which a goal may hold: where all its questions do
pub record Candidate (Q : Type 0) : Type 0 where
  pub is_marked : Bool
  pub questions : List Q

abbrev pub mark_of : {Q : Type 0} → Option (Candidate Q) → Option Bool
mark_of None = None
mark_of (Some c) = Some c.is_marked

-- whether the candidate at a place is marked, if there is one
abbrev pub mark_at : {Q : Type 0} → List (Candidate Q) → ℕ → Option Bool
mark_at cs candidate = mark_of (slice_get cs candidate)

abbrev pub step_of : {Q I : Type 0} → (Q → Question I) → Option Q → Option (PathKind × I)
step_of question_of None = None
step_of question_of (Some q) = Some ((question_of q).kind, (question_of q).goal)

abbrev pub question_in : {Q I : Type 0} → (Q → Question I) → Option (Candidate Q) → ℕ → Option (PathKind × I)
question_in question_of None place = None
question_in question_of (Some c) place = step_of question_of (slice_get c.questions place)

-- the question at a place of a candidate, if there is one
abbrev pub question_at : {Q I : Type 0} → (Q → Question I) → List (Candidate Q)
    → (candidate place : ℕ) → Option (PathKind × I)
question_at question_of cs candidate place = question_in question_of (slice_get cs candidate) place

-- what a candidate asks
abbrev pub asked_by : {Q I : Type 0} → (Q → Question I) → Candidate Q → List (Question I)
asked_by question_of c = map question_of c.questions

-- some candidate has all its questions among these
pub record Proves {Q I : Type 0} (question_of : Q → Question I) (cs : List (Candidate Q))
    (held : List (Question I)) : Type 0 where
  pub candidate : Candidate Q
  pub is_candidate : Contains cs candidate
  pub within : IsWithin (asked_by question_of candidate) held

-- each candidate has a question among these
abbrev pub Refutes : {Q I : Type 0} → (Q → Question I) → List (Candidate Q) → List (Question I) → Type 0
Refutes {Q} question_of cs failed =
    (candidate : Candidate Q) → Contains cs candidate → Overlap (asked_by question_of candidate) failed
