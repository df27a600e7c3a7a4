-- What is read of a goal's candidates is what they are.
use Rattle.std.proofs.Common.{◌≡◌, ℕ, ◌≢◌, [], ◌∷◌, map, slice_get, Some, None, not, eqb, cond, sym, ap, ◌∙◌}
use Rattle.std.proofs.Common.{ne_eqb, eq-eqb, zero, suc, inl, inr, ◌⊎◌, refl}
use Rattle.std.specs.Option.{option_map}
use Rattle.std.proofs.lemmas.Option.{slice_get-map}
use Rattle.candidate_lists.specs.Candidate.{mark_at, mark_of, question_at, question_in, step_of}
use Rattle.rule_arrays.specs.Table.{Table, candidate_with, candidates_by, candidates_of, kind_of, part_of}
use Rattle.rule_arrays.specs.Table.{question_of, unknown}
use Rattle.rule_arrays.specs.declared.rows.CandidateRow.{CandidateRow}
use Rattle.rule_arrays.specs.declared.rows.GoalRow.{GoalRow}
use Rattle.rule_arrays.specs.declared.rows.QuestionRow.{QuestionRow}

-- a goal of which the candidates are known has those of its row
pub known : (table : Table) (goal : ℕ) (row : GoalRow) → slice_get table.goals goal ≡ Some row →
    row.count ≢ 4294967295 →
    candidates_of table goal ≡ map (candidate_with table.questions) (part_of table.candidates row.first row.count)
known table goal row at count = ap (candidates_by table goal) at
    ∙ ap (λ b. cond b (unknown goal ∷ [])
    (map (candidate_with table.questions) (part_of table.candidates row.first row.count)))
    (ne_eqb row.count 4294967295 count)

-- and else the one that says maybe
pub not_known : (table : Table) (goal : ℕ) (row : GoalRow) → slice_get table.goals goal ≡ Some row →
    row.count ≡ 4294967295 → candidates_of table goal ≡ unknown goal ∷ []
not_known table goal row at count = ap (candidates_by table goal) at
    ∙ ap (λ b. cond b (unknown goal ∷ [])
    (map (candidate_with table.questions) (part_of table.candidates row.first row.count)))
    (eq-eqb row.count 4294967295 count)

-- the candidate at a place of those of a row
pub candidate_at : (table : Table) (goal place : ℕ) (row : GoalRow) (candidate : CandidateRow) →
    slice_get table.goals goal ≡ Some row → row.count ≢ 4294967295 →
    slice_get (part_of table.candidates row.first row.count) place ≡ Some candidate →
    slice_get (candidates_of table goal) place ≡ Some (candidate_with table.questions candidate)
candidate_at table goal place row candidate at count is =
    ap (λ cs. slice_get cs place) (known table goal row at count)
    ∙ slice_get-map (candidate_with table.questions) (part_of table.candidates row.first row.count) place
    ∙ ap (option_map (candidate_with table.questions)) is

-- its mark
pub mark_known : (table : Table) (goal place : ℕ) (row : GoalRow) (candidate : CandidateRow) →
    Some row ≡ slice_get table.goals goal → row.count ≢ 4294967295 →
    Some candidate ≡ slice_get (part_of table.candidates row.first row.count) place →
    Some (not (eqb candidate.is_marked 0)) ≡ mark_at (candidates_of table goal) place
mark_known table goal place row candidate at count is =
    sym (ap mark_of (candidate_at table goal place row candidate (sym at) count (sym is)))

-- its question at a place
pub question_known : (table : Table) (goal place at_question : ℕ) (row : GoalRow) (candidate : CandidateRow)
    (question : QuestionRow) → Some row ≡ slice_get table.goals goal → row.count ≢ 4294967295 →
    Some candidate ≡ slice_get (part_of table.candidates row.first row.count) place →
    Some question ≡ slice_get (part_of table.questions candidate.first candidate.count) at_question →
    Some (kind_of question.kind, question.goal)
    ≡ question_at question_of (candidates_of table goal) place at_question
question_known table goal place at_question row candidate question at count is asked =
    sym (ap (λ o. question_in question_of o at_question)
    (candidate_at table goal place row candidate (sym at) count (sym is)) ∙ ap (step_of question_of) (sym asked))

-- a goal that is not known has one candidate, which has no mark
pub mark_unknown : (table : Table) (goal : ℕ) (row : GoalRow) → Some row ≡ slice_get table.goals goal →
    row.count ≡ 4294967295 → (place : ℕ) →
    mark_at (candidates_of table goal) place ≡ mark_at (unknown goal ∷ []) place
mark_unknown table goal row at count place = ap (λ cs. mark_at cs place) (not_known table goal row (sym at) count)

-- and one question, by which it asks itself
pub question_unknown : (table : Table) (goal : ℕ) (row : GoalRow) → Some row ≡ slice_get table.goals goal →
    row.count ≡ 4294967295 → (place at_question : ℕ) →
    question_at question_of (candidates_of table goal) place at_question
    ≡ question_at question_of (unknown goal ∷ []) place at_question
question_unknown table goal row at count place at_question =
    ap (λ cs. question_at question_of cs place at_question) (not_known table goal row (sym at) count)

-- there is none at another place
pub none_further : (goal place : ℕ) → place ≢ 0 → None ≡ mark_at (unknown goal ∷ []) place
none_further goal zero other = absurd (other refl)
none_further goal (suc place) other = refl

pub no_question_further : (goal place at_question : ℕ) → ((place ≡ 0) × (at_question ≢ 0)) ⊎ (place ≢ 0) →
    None ≡ question_at question_of (unknown goal ∷ []) place at_question
no_question_further goal zero zero (inl other) = absurd (other.1 refl)
no_question_further goal zero zero (inr other) = absurd (other refl)
no_question_further goal zero (suc at_question) other = refl
no_question_further goal (suc place) at_question other = refl
