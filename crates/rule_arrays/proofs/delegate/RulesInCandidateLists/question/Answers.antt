use Rattle.std.proofs.Common.{[], ◌∷◌, slice_get, Some, sym, ap, ap₂, ◌∙◌}
use Rattle.candidate_lists.specs.Candidate.{question_at}
use Rattle.rule_arrays.specs.Table.{part_of, question_of, unknown}
use Rattle.rule_arrays.proofs.Known.{no_question_further, question_known, question_unknown}
use Rattle.rule_arrays.proofs.delegate.RulesInCandidateLists.question.Goals as goal

pub returns-in_ok-question-clause-value : goal.returns-in_ok-question-clause-value
returns-in_ok-question-clause-value g c =
    let row = c.in_ok-row.row in
    let candidate = c.in_ok-candidate.candidate in
    ap (λ k. Some (k, c.in_ok-question.question.goal)) c.kind_of.ensures
    ∙ question_known (g.L.LendsArrays.table_of c.args.self.lender) c.args.goal c.args.candidate c.args.place row
    candidate c.in_ok-question.question
    (c.in_ok-row.ensures ∙ ap (λ xs. slice_get xs c.args.goal) c.goals.ensures) c.if-row.true
    (c.in_ok-candidate.ensures.value
    ∙ ap (λ xs. slice_get (part_of xs row.first row.count) c.args.candidate) c.candidates.ensures)
    (c.in_ok-question.ensures.value
    ∙ ap (λ xs. slice_get (part_of xs candidate.first candidate.count) c.args.place) c.questions.ensures)

pub returns-then-place-eq0-clause-value : goal.returns-then-place-eq0-clause-value
returns-then-place-eq0-clause-value g c =
    sym (question_unknown (g.L.LendsArrays.table_of c.args.self.lender) c.args.goal c.in_ok-row.row
    (c.in_ok-row.ensures ∙ ap (λ xs. slice_get xs c.args.goal) c.goals.ensures) c.if-row.false c.args.candidate
    c.args.place
    ∙ ap₂ (question_at question_of (unknown c.args.goal ∷ [])) c.if-candidate-eq0.true c.if-place-eq0.true)

pub returns-else-candidate-eq0-clause-value : goal.returns-else-candidate-eq0-clause-value
returns-else-candidate-eq0-clause-value g c =
    no_question_further c.args.goal c.args.candidate c.args.place c.else-candidate-eq0.either
    ∙ sym (question_unknown (g.L.LendsArrays.table_of c.args.self.lender) c.args.goal c.in_ok-row.row
    (c.in_ok-row.ensures ∙ ap (λ xs. slice_get xs c.args.goal) c.goals.ensures) c.if-row.false c.args.candidate
    c.args.place)
