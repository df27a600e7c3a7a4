use Rattle.std.proofs.Common.{slice_get, [], ◌∷◌, sym, ap, ◌∙◌}
use Rattle.candidate_lists.specs.Candidate.{mark_at}
use Rattle.rule_arrays.specs.Table.{part_of, unknown}
use Rattle.rule_arrays.proofs.Known.{mark_known, mark_unknown, none_further}
use Rattle.rule_arrays.proofs.Steps.{steps_within}
use Rattle.rule_arrays.proofs.delegate.RulesInCandidateLists.mark.Goals as goal

pub returns-in_err-candidate-clause-within : goal.returns-in_err-candidate-clause-within
returns-in_err-candidate-clause-within g c = steps_within (g.L.LendsArrays.table_of c.args.self.lender) c.args.goal

pub returns-in_ok-candidate-clause-value : goal.returns-in_ok-candidate-clause-value
returns-in_ok-candidate-clause-value g c =
    let row = c.in_ok-row.row in
    mark_known (g.L.LendsArrays.table_of c.args.self.lender) c.args.goal c.args.candidate row
    c.in_ok-candidate.candidate
    (c.in_ok-row.ensures ∙ ap (λ xs. slice_get xs c.args.goal) c.goals.ensures) c.if-row.true
    (c.in_ok-candidate.ensures.value
    ∙ ap (λ xs. slice_get (part_of xs row.first row.count) c.args.candidate) c.candidates.ensures)

pub returns-in_ok-candidate-clause-within : goal.returns-in_ok-candidate-clause-within
returns-in_ok-candidate-clause-within g c = steps_within (g.L.LendsArrays.table_of c.args.self.lender) c.args.goal

pub returns-then-candidate-eq0-clause-value : goal.returns-then-candidate-eq0-clause-value
returns-then-candidate-eq0-clause-value g c =
    sym (mark_unknown (g.L.LendsArrays.table_of c.args.self.lender) c.args.goal c.in_ok-row.row
    (c.in_ok-row.ensures ∙ ap (λ xs. slice_get xs c.args.goal) c.goals.ensures) c.if-row.false c.args.candidate
    ∙ ap (mark_at (unknown c.args.goal ∷ [])) c.if-candidate-eq0.true)

pub returns-then-candidate-eq0-clause-within : goal.returns-then-candidate-eq0-clause-within
returns-then-candidate-eq0-clause-within g c = steps_within (g.L.LendsArrays.table_of c.args.self.lender) c.args.goal

pub returns-else-candidate-eq0-clause-value : goal.returns-else-candidate-eq0-clause-value
returns-else-candidate-eq0-clause-value g c =
    none_further c.args.goal c.args.candidate c.if-candidate-eq0.false
    ∙ sym (mark_unknown (g.L.LendsArrays.table_of c.args.self.lender) c.args.goal c.in_ok-row.row
    (c.in_ok-row.ensures ∙ ap (λ xs. slice_get xs c.args.goal) c.goals.ensures) c.if-row.false c.args.candidate)

pub returns-else-candidate-eq0-clause-within : goal.returns-else-candidate-eq0-clause-within
returns-else-candidate-eq0-clause-within g c = steps_within (g.L.LendsArrays.table_of c.args.self.lender) c.args.goal
