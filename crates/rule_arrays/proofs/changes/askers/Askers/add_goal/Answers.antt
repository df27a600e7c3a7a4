use Rattle.std.proofs.Common.{◌≡◌, ◌∙◌, ap, get_or, map, subst, sym, take}
use Rattle.std.proofs.lemmas.List.{map-append, take_more}
use Rattle.rule_arrays.specs.Askers.{AddsAskers}
use Rattle.rule_arrays.specs.Changes.{IsAskedBy, IsAskedIn}
use Rattle.rule_arrays.specs.Table.{candidate_with}
use Rattle.rule_arrays.proofs.Asking.{candidate_added}
use Rattle.rule_arrays.proofs.changes.askers.Askers.add_goal.Goals as goal

pub loop-row-preserved : goal.loop-row-preserved
loop-row-preserved c =
    let rows = c.of-candidates.result.rows.now in
    let at = c.loop-row.row-index in
    let to = candidate_with c.of-candidates.result.questions.now in
    let row = get_or rows at (record { first = 0; count = 0; is_marked = 0 }) in
    subst (λ cs. AddsAskers (λ asked asker. (asker ≡ c.args.goal) × IsAskedBy cs asked)
    c.args.self.now c.add_questions.new.self)
    (sym (ap (map to) (take_more rows at (record { first = 0; count = 0; is_marked = 0 }) c.loop-row-test.true)
    ∙ map-append to (take at rows) _))
    (candidate_added (map to (take at rows)) (to row) c.args.goal c.args.self.now c.loop-row.self
    c.add_questions.new.self c.loop-row.invariant
    (subst (λ qs. AddsAskers (λ asked asker. (asker ≡ c.args.goal) × IsAskedIn qs asked) c.loop-row.self
    c.add_questions.new.self) c.questions.ensures c.in_ok-add_questions.ensures))
