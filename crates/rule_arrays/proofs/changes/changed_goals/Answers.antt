use Rattle.std.proofs.Common.{◌≡◌, ◌∙◌, arith, subst, sym}
use Rattle.std.proofs.lemmas.Bool.{false≢true}
use Rattle.rule_arrays.specs.Changes.{IsChanged}
use Rattle.rule_arrays.specs.Compared.{table_in}
use Rattle.rule_arrays.proofs.Finding.{IsExact, one_more_found, one_more_passed}
use Rattle.rule_arrays.proofs.changes.changed_goals.Goals as goal
use Rattle.rule_arrays.proofs.changes.changed_goals.Goals.{then-is_changed+in_ok-note, else-is_changed}

pub loop-place-preserved : goal.loop-place-preserved
loop-place-preserved c =
    let IsNew = IsChanged (table_in c.args.old) (table_in c.args.new) in
    let so_far = c.loop-place.invariant in
    elim c.if-is_changed.branch [
      | then-is_changed+in_ok-note w ↦ rw w.found-is (record {
        listed = w.in_ok-note.ensures.listed;
        exact = one_more_found IsNew c.loop-place.found w.note.new.self c.loop-place.place so_far.exact
            (c.is_changed.ensures.0 w.if-is_changed.true) w.in_ok-note.ensures;
      })
      | else-is_changed w ↦ rw w.found-is (record {
        listed = so_far.listed;
        exact = one_more_passed IsNew c.loop-place.found c.loop-place.place so_far.exact
            (λ it. false≢true (sym w.if-is_changed.false ∙ c.is_changed.ensures.1 it));
      })
    ]

pub returns-clause-found : goal.returns-clause-found
returns-clause-found c =
    let end : c.loop-place.place ≡ c.args.count =
    omega (arith, c.loop-place-test.false, c.loop-place.auto.place-end) in
    subst (IsExact (IsChanged (table_in c.args.old) (table_in c.args.new)) c.loop-place.found) end
    c.loop-place.invariant.exact
