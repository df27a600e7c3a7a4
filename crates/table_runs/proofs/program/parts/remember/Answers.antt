use Rattle.std.proofs.Common.{◌≡◌, refl, slice_get, Some, subst, sym}
use Rattle.std.proofs.lemmas.Option.{slice_get_read}
use Rattle.table_runs.specs.Right.{AreShown}
use Rattle.table_runs.proofs.program.parts.remember.Goals as goal
use Rattle.table_runs.proofs.program.parts.remember.Goals.{in-Some+in_ok-remember_node, in_default}

pub loop-place-init : goal.loop-place-init
loop-place-init g c = λ cx all shown. shown

pub returns-in_err-remember_node : goal.returns-in_err-remember_node
returns-in_err-remember_node g c = λ cx all shown.
    let there = slice_get_read c.deref-node-items.result.now _ c.loop-place.place c.node-item.result refl
    c.loop-place-test.true c.node-item.is in
    c.remember_node.ensures cx (all c.loop-place.place c.node-item.result
    (subst (λ xs. slice_get xs c.loop-place.place ≡ Some c.node-item.result) c.deref-node-items.ensures.value there))
    (c.loop-place.invariant cx all shown)

pub loop-place-preserved : goal.loop-place-preserved
loop-place-preserved g c = λ cx all shown.
    let there = slice_get_read c.deref-node-items.result.now _ c.loop-place.place c.node-item.result refl
    c.loop-place-test.true c.node-item.is in
    let item = all c.loop-place.place c.node-item.result
    (subst (λ xs. slice_get xs c.loop-place.place ≡ Some c.node-item.result) c.deref-node-items.ensures.value there) in
    elim c.match-get_index.branch [
      | in-Some+in_ok-remember_node w ↦ subst (λ s. AreShown g.X.Cx cx s.entries) (sym w.shown-is)
          (w.remember_node.ensures cx item (c.loop-place.invariant cx all shown))
      | in_default w ↦ subst (λ s. AreShown g.X.Cx cx s.entries) (sym w.shown-is) (c.loop-place.invariant cx all shown)
    ]

pub returns : goal.returns
returns g c = c.loop-place.invariant
