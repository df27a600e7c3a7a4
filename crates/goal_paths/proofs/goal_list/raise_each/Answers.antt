use Rattle.std.proofs.Common.{◌≡◌, ◌<◌, length, slice_set, get_or, sym, ap, ◌∙◌, arith}
use Rattle.std.proofs.lemmas.List.Edits.{map_over_more}
use Rattle.goal_paths.specs.Below.{PathsToNested, extended}
use Rattle.goal_paths.proofs.goal_list.raise_each.Goals as goal

-- one goal more has its paths extended
pub loop-goal-preserved : goal.loop-goal-preserved
loop-goal-preserved g c =
    let f : g.row.I.Denot × PathsToNested → g.row.I.Denot × PathsToNested =
    λ goal. (goal.0, extended goal.1 c.args.step) in
    let before = c.goal-item.result in
    let inside : c.loop-goal.goal-index < length c.args.goals.now =
    omega (arith, c.loop-goal-test.true, c.loop-goal.auto.goals) in
    let here : before ≡ get_or c.loop-goal.goals c.loop-goal.goal-index before = c.goal-item.is in
    let after : c.extend_with-goal.result ≡ extended before.1 c.args.step =
    c.extend_with-goal.ensures ∙ ap (λ goal. extended goal.1 c.args.step) (sym here) in
    (λ k. slice_set c.loop-goal.goals c.loop-goal.goal-index ((sym here k).0, after k))
    ∙ map_over_more f c.args.goals.now c.loop-goal.goals c.loop-goal.goal-index before inside c.loop-goal.invariant here
