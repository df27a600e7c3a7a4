use Rattle.std.proofs.Common.{arith, get_or, inl, inr, subst, sym, take, Contains}
use Rattle.std.proofs.lemmas.List.{take_all, take_more}
use Rattle.std.proofs.lemmas.List.Elements.{Contains-push_cases}
use Rattle.rule_arrays.proofs.Finding.{greatest}
use Rattle.rule_arrays.proofs.changes.found.Found.last.Goals as goal

pub loop-goal-preserved : goal.loop-goal-preserved
loop-goal-preserved c = λ goal it.
    let xs = c.deref-goal-items.result.now in
    let at = c.loop-goal.goal-index in
    let here = get_or xs at 0 in
    let most = greatest c.loop-goal.last here c.max-last.result c.max-last.ensures in
    elim (Contains-push_cases (take at xs) here goal
    (subst (λ l. Contains l goal) (take_more xs at 0 c.loop-goal-test.true) it)) [
      | inl before ↦ let less = c.loop-goal.invariant goal before in omega (arith, less, most.0)
      | inr now ↦ omega (arith, now, most.1)
    ]

pub returns : goal.returns
returns c = λ goal it. c.loop-goal.invariant goal
    (subst (λ l. Contains l goal)
    (sym (take_all c.loop-goal.goal-index c.deref-goal-items.result.now c.loop-goal-test.false))
    (subst (λ l. Contains l goal) (sym c.deref-goal-items.ensures.value) it))
