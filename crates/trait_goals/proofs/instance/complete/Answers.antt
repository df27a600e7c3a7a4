use Rattle.std.proofs.Common.{◌≡◌, Some, sym, subst, arith}
use Rattle.std.specs.Prelude.{slice_get}
use Rattle.std.specs.Option.{IfSome}
use Rattle.trait_goals.specs.Instances.{AllTold, IsMade}
use Rattle.trait_goals.proofs.Completing.{all_made, completed_more}
use Rattle.trait_goals.proofs.Matching.{read_at, some_so}
use Rattle.trait_goals.proofs.instance.complete.Goals as goal

pub loop-place-preserved : goal.loop-place-preserved
loop-place-preserved c =
    let all = c.loop-place.all.items in
    let made = c.number_of.new.terms in
    completed_more c.args.terms.now c.loop-place.terms made c.args.rule.now c.args.found.now
    c.loop-place.place all c.push.new.self.items c.in-Some.shape c.noted_at-noted.result c.in-Some-2.number
    c.loop-place.invariant
    (read_at c.args.rule.now.shapes.items _ c.loop-place.place c.in-Some.shape c.as_slice.ensures.value
    c.in-Some.ensures)
    c.in_ok-push.ensures.items c.number_of.ensures.keeps
    (subst (λ l. IsMade made l c.in-Some.shape c.in-Some-2.number) c.as_slice-in-loop-place.ensures.value
    (some_so _ _ _ c.in-Some-2.is c.in_ok-number.ensures.made))
    (subst (λ p. IfSome c.noted_at-noted.result (λ n. slice_get c.args.found.now p ≡ Some (Some n)))
    (sym c.loop-place.invariant.is_count) c.noted_at-noted.ensures)
    (λ types term told shaped noted. some_so _ _ _ c.in-Some-2.is c.in_ok-number.ensures.told types term
    (subst (λ l. AllTold c.loop-place.terms l types) (sym c.as_slice-in-loop-place.ensures.value) told) shaped noted)

pub returns-clause-made : goal.returns-clause-made
returns-clause-made c = λ told.
    all_made c.args.terms.now c.loop-place.terms c.args.rule.now c.args.found.now c.loop-place.place _
    c.loop-place.invariant
    (omega arith)
