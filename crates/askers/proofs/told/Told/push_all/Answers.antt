use Rattle.std.proofs.Common.{◌∙◌, ◌∷◌, ◌++◌, [], ap, arith, sym, take}
use Rattle.std.proofs.lemmas.List.{take_more}
use Rattle.askers.proofs.Entering.{none_pushed, one_pushed}
use Rattle.askers.proofs.told.Told.push_all.Goals as goal

pub loop-one-init : goal.loop-one-init
loop-one-init g c = none_pushed g.I.PartialEq.eq c.args.goal c.args.asked.now c.args.self.now c.requires.indexed
    c.requires.room

pub push-requires-clause-indexed : goal.push-requires-clause-indexed
push-requires-clause-indexed g c = c.loop-one.invariant.indexed

pub push-requires-clause-begun : goal.push-requires-clause-begun
push-requires-clause-begun g c = c.loop-one.invariant.begun

pub push-requires-clause-places : goal.push-requires-clause-places
push-requires-clause-places g c = omega (arith, c.loop-one-test.true, c.loop-one.invariant.places)

pub loop-one-preserved : goal.loop-one-preserved
loop-one-preserved g c =
    let asked = c.args.asked.now in
    let at = c.loop-one.one-index in
    one_pushed g.I.PartialEq.eq c.args.goal asked c.args.self.now c.loop-one.self c.push.new.self at c.one-item.result
    c.loop-one.invariant
    (take_more asked at c.one-item.result c.loop-one-test.true
    ∙ ap (λ x. take at asked ++ x ∷ []) (sym c.one-item.is))
    c.in_ok-push.ensures.linked
