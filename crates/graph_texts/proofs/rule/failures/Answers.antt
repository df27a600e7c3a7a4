use Rattle.std.proofs.Common.{[], ◌∷◌, ◌++◌, subst, sym, take}
use Rattle.std.proofs.lemmas.Slice.Zip.{all_zipped_more}
use Rattle.std.specs.List.{AllZip}
use Rattle.graph_texts.proofs.Grounds.{take_one_more}
use Rattle.graph_texts.specs.Grounds.{FailsAt}
use Rattle.graph_texts.proofs.rule.failures.Goals as goal

pub loop-place-preserved : goal.loop-place-preserved
loop-place-preserved c =
    let fails = FailsAt c.args.grounds.now in
    let rules = c.args.candidates.now in
    let at = c.loop-place.place in
    let more = all_zipped_more fails (take at rules) c.loop-place.named.items c.in-Some.candidate c.failing.result
    c.loop-place.invariant c.failing.ensures in
    subst (λ first. AllZip fails first c.push.new.self.items)
    (sym (take_one_more rules at c.in-Some.candidate c.in-Some.ensures.value))
    (subst (λ named. AllZip fails (take at rules ++ c.in-Some.candidate ∷ []) named)
    (sym c.in_ok-push.ensures.items) more)
