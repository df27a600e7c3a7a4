use Rattle.std.proofs.Common.{◌≡◌, ◌≤◌, ◌∙◌, length, sym, ap, refl, arith, subst}
use Rattle.std.specs.Option.{option_map}
use Rattle.shapes.specs.Bisimulation.{equations_of}
use Rattle.shapes.specs.Rule.{matched_parts, most_parts, questions_in}
use Rattle.shapes.proofs.Pairs.{counted, questions_within}
use Rattle.shapes.proofs.delegate.PairsOfQuestionLists.count.Goals as goal

pub returns-in-Some-clause-value : goal.returns-in-Some-clause-value
returns-in-Some-clause-value g c =
    let k = counted (equations_of c.lent.result.now) c.args.pair.left c.args.pair.right _ _
    (sym c.matched_parts.ensures ∙ ap (option_map (λ m. (m.0.now, m.1.now))) c.in-Some.is) in
    subst (λ s. length c.in-Some.left.now
    ≡ length (questions_in (matched_parts (equations_of s) c.args.pair.left c.args.pair.right))) c.lent.ensures k

pub returns-in-Some-clause-within : goal.returns-in-Some-clause-within
returns-in-Some-clause-within g c =
    let equations = equations_of c.lent.result.now in
    let k = counted equations c.args.pair.left c.args.pair.right _ _
    (sym c.matched_parts.ensures ∙ ap (option_map (λ m. (m.0.now, m.1.now))) c.in-Some.is) in
    let w = questions_within equations c.args.pair.left c.args.pair.right
    (matched_parts equations c.args.pair.left c.args.pair.right) refl in
    subst (λ s. length c.in-Some.left.now ≤ most_parts (equations_of s)) c.lent.ensures (omega (arith, k, w))
