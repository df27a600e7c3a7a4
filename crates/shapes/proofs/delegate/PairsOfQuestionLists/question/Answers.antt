use Rattle.std.proofs.Common.{◌≡◌, ◌∙◌, ap, rules}
use Rattle.shapes.specs.Bisimulation.{equations_of}
use Rattle.shapes.specs.Rule.{matched_parts, parts_at}
use Rattle.shapes.proofs.Pairs.{asked_at}
use Rattle.shapes.proofs.delegate.PairsOfQuestionLists.question.Goals as goal

pub returns : goal.returns
returns g c =
    let shapes = g.S.Lends.lent_by c.args.self.lender in
    let w = asked_at (matched_parts (equations_of shapes) c.args.pair.left c.args.pair.right)
    c.args.place c.args.pair c.requires in
    let found : c.parts_at.result
    ≡ parts_at (matched_parts (equations_of shapes) c.args.pair.left c.args.pair.right) c.args.place =
    c.parts_at.ensures ∙ ap
    (λ s. parts_at (matched_parts (equations_of s) c.args.pair.left c.args.pair.right) c.args.place) c.lent.ensures in
    search rules
