use Rattle.std.proofs.Common.{◌≤◌, ap, length, subst, sym, ◌∙◌}
use Rattle.type_order.specs.Subtypes.{forms_of}
use Rattle.type_order.specs.Rule.{most_questions, pairs_of}
use Rattle.type_order.proofs.Bound.{questions_within}
use Rattle.type_order.proofs.delegate.PairsOfQuestionLists.count.Goals as goal

pub returns-clause-within : goal.returns-clause-within
returns-clause-within g c =
    let n = questions_within (forms_of (g.T.Lends.lent_by c.args.self.lender)) c.args.pair in
    subst (λ k. k ≤ most_questions (forms_of (g.T.Lends.lent_by c.args.self.lender)))
    (sym (c.asked_count.ensures ∙ ap (λ types. length (pairs_of (forms_of types) c.args.pair)) c.lent.ensures)) n
