use Rattle.std.proofs.Common.{Some, sym, ap, ◌∙◌}
use Rattle.trait_rules.proofs.numbered.Numbered.is_at.Goals as goal

pub returns-in-Some : goal.returns-in-Some
returns-in-Some g c =
    λ is. sym c.get.ensures.value ∙ (c.in-Some.is ∙ ap (λ x. Some x) (g.met.K.Key.same_key c.in-Some.found c.args.key
    (sym c.eq.ensures ∙ is)))
