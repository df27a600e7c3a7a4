use Rattle.trait_rules.specs.Terms.{Constructor}
use Rattle.trait_rules.proofs.Standing.{first_more}
use Rattle.trait_rules.proofs.terms.Terms.constructor.Goals as goal

pub invariant_of-self : goal.invariant_of-self
invariant_of-self c =
    first_more c.self.inside.made c.intern.new.self (Constructor c.args.constructor) c.self.invariant
    c.intern.ensures.grows
    (λ f x is. absurd cc)
