use Rattle.std.proofs.Common.{◌≡◌, arith}
use Rattle.trait_rules.specs.Terms.{Applied}
use Rattle.trait_rules.proofs.Standing.{first_more}
use Rattle.trait_rules.proofs.terms.Terms.applied.Goals as goal

pub invariant_of-self-2 : goal.invariant_of-self-2
invariant_of-self-2 c =
    first_more c.self.inside.made c.intern.new.self (Applied c.args.applied c.args.argument) c.self.invariant
    c.intern.ensures.grows
    (λ f x is. let sf : c.args.applied ≡ f = cc in let sx : c.args.argument ≡ x = cc in (omega arith, omega arith))
