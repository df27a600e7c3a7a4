use Rattle.std.proofs.Common.{subst}
use Rattle.trait_rules.specs.Numbered.{IsOnce}
use Rattle.trait_rules.proofs.Numbers.{is_once}
use Rattle.trait_rules.proofs.numbered.Numbered.get.Goals as goal

pub returns-clause-once : goal.returns-clause-once
returns-clause-once g c = subst (λ keys. IsOnce keys) c.self.view_is (is_once _ c.self.inside.keys.items
    c.self.invariant)
