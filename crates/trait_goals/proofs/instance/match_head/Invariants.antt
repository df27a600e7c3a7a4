use Rattle.std.proofs.Common.{ℕ}
use Rattle.trait_goals.specs.Below.{IsInstance, Stands, Term}
use Rattle.trait_goals.specs.Instances.{AreTold}
use Rattle.trait_goals.proofs.instance.match_head.Given as goal

abbrev pub invariant-loop-place : goal.invariant-loop-place
invariant-loop-place l = (types : ℕ → Term) (term : Term) → Stands l.terms l.subject term →
    IsInstance l.rule types term →
    AreTold l.terms l.found.items types
