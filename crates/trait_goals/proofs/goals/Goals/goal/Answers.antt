use Rattle.std.proofs.Common.{arith}
use Rattle.trait_rules.proofs.Numbers.{keeps_same}
use Rattle.trait_goals.proofs.Clauses.{inside_grown}
use Rattle.trait_goals.proofs.Grown.{right_more}
use Rattle.trait_goals.proofs.goals.Goals.goal.Goals as goal

pub invariant_of-self-2 : goal.invariant_of-self-2
invariant_of-self-2 c =
    let terms = c.self.inside.terms in
    let asked = c.self.inside.asked in
    right_more c.self.inside.rules terms terms asked c.intern.new.self c.self.inside.known.items c.self.invariant
    (keeps_same terms) c.intern.ensures.keeps c.self.invariant.first
    (inside_grown terms asked c.intern.new.self c.args.asked c.intern.ensures.grows (omega arith)
    (record { inside = c.self.invariant.inside }))
