use Rattle.trait_rules.proofs.Standing.{HasOutermost}
use Rattle.trait_rules.proofs.terms.Terms.outermost.Given as goal

abbrev pub invariant-loop-constructor : goal.invariant-loop-constructor
invariant-loop-constructor l = HasOutermost l.self-inside.made l.fn.number l.at

abbrev pub decreases-loop-constructor : goal.decreases-loop-constructor
decreases-loop-constructor l = l.at
