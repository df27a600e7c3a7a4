use Rattle.trait_goals.specs.Finding.{AreCompleted}
use Rattle.trait_goals.proofs.instance.complete.Given as goal

abbrev pub invariant-loop-place : goal.invariant-loop-place
invariant-loop-place l = AreCompleted l.initial.terms l.terms l.rule l.found l.place l.all.items
