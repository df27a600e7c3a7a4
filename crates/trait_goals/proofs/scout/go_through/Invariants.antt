use Rattle.trait_goals.specs.Trying.{Extends}
use Rattle.trait_goals.proofs.scout.go_through.Given as goal

abbrev pub invariant-loop : goal.invariant-loop
invariant-loop l = Extends l.fn.goals l.goals
