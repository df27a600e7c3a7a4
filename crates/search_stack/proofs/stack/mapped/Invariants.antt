use Rattle.std.specs.Prelude.{map, take}
use Rattle.std.specs.HashMap.{get}
use Rattle.goal_paths.specs.Words.{IsIndex}
use Rattle.search_stack.proofs.stack.mapped.Given as goal

abbrev pub invariant-loop-place : goal.invariant-loop-place
invariant-loop-place g l =
    let eq = g.X.Input.PartialEq.eq in IsIndex eq (get eq l.depths) (take l.place (map (λ e. e.input) l.entries))
