use Rattle.std.proofs.Common.{ℕ, ◌+◌, ◌≤◌, length, map, arith}
use Rattle.std.proofs.lemmas.Grind.{common_steps}
use Rattle.std.proofs.lemmas.List.{length-map}
use Rattle.search_stack.proofs.Cycles.{kind_past-step}
use Rattle.search_stack.proofs.stack.Stack.path_kind.Goals as goal

-- the entries past the head are those above it
pub returns : goal.returns
returns g c =
    let count : ℕ = c.args.head.0 + 1 in
    let within : count ≤ length (map (λ e. e.step_kind_from_parent) c.args.self.now) =
    grind (arith, common_steps, c.requires, length-map) in
    kind_past-step c.args.self.now c.args.head.0 c.args.step c.kind_past.result c.extend.result c.extend.ensures
    (rw c.index.ensures at (c.kind_past.ensures)) (c.last_steps.ensures.tells count within)
