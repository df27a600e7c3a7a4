use Rattle.std.proofs.Common.{◌≡◌, length, map, arith}
use Rattle.std.proofs.lemmas.Grind.{common_steps}
use Rattle.goal_paths.proofs.LastSteps.{TellsKinds-step}
use Rattle.search_stack.proofs.stack.Stack.steps_with.Goals as goal

-- the new step is the last of its kind
pub returns : goal.returns
returns g c =
    let kinds = map (λ e. e.step_kind_from_parent) c.args.self.now in
    let size : c.len-below.result ≡ length kinds = grind (arith, common_steps, c.self.invariant.1.each) in
    rw c.with_step.ensures
    (TellsKinds-step c.last_steps.result kinds c.args.kind c.len-below.result size c.last_steps.ensures.tells)
