use Rattle.std.proofs.Common.{ap, ◌∙◌}
use Rattle.goal_paths.specs.Words.{held, paths_at}
use Rattle.goal_paths.proofs.NestedLists.{joined-taken}
use Rattle.goal_paths.proofs.held.take_each.Goals as goal

-- the child's goals after the step, to which the own ones were joined
pub returns-then-raise-clause-ok : goal.returns-then-raise-clause-ok
returns-then-raise-clause-ok g c = λ input.
    let same = g.I.PartialEq.eq in
    ap (λ goals. paths_at same (held goals) input) c.swap.ensures.x_after
    ∙ c.in_ok-join_each.ensures.ok input
    ∙ joined-taken c.args.step (paths_at same (held c.args.goals.now) input)
    (paths_at same (held c.args.nested.now) input) (paths_at same (held c.raise.new.goals) input)
    (c.raise.ensures.raised c.if-raise.true input)
