use Rattle.std.proofs.Common.{ap, ◌∙◌}
use Rattle.std.specs.Option.{option_map}
use Rattle.goal_paths.specs.Below.{extended}
use Rattle.goal_paths.specs.Words.{paths_at, paths_noted}
use Rattle.goal_paths.proofs.RaisedPaths.{paths_at-raised}
use Rattle.goal_paths.proofs.mapped_goals.MappedGoals.raise.Goals as goal

pub returns-clause-raised : goal.returns-clause-raised
returns-clause-raised g c = λ done input.
    ap (λ raises. paths_at g.I.PartialEq.eq (paths_noted raises c.self.inside.noted.entries) input) c.in-Some.ensures
    ∙ paths_at-raised g.I.PartialEq.eq c.self.inside.raises c.args.step
    c.self.inside.noted.entries c.self.invariant.0 input
    ∙ ap (λ goals. option_map (λ paths. extended paths c.args.step) (paths_at g.I.PartialEq.eq goals input))
    c.self.view_is
