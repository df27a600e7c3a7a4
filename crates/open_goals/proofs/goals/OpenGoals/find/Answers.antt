use Rattle.std.proofs.Common.{◌∙◌, ap, map}
use Rattle.std.specs.List.{position}
use Rattle.open_goals.proofs.OldestFirst.{entries_of_view}
use Rattle.open_goals.proofs.Pairs.{found_in_paired}
use Rattle.open_goals.proofs.goals.OpenGoals.find.Goals as goal

pub returns-clause-present : goal.returns-clause-present
returns-clause-present g c = found_in_paired (λ e. e.input) (g.X.Input.PartialEq.eq c.args.input) c.self.inside.stack
    c.self.inside.runs.items _ _ c.self.invariant c.self.view_is c.find.ensures.present

pub returns-clause-found : goal.returns-clause-found
returns-clause-found g c =
    c.find.ensures.found ∙ ap (λ es. position (g.X.Input.PartialEq.eq c.args.input) (map (λ e. e.input) es))
    (entries_of_view c.self.inside.stack c.self.inside.runs.items _ c.self.invariant c.self.view_is)
