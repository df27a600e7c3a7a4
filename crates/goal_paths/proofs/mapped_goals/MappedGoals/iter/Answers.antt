use Rattle.std.proofs.Common.{ap, sym, subst, ◌∙◌}
use Rattle.std.specs.List.{IsDistinct}
use Rattle.std.specs.Map.{keys_of}
use Rattle.std.proofs.lemmas.Map.Made.{keys_of-map_values}
use Rattle.goal_paths.specs.Words.{paths_now}
use Rattle.goal_paths.proofs.mapped_goals.MappedGoals.iter.Goals as goal

pub returns-clause-distinct : goal.returns-clause-distinct
returns-clause-distinct g c =
    subst (IsDistinct g.I.PartialEq.eq)
    (sym (keys_of-map_values (paths_now c.self.inside.raises) c.self.inside.noted.entries) ∙ ap keys_of c.self.view_is)
    c.iter.ensures.unique
