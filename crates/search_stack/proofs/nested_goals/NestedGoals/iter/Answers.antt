use Rattle.std.proofs.Common.{ap, subst, sym, ◌∙◌}
use Rattle.std.specs.List.{IsDistinct}
use Rattle.std.specs.Map.{keys_of}
use Rattle.std.specs.Option.{option_map}
use Rattle.goal_paths.specs.Words.{goals_in}
use Rattle.search_stack.proofs.nested_goals.NestedGoals.iter.Goals as goal
use Rattle.search_stack.proofs.nested_goals.NestedGoals.iter.Goals.{in-Some, in-None}

pub returns-clause-distinct : goal.returns-clause-distinct
unfolding IsDistinct
returns-clause-distinct g c =
    let same = g.I.PartialEq.eq in
    elim c.match-self.branch [
      | in-Some w ↦ subst (λ goals. IsDistinct same (keys_of goals))
          (w.deref.ensures ∙ sym (ap (λ goals. goals_in (option_map (λ b. b.value) goals)) w.in-Some.is)
          ∙ c.self.view_is) w.iter.ensures.distinct
      | in-None w ↦ subst (λ goals. IsDistinct same (keys_of goals))
          (sym (ap (λ goals. goals_in (option_map (λ b. b.value) goals)) w.in-None.is) ∙ c.self.view_is) tt
    ]
