use Rattle.std.proofs.Common.{◌≡◌, Bool, Some, None, sym, ap, ◌∙◌}
use Rattle.std.specs.List.{position}
use Rattle.goal_paths.specs.Below.{PathsToNested}
use Rattle.goal_paths.specs.Words.{paths_at}
use Rattle.goal_paths.proofs.ListedGoals.{paths_at-no_place, paths_at-place}
use Rattle.goal_paths.proofs.goal_list.GoalList.get.Goals as goal

pub returns-in_err-place : goal.returns-in_err-place
returns-in_err-place g c =
    let same = g.I.PartialEq.eq in
    let is_goal : g.row.I.Denot × PathsToNested → Bool = λ goal. same c.args.input goal.0 in
    let none : position is_goal c.self.inside.goals.items ≡ None =
    sym (c.place_of.ensures ∙ ap (position is_goal) c.as_slice.ensures.value) ∙ c.in_err-place.was in
    c.from_residual.ensures
    ∙ sym (ap (λ goals. paths_at same goals c.args.input) (sym c.self.view_is)
    ∙ paths_at-no_place same c.self.inside.goals.items c.args.input none)

pub returns : goal.returns
returns g c =
    let same = g.I.PartialEq.eq in
    let is_goal : g.row.I.Denot × PathsToNested → Bool = λ goal. same c.args.input goal.0 in
    let at : position is_goal c.self.inside.goals.items ≡ Some c.in_ok-place.place =
    sym (c.place_of.ensures ∙ ap (position is_goal) c.as_slice.ensures.value) ∙ c.in_ok-place.was in
    sym (
    ap (λ goals. paths_at same goals c.args.input) (sym c.self.view_is)
    ∙ paths_at-place same c.self.inside.goals.items c.args.input c.in_ok-place.place c.index.result.now at
    ∙ ap (λ goal. Some goal.1) (sym c.index.ensures)
    )
