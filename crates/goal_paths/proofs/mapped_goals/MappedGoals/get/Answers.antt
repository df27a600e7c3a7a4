use Rattle.std.proofs.Common.{◌≡◌, Some, None, ap, sym, ◌∙◌}
use Rattle.std.specs.Map.{lookup}
use Rattle.std.specs.Option.{option_copied, option_map}
use Rattle.goal_paths.specs.Words.{paths_now}
use Rattle.goal_paths.proofs.RaisedPaths.{told_at}
use Rattle.goal_paths.proofs.mapped_goals.MappedGoals.get.Goals as goal

pub returns-in_err-noted : goal.returns-in_err-noted
returns-in_err-noted g c =
    let same = g.I.PartialEq.eq in
    let found : lookup (same c.args.input) c.self.inside.noted.entries ≡ None =
    sym c.get.ensures.value ∙ ap option_copied c.in_err-noted.was in
    c.from_residual.ensures ∙ sym (told_at same c.self.inside.raises c.self.inside.noted.entries c.args.self.now
    c.self.view_is c.args.input ∙ ap (option_map (paths_now c.self.inside.raises)) found)

pub returns : goal.returns
returns g c =
    let same = g.I.PartialEq.eq in
    let found : lookup (same c.args.input) c.self.inside.noted.entries ≡ Some c.in_ok-noted.noted.now =
    sym c.get.ensures.value ∙ ap option_copied c.in_ok-noted.was in
    ap Some c.paths_now.ensures ∙ sym (told_at same c.self.inside.raises c.self.inside.noted.entries c.args.self.now
    c.self.view_is c.args.input ∙ ap (option_map (paths_now c.self.inside.raises)) found)
