use Rattle.std.proofs.Common.{◌≡◌, length, hash_map_len, arith, ap, sym, ◌∙◌}
use Rattle.std.proofs.lemmas.List.{length-map}
use Rattle.goal_paths.proofs.mapped_goals.MappedGoals.held_bytes.Goals as goal

pub returns : goal.returns
returns g c =
    let same : length c.args.self.now ≡ hash_map_len c.self.inside.noted =
    ap length (sym c.self.view_is) ∙ length-map c.self.inside.noted.entries _ in
    omega arith
