use Rattle.std.proofs.Common.{◌≡◌, [], sym, ap, ◌∙◌, arith}
use Rattle.std.specs.Option.{option_map}
use Rattle.goal_paths.specs.Words.{after_step, held, joined_paths, paths_at}
use Rattle.goal_paths.proofs.NestedLists.{joined-None, no_goals}
use Rattle.goal_paths.proofs.held.join_each.Goals as goal

-- there are no others
pub returns-in_default-clause-ok : goal.returns-in_default-clause-ok
returns-in_default-clause-ok g c = λ input.
    let same = g.I.PartialEq.eq in
    let own = paths_at same (held c.args.goals.now) input in
    let none : held c.args.more.now ≡ [] = ap held c.in-Some.is ∙ sym c.deref.ensures
    ∙ no_goals c.deref.result.now (omega (arith, c.len.ensures, c.if-len-gt0.false)) in
    sym (ap (λ goals. joined_paths own (option_map (after_step c.args.step) (paths_at same goals input))) none
    ∙ joined-None own)
