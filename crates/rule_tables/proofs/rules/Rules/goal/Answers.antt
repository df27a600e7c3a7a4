use Rattle.std.proofs.Common.{arith, refl, Some}
use Rattle.std.proofs.lemmas.Option.{slice_get_within}
use Rattle.rule_tables.proofs.rules.Rules.goal.Goals as goal

pub overflow_cast-result : goal.overflow_cast-result
overflow_cast-result c =
    let l = slice_get_within c.args.self.now.names c.in_ok-number.number c.args.name.now
    ((c.in_ok-number.ensures c.in_ok-number.number).0 (refl {a = Some c.in_ok-number.number})) in
    omega (arith, l, c.args.self.now.countable)
