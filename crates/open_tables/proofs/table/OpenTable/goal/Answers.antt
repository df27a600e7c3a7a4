use Rattle.std.proofs.Common.{Some, arith, refl}
use Rattle.std.proofs.lemmas.Option.{slice_get_within}
use Rattle.open_tables.proofs.table.OpenTable.goal.Goals as goal

pub overflow_cast-number : goal.overflow_cast-number
overflow_cast-number c =
    let l = slice_get_within c.self.inside.names c.in_ok-number.number c.args.name.now
    ((c.in_ok-number.ensures c.in_ok-number.number).0 (refl {a = Some c.in_ok-number.number})) in
    omega (arith, l, c.self.invariant.countable)
