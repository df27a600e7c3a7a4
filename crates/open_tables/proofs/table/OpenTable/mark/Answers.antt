use Rattle.std.proofs.Common.{map, subst, sym}
use Rattle.open_tables.specs.Table.{AreFew, candidate_of, candidates_at, candidates_in}
use Rattle.open_tables.proofs.Stepping.{few_at, steps_within, way_found}
use Rattle.open_tables.proofs.table.OpenTable.mark.Goals as goal

pub returns-in_err-way-clause-within : goal.returns-in_err-way-clause-within
returns-in_err-way-clause-within c = steps_within c.args.self.now c.args.goal

pub returns-clause-few : goal.returns-clause-few
returns-clause-few c =
    let cs = candidates_at (map candidates_in c.as_slice.result.now) c.number.result in
    few_at cs c.args.candidate (candidate_of c.in_ok-way.way.now)
    (subst (λ l. AreFew (candidates_at (map candidates_in l) c.number.result)) (sym c.as_slice.ensures.value)
    (subst (λ n. AreFew (candidates_at (map candidates_in c.self.inside.ways.items) n)) (sym c.number.ensures)
    (c.self.invariant.few c.args.goal)))
    (way_found cs c.args.candidate c.way_at.result c.in_ok-way.way c.way_at.ensures c.in_ok-way.was)

pub returns-clause-within : goal.returns-clause-within
returns-clause-within c = steps_within c.args.self.now c.args.goal
