use Rattle.std.proofs.Common.{ap, map, option_copied, subst, sym}
use Rattle.askers.proofs.Following.{place_read}
use Rattle.open_tables.specs.Table.{AreFew, candidate_of, candidates_at, candidates_in}
use Rattle.open_tables.proofs.Stepping.{few_asked, way_found}
use Rattle.open_tables.proofs.table.OpenTable.question.Goals as goal

pub returns-clause-few : goal.returns-clause-few
returns-clause-few c =
    let cs = candidates_at (map candidates_in c.as_slice.result.now) c.number.result in
    few_asked cs c.args.candidate c.args.place (candidate_of c.in_ok-way.way.now) c.in_ok-asking.asking.now
    (subst (λ l. AreFew (candidates_at (map candidates_in l) c.number.result)) (sym c.as_slice.ensures.value)
    (subst (λ n. AreFew (candidates_at (map candidates_in c.self.inside.ways.items) n)) (sym c.number.ensures)
    (c.self.invariant.few c.args.goal)))
    (way_found cs c.args.candidate c.way_at.result c.in_ok-way.way c.way_at.ensures c.in_ok-way.was)
    (place_read _ _ c.args.place _ _ c.deref.ensures.value c.get.ensures.lookup
    (sym (ap option_copied c.in_ok-asking.was)))
