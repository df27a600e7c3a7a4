use Rattle.std.proofs.Common.{ap, arith, map, subst, sym}
use Rattle.std.proofs.lemmas.List.{length-map, map-set}
use Rattle.open_tables.specs.Kept.{ClearsAt}
use Rattle.open_tables.specs.Table.{candidate_of, candidates_in}
use Rattle.open_tables.proofs.Places.{clear_behind, cleared_at}
use Rattle.open_tables.proofs.table.clear_at.Goals as goal

pub returns-then-place-len : goal.returns-then-place-len
returns-then-place-len c =
    let ways = c.args.ways.now.items in
    let cs = candidates_in c.clear.new.self in
    subst (ClearsAt c.args.place (map candidates_in ways))
    (sym (map-set candidates_in ways c.args.place c.clear.new.self))
    (cleared_at (map candidates_in ways) c.args.place cs
    (omega (arith, c.if-place-len.true, c.len.ensures, length-map ways candidates_in))
    (ap (map candidate_of) c.clear.ensures.items))

pub returns-else-place-len : goal.returns-else-place-len
returns-else-place-len c =
    let ways = c.args.ways.now.items in
    clear_behind (map candidates_in ways) c.args.place
    (omega (arith, c.if-place-len.false, c.len.ensures, length-map ways candidates_in))
