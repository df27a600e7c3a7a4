use Rattle.std.proofs.Common.{length, subst, refl, arith}
use Rattle.std.specs.Prelude.{Contains}
use Rattle.std.proofs.lemmas.Option.{slice_get_read}
use Rattle.lean_runs.proofs.Places.{contains_at}
use Rattle.lean_runs.proofs.lean.next_edge.Goals as goal

pub returns-then-asks : goal.returns-then-asks
returns-then-asks g c =
    subst (Contains c.args.edges.now) (c.asks.ensures c.if-asks.true)
    (contains_at _ c.loop-at.at _
    (slice_get_read c.args.edges.now (length c.args.edges.now) c.loop-at.at c.index-edges-at.result refl
    (let test = c.loop-at-test.true in let least = c.min-end.ensures in omega (arith, test, least))
    c.index-edges-at.is))
