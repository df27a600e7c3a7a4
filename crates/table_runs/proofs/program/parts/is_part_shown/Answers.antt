use Rattle.std.proofs.Common.{sym}
use Rattle.table_runs.proofs.Parts.{part_shows}
use Rattle.table_runs.proofs.program.parts.is_part_shown.Goals as goal

pub returns : goal.returns
returns g c = λ are.
    part_shows g.X.Cx c.args.cx c.args.part.now.known.items c.args.part.now.graph.nodes.items c.requires c.args.sort are
    c.check_part.result (rw (sym c.as_slice.ensures.value) c.check_part.ensures.proof)
    (rw (sym c.as_slice.ensures.value) c.check_part.ensures.refutation)
    (rw (sym c.as_slice.ensures.value) c.check_part.ensures.sorted) c.check_part.ensures.definite
