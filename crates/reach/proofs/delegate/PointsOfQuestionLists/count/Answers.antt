use Rattle.std.proofs.Common.{◌≡◌, ◌≤◌, length, sym, subst}
use Rattle.reach.specs.Program.{blocks_of}
use Rattle.reach.specs.Rule.{most_predecessors}
use Rattle.reach.proofs.Points.{predecessors_within}
use Rattle.reach.proofs.delegate.PointsOfQuestionLists.count.Goals as goal

pub returns-else-is_written_before-clause-within : goal.returns-else-is_written_before-clause-within
returns-else-is_written_before-clause-within g c =
    let blocks = blocks_of c.lent-program.result.now in
    subst (λ p. length c.predecessors.result.now ≤ most_predecessors (blocks_of p)) c.lent-program.ensures
    (subst (λ xs. length xs ≤ most_predecessors blocks) (sym c.predecessors.ensures)
    (predecessors_within blocks c.args.point.block))
