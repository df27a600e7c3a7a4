use Rattle.std.proofs.Common.{◌≡◌, true}
use Rattle.evaluations.proofs.Evaluations.{root_is_evaluating, move_goes_on}
use Rattle.evaluations.proofs.evaluation.moves_go_on.Goals as goal

pub returns-clause-root : goal.returns-clause-root
returns-clause-root g c =
    λ cx. λ limits counted top. root_is_evaluating (g.D.Delegate.script cx) limits (counted ≡ true) top

pub returns-clause-moves : goal.returns-clause-moves
returns-clause-moves g c = λ cx. λ limits counted top bound old new some move h.
    move_goes_on (g.D.Delegate.script cx) limits (counted ≡ true) top bound some old new move h
