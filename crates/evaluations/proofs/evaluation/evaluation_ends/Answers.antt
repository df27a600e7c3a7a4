use Rattle.std.proofs.Common.{◌≡◌, true}
use Rattle.evaluations.proofs.Evaluations.{last_frame_ends, last_run_ends}
use Rattle.evaluations.proofs.evaluation.evaluation_ends.Goals as goal

pub returns-clause-root : goal.returns-clause-root
returns-clause-root g c =
    λ cx. λ limits counted top. last_frame_ends (g.D.Delegate.script cx) limits (counted ≡ true) top

pub returns-clause-last_run : goal.returns-clause-last_run
returns-clause-last_run g c =
    λ cx. λ limits counted top. last_run_ends (g.D.Delegate.script cx) limits (counted ≡ true) top
