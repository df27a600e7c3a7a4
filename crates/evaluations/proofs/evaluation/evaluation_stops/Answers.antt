use Rattle.std.proofs.Common.{◌≡◌, true}
use Rattle.evaluations.proofs.Evaluations.{evaluation_stops, failed_start_stops}
use Rattle.evaluations.proofs.evaluation.evaluation_stops.Goals as goal

pub returns-clause-fault : goal.returns-clause-fault
returns-clause-fault g c =
    λ cx. λ limits counted top. evaluation_stops (g.D.Delegate.script cx) limits (counted ≡ true) top

pub returns-clause-failed_start : goal.returns-clause-failed_start
returns-clause-failed_start g c =
    λ cx. λ limits counted top. failed_start_stops (g.D.Delegate.script cx) limits (counted ≡ true) top
