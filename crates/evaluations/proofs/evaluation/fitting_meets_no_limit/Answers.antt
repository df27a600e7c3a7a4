use Rattle.std.proofs.Common.{◌≡◌, true}
use Rattle.evaluations.proofs.Evaluations.{fitting_meets_no_limit}
use Rattle.evaluations.proofs.evaluation.fitting_meets_no_limit.Goals as goal

pub returns : goal.returns
returns g c = λ cx. λ limits counted top. fitting_meets_no_limit (g.D.Delegate.script cx) limits (counted ≡ true) top
