use Rattle.std.proofs.Common.{◌≡◌, true}
use Rattle.evaluations.proofs.Evaluations.{enclosed_refuses_none}
use Rattle.evaluations.proofs.evaluation.enclosed_refuses_none.Goals as goal

pub returns : goal.returns
returns g c = λ cx. λ limits counted top. enclosed_refuses_none (g.D.Delegate.script cx) limits (counted ≡ true) top
