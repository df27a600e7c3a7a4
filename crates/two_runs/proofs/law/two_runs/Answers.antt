use Rattle.two_runs.proofs.calls.Called.{is_done}
use Rattle.two_runs.proofs.law.two_runs.Goals as goal

pub returns : goal.returns
returns g c = λ call ran. is_done ran
