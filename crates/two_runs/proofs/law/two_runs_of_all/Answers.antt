use Rattle.two_runs.proofs.calls.Lists.{all_take_two}
use Rattle.two_runs.proofs.law.two_runs_of_all.Goals as goal

pub returns : goal.returns
returns g c = λ list ran. all_take_two ran
