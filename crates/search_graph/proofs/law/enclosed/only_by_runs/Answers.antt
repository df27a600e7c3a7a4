use Rattle.search_graph.proofs.called.Limits.{run_ends_by_runs}
use Rattle.search_graph.proofs.law.enclosed.only_by_runs.Goals as goal

pub returns : goal.returns
returns g c = λ call ran. run_ends_by_runs ran
