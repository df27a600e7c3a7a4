use Rattle.search_graph.proofs.called.WorkedOut.{run_comes}
use Rattle.search_graph.proofs.law.worked_out.comes.Goals as goal

pub returns : goal.returns
returns g c = λ call ran. run_comes ran
