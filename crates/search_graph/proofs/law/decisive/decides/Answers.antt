use Rattle.search_graph.proofs.called.Decided.{run_decides}
use Rattle.search_graph.proofs.law.decisive.decides.Goals as goal

pub returns : goal.returns
returns g c = λ call ran. run_decides ran
