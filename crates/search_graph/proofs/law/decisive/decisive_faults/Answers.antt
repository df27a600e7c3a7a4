use Rattle.search_graph.proofs.called.Decided.{run_fails_decided}
use Rattle.search_graph.proofs.law.decisive.decisive_faults.Goals as goal

pub returns : goal.returns
returns g c = λ call ran decisive one all unmet. run_fails_decided ran decisive all unmet one
