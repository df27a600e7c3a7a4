use Rattle.graph_data.proofs.Readback.{claim_told}
use Rattle.graph_data.proofs.law.data_tells_its_graph.Goals as goal

pub returns : goal.returns
returns c = λ names written read after rest own p q h. claim_told names own written read after rest p q h
