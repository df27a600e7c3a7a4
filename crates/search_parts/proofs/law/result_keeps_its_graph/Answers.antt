use Rattle.graph_nodes.proofs.Definites.{HasGraph-finished, HasGraph-kept}
use Rattle.search_parts.proofs.law.result_keeps_its_graph.Goals as goal
use Rattle.search_parts.specs.Below.{verdicts}

pub returns-clause-finished : goal.returns-clause-finished
returns-clause-finished g c =
    λ old new goal r node kept has. HasGraph-finished (verdicts g.X.Cx) old new kept goal r node has

pub returns-clause-grown : goal.returns-clause-grown
returns-clause-grown g c =
    λ old new goal r node goals grown has. HasGraph-kept (verdicts g.X.Cx) old new goals grown goal r node has
