use Rattle.path_kinds.specs.declared.path.PathKind.TheVariants.{Coinductive}
use Rattle.open_graphs.specs.Graph.{Yes}
use Rattle.search_parts.specs.Below.{verdicts}
use Rattle.graph_nodes.proofs.Bridge.{graph_by_rule, yes_sort}
use Rattle.search_parts.proofs.law.yes_is_proof.Goals as goal

pub returns : goal.returns
returns g c = λ cx nodes root goal runs is graph.
    let says = verdicts g.D.Cx.Cx in
    graph_by_rule says (g.D.Delegate.script cx) nodes runs root goal is Yes says.is_yes Coinductive (yes_sort says)
    (g.D.Cx.Cx.proves cx) (g.met.D.Delegate.yes_is_proved cx) graph
