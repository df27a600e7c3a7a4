use Rattle.path_kinds.specs.declared.path.PathKind.TheVariants.{Inductive}
use Rattle.open_graphs.specs.Graph.{No}
use Rattle.search_parts.specs.Below.{verdicts}
use Rattle.graph_nodes.proofs.Bridge.{graph_by_rule, no_sort}
use Rattle.search_parts.proofs.law.no_is_refutation.Goals as goal

pub returns : goal.returns
returns g c = λ cx nodes root goal runs is graph.
    let says = verdicts g.D.Cx.Cx in
    graph_by_rule says (g.D.Delegate.script cx) nodes runs root goal is No says.is_no Inductive (no_sort says)
    (g.D.Cx.Cx.refutes cx) (g.met.D.Delegate.no_is_refuted cx) graph
