use Rattle.std.proofs.Common.{◌≡◌, IfSome, None}
use Rattle.std.proofs.lemmas.Result.{IfOk-weaker}
use Rattle.graph_pages.specs.Checked.{reason_of}
use Rattle.shown_graphs.proofs.Right.{neither_without_node, none_told}
use Rattle.shown_graphs.proofs.answer.checked.Goals as goal
use Rattle.shown_graphs.specs.Below.{verdicts}

pub returns-in-None-clause-graph : goal.returns-in-None-clause-graph
returns-in-None-clause-graph g c = λ has.
    c.without_graph.ensures.no_graph (neither_without_node (verdicts g.X.Cx) g.met.X.Outcomes.same_verdicts
    c.args.cache.now.nodes c.args.goal c.args.answer.result c.args.answer.node c.in-None.is has)
    (verdicts g.X.Cx) (g.D.Delegate.script c.args.cache.now.cx) c.args.goal

pub returns-in-Some-clause-reason : goal.returns-in-Some-clause-reason
returns-in-Some-clause-reason g c =
    IfOk-weaker c.with_graph.result (λ came. reason_of came ≡ None)
    (λ came. IfSome (reason_of came) (λ told. told ≡ c.args.reason))
    (λ came none. none_told (reason_of came) c.args.reason none) c.with_graph.ensures.reason
