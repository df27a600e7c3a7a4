use Rattle.sessions.proofs.Valid.{checked_words}
use Rattle.sessions.proofs.graphs.is_shown.Goals as goal
use Rattle.sessions.specs.Below.{verdicts}

pub returns-clause-exact : goal.returns-clause-exact
returns-clause-exact g c =
    checked_words (verdicts g.X.Cx) (g.D.Delegate.script c.args.cx) c.args.goal c.args.verdict c.args.words.now
    c.in-Ok.nodes.items c.in-Ok.ensures.read c.in-Ok.ensures.same c.check_graph.result c.check_graph.ensures.exact
