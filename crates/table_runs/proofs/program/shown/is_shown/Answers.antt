use Rattle.std.proofs.Common.{IfOk, IsTrue, subst}
use Rattle.table_runs.proofs.Accepted.{is_accepted}
use Rattle.table_runs.proofs.Right.{accepted_shows}
use Rattle.table_runs.proofs.program.shown.is_shown.Goals as goal
use Rattle.table_runs.specs.Below.{verdicts}
use Rattle.table_runs.specs.Right.{SomeGraphShows}

pub returns-clause-accepted : goal.returns-clause-accepted
returns-clause-accepted g c = λ has definite.
    is_accepted (verdicts g.X.Cx) (g.D.Delegate.script c.cx-cx.result) c.in-Some.graph.nodes.items c.args.goal
    c.args.outcome c.sort.result c.check_graph.result c.sort.ensures.yes c.sort.ensures.no definite
    (λ says_yes. rw c.cx-cx.ensures
    (rw c.in-Some.is at (c.in_ok-graph.ensures.valid_yes c.args.goal c.args.outcome has says_yes)))
    (λ says_no. rw c.cx-cx.ensures
    (rw c.in-Some.is at (c.in_ok-graph.ensures.valid_no c.args.goal c.args.outcome has says_no)))
    c.check_graph.ensures.exact

pub returns-clause-shown : goal.returns-clause-shown
returns-clause-shown g c =
    subst (λ cx. IfOk c.check_graph.result (λ shown. IsTrue shown →
    SomeGraphShows g.X.Cx cx c.args.goal c.args.outcome)) c.cx-cx.ensures
    (accepted_shows g.X.Cx (g.D.Delegate.script c.cx-cx.result) c.cx-cx.result c.args.goal c.args.outcome
    c.in-Some.graph.nodes.items c.sort.result c.sort.ensures.yes c.sort.ensures.no
    c.check_graph.result c.check_graph.ensures.exact c.check_graph.ensures.proof c.check_graph.ensures.refutation)
