use Rattle.std.proofs.Common.{arith}
use Rattle.shown_graphs.proofs.Reached.{are_reached}
use Rattle.shown_graphs.proofs.Right.{handed_valid}
use Rattle.shown_graphs.proofs.answer.with_graph.Goals as goal
use Rattle.shown_graphs.specs.Below.{verdicts}

pub returns-then-branch-clause-graph : goal.returns-then-branch-clause-graph
returns-then-branch-clause-graph g c = λ has.
    let copied = rw c.in-Some.is at c.in_ok-handed.ensures.copied in
    let valid = rw c.cx-cx.ensures at c.in_ok-accepts-in-Some.ensures.0 c.if-branch.true in
    record { is_valid = valid; are_reached = are_reached _ _ _ copied; count = omega (arith, c.len-count.ensures) }

pub returns-else-branch-clause-graph : goal.returns-else-branch-clause-graph
returns-else-branch-clause-graph g c = λ has.
    let valid =
    handed_valid (verdicts g.X.Cx) g.met.X.Outcomes.same_verdicts c.args.cache.now.nodes c.args.goal c.args.node
    c.in_ok-handed.handed (λ graph. graph.nodes.items) (g.D.Delegate.script c.args.cache.now.cx) c.args.outcome
    has (c.in_ok-handed.ensures.valid_yes c.args.goal c.args.outcome has)
    (c.in_ok-handed.ensures.valid_no c.args.goal c.args.outcome has) in
    let accepted = (rw c.cx-cx.ensures at c.in_ok-accepts-in-Some.ensures).1 (rw c.in-Some.is at valid) in
    absurd cc

pub returns-in-None-clause-graph : goal.returns-in-None-clause-graph
returns-in-None-clause-graph g c = λ has.
    let valid =
    handed_valid (verdicts g.X.Cx) g.met.X.Outcomes.same_verdicts c.args.cache.now.nodes c.args.goal c.args.node
    c.in_ok-handed.handed (λ graph. graph.nodes.items) (g.D.Delegate.script c.args.cache.now.cx) c.args.outcome
    has (c.in_ok-handed.ensures.valid_yes c.args.goal c.args.outcome has)
    (c.in_ok-handed.ensures.valid_no c.args.goal c.args.outcome has) in
    absurd (rw c.in-None.is at valid)
