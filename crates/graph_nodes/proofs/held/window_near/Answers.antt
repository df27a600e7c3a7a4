use Rattle.std.proofs.Common.{arith}
use Rattle.graph_nodes.proofs.NearNodes.{window_before, window_from, window_of_all}
use Rattle.graph_nodes.proofs.SearchedNodes.{there}
use Rattle.graph_nodes.proofs.held.window_near.Goals as goal

pub returns-then-number-entry : goal.returns-then-number-entry
returns-then-number-entry g c =
    window_before c.args.held.now c.requires c.args.near c.args.number c.in-Some.entry.now
    (there c.args.held.now c.args.near c.in-Some.entry.now c.in-Some.ensures.lookup.3)
    c.if-number-entry.true c.saturating_sub.result c.saturating_sub.ensures

pub returns-then-ahead-held : goal.returns-then-ahead-held
returns-then-ahead-held g c =
    window_from c.args.held.now c.requires c.args.near c.args.number c.in-Some.entry.now
    (there c.args.held.now c.args.near c.in-Some.entry.now c.in-Some.ensures.lookup.3)
    c.if-number-entry.false _ (omega arith) (omega arith) (λ lt. omega arith)

pub returns-else-ahead-held : goal.returns-else-ahead-held
returns-else-ahead-held g c =
    window_from c.args.held.now c.requires c.args.near c.args.number c.in-Some.entry.now
    (there c.args.held.now c.args.near c.in-Some.entry.now c.in-Some.ensures.lookup.3)
    c.if-number-entry.false _ (omega (arith, c.in-Some.ensures.lookup.3.0)) (omega arith) (λ lt. absurd (omega arith))

pub returns-in_default : goal.returns-in_default
returns-in_default g c = window_of_all c.args.held.now c.requires c.args.number

pub overflow_sub-entry : goal.overflow_sub-entry
overflow_sub-entry g c = omega (arith, c.if-number-entry.true)

pub overflow_sub-held : goal.overflow_sub-held
overflow_sub-held g c = omega (arith, c.in-Some.ensures.lookup.3.0)

pub overflow_sub-ahead : goal.overflow_sub-ahead
overflow_sub-ahead g c = omega (arith, c.if-number-entry.false)
