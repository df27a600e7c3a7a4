use Rattle.std.proofs.Common.{arith, ap, ◌∙◌}
use Rattle.std.proofs.lemmas.List.{take_all}
use Rattle.graph_check.specs.Below.{goal_nodes_of, successor_lists}
use Rattle.graph_check.specs.Words.{steps_over, targets_over}
use Rattle.graph_check.proofs.Elements.{none_ok}
use Rattle.graph_check.proofs.StepLists.{steps_more}
use Rattle.graph_check.proofs.cycles.steps_up_to.Goals as goal

pub returns-in_err-steps : goal.returns-in_err-steps
returns-in_err-steps g c = none_ok c.from_residual.result _ c.from_residual.ensures.0

pub loop-node-init : goal.loop-node-init
loop-node-init g c = ap successor_lists c.in_ok-steps.ensures.items

pub offset_bounds-nodes-node-index : goal.offset_bounds-nodes-node-index
offset_bounds-nodes-node-index g c = c.loop-node.auto.node-index-end

pub bounds-nodes-node-index : goal.bounds-nodes-node-index
bounds-nodes-node-index g c = c.loop-node-test.true

pub returns-in_err-targets_up_to : goal.returns-in_err-targets_up_to
returns-in_err-targets_up_to g c =
    none_ok c.from_residual-in_err-targets_up_to.result _ c.from_residual-in_err-targets_up_to.ensures.0

pub returns-in_err-push : goal.returns-in_err-push
returns-in_err-push g c = none_ok c.from_residual-in_err-push.result _ c.from_residual-in_err-push.ensures.0

pub loop-node-smaller : goal.loop-node-smaller
loop-node-smaller g c = omega (arith, c.loop-node-test.true)

pub loop-node-preserved : goal.loop-node-preserved
loop-node-preserved g c =
    steps_more c.args.most c.args.nodes.now c.loop-node.node-index c.node-item.result
    (record { below = c.loop-node-test.true; is = c.node-item.is })
    c.loop-node.steps.items c.push.new.self.items c.in_ok-targets_up_to.field-0 c.loop-node.invariant
    (c.in_ok-targets_up_to.ensures ∙ ap (targets_over c.args.most) c.deref.ensures.value) c.in_ok-push.ensures.items

pub returns : goal.returns
returns g c = c.loop-node.invariant ∙ ap (λ list. steps_over c.args.most (goal_nodes_of list))
    (take_all c.loop-node.node-index c.args.nodes.now c.loop-node-test.false)
