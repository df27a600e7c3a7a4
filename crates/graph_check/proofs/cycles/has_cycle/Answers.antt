use Rattle.std.proofs.Common.{◌≡◌, sym, ap, ◌∙◌, subst}
use Rattle.graph_check.specs.Below.{goal_nodes_of, AreComponents, StaysInside, successor_lists}
use Rattle.graph_check.specs.Words.{steps_over}
use Rattle.graph_check.proofs.ClosedWalks.{cycle_of_inner, inner_of_cycle, steps_inside}
use Rattle.graph_check.proofs.cycles.has_cycle.Goals as goal

pub components-requires : goal.components-requires
components-requires g c =
    let nodes = goal_nodes_of c.args.nodes.now in
    let is : successor_lists c.deref.result.now ≡ steps_over c.args.most nodes =
    ap successor_lists c.deref.ensures.value ∙ c.in_ok-steps.ensures in
    record { inside = subst StaysInside (sym is) (steps_inside nodes c.args.most c.requires) }

pub returns : goal.returns
returns g c =
    let nodes = goal_nodes_of c.args.nodes.now in
    let is : successor_lists c.deref.result.now ≡ steps_over c.args.most nodes =
    ap successor_lists c.deref.ensures.value ∙ c.in_ok-steps.ensures in
    let components = subst (λ graph. AreComponents graph c.deref-2.result.now) is (subst
    (AreComponents (successor_lists c.deref.result.now)) (sym c.deref-2.ensures.value) c.in_ok-numbers.ensures) in (
      λ h. cycle_of_inner nodes c.args.most c.requires c.deref-2.result.now components
          c.args.least (c.has_inner_edge.ensures.0 h),
      λ w. c.has_inner_edge.ensures.1
          (inner_of_cycle nodes c.args.most c.requires c.deref-2.result.now components c.args.least w),
    )
