use Rattle.std.proofs.Common.{List, All, length, refl, sym, ◌∙◌, subst, arith}
use Rattle.std.proofs.lemmas.Bool.{false≢true}
use Rattle.std.proofs.lemmas.Option.{slice_get_read, slice_get_within}
use Rattle.graph_check.specs.Below.{Edge, HasGoal, goal_nodes_of}
use Rattle.search_context.proofs.Copies.{node_with_edge}
use Rattle.graph_check.proofs.Places.{closed_at, closed_more}
use Rattle.graph_check.proofs.targets.are_closed.Goals as goal

pub returns-then-not-reach_their_goals : goal.returns-then-not-reach_their_goals
returns-then-not-reach_their_goals g c =
    let nodes = c.args.nodes.now in
    let reach = λ (edges : List (Edge _)). All (λ e. HasGoal (goal_nodes_of nodes) e.target e.input) edges in
    let there = slice_get_read nodes (length nodes) c.loop-node.node-index c.node-item.result refl
    c.loop-node-test.true c.node-item.is in (
      λ h. absurd (false≢true h),
      λ closed. absurd (false≢true (sym c.if-not-reach_their_goals.true ∙ c.reach_their_goals.ensures.1
          (subst reach (sym c.deref.ensures.value)
          (closed_at nodes c.loop-node.node-index c.node-item.result there closed)))),
    )

pub loop-node-preserved : goal.loop-node-preserved
loop-node-preserved g c =
    let nodes = c.args.nodes.now in
    let reach = λ (edges : List (Edge _)). All (λ e. HasGoal (goal_nodes_of nodes) e.target e.input) edges in
    let there = slice_get_read nodes (length nodes) c.loop-node.node-index c.node-item.result refl
    c.loop-node-test.true c.node-item.is in
    closed_more nodes c.loop-node.node-index c.node-item.result there c.loop-node.invariant
    (subst reach c.deref.ensures.value (c.reach_their_goals.ensures.0 c.if-not-reach_their_goals.false))

pub returns : goal.returns
returns g c = (
  λ _ at e has.
      let own = node_with_edge c.args.nodes.now at e has in
      let lt = slice_get_within c.args.nodes.now at own.0 own.1 in
      c.loop-node.invariant at e (omega arith) has,
  λ _. refl,
)
