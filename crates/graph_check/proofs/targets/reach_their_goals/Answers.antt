use Rattle.std.proofs.Common.{All, arith, refl, sym, subst, ◌∙◌}
use Rattle.std.proofs.lemmas.List.{take_all}
use Rattle.std.proofs.lemmas.List.Elements.{All-more}
use Rattle.graph_check.specs.Below.{Edge, HasGoal, goal_nodes_of}
use Rattle.graph_check.proofs.targets.reach_their_goals.Goals as goal

pub loop-edge-preserved : goal.loop-edge-preserved
loop-edge-preserved g c =
    let reaches = λ (e : Edge _). HasGoal (goal_nodes_of c.args.nodes.now) e.target e.input in
    All-more reaches c.args.edges.now c.loop-edge.edge-index c.edge-item.result
    c.loop-edge-test.true c.loop-edge.invariant
    (subst reaches c.edge-item.is (c.has_goal.ensures.0 c.if-not-has_goal.false))

pub returns : goal.returns
returns g c =
    let reaches = λ (e : Edge _). HasGoal (goal_nodes_of c.args.nodes.now) e.target e.input in (
      λ _. subst (All reaches) (take_all c.loop-edge.edge-index c.args.edges.now
          (omega (arith, c.loop-edge-test.false))) c.loop-edge.invariant,
      λ _. refl,
    )

pub loop-edge-init : goal.loop-edge-init
loop-edge-init g c = λ k e lt. absurd (omega (arith, lt))

pub offset_bounds-edges-edge-index : goal.offset_bounds-edges-edge-index
offset_bounds-edges-edge-index g c = c.loop-edge.auto.edge-index-end

pub bounds-edges-edge-index : goal.bounds-edges-edge-index
bounds-edges-edge-index g c = c.loop-edge-test.true

pub loop-edge-smaller : goal.loop-edge-smaller
loop-edge-smaller g c = omega (arith, c.loop-edge-test.true)

pub returns-then-not-has_goal : goal.returns-then-not-has_goal
returns-then-not-has_goal g c =
    let reaches = λ (e : Edge _). HasGoal (goal_nodes_of c.args.nodes.now) e.target e.input in (
      λ never. cc,
      λ all. sym c.if-not-has_goal.true ∙ c.has_goal.ensures.1
          (subst reaches (sym c.edge-item.is) (all c.loop-edge.edge-index c.edge-item.result c.loop-edge-test.true)),
    )
