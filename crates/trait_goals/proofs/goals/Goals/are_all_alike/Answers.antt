use Rattle.std.proofs.Common.{◌≡◌, ◌<◌, length, sym, ◌∙◌, arith}
use Rattle.std.proofs.lemmas.List.{length-map}
use Rattle.strong_components.specs.Words.{successor_lists}
use Rattle.trait_goals.proofs.Alike.{alike_more, list_at, not_alike}
use Rattle.trait_goals.proofs.goals.Goals.are_all_alike.Goals as goal

pub returns-then-not-asks_alike : goal.returns-then-not-asks_alike
returns-then-not-asks_alike c =
    let graph = successor_lists c.args.graph.now in
    let less : c.loop-goal.goal < length c.args.graph.now = omega arith in
    not_alike c.args.self.now graph c.args.numbers.now c.loop-goal.goal c.as_slice.result.now c.asks_alike.result
    c.asks_alike.ensures
    (list_at c.args.graph.now c.loop-goal.goal c.index-graph-goal.result less c.index-graph-goal.is
    ∙ sym c.as_slice.ensures.value)
    (λ yes. let no = c.if-not-asks_alike.true in cc)
    (let e : length graph ≡ length c.args.graph.now = length-map c.args.graph.now _ in omega (arith, e, less))

pub loop-goal-preserved : goal.loop-goal-preserved
loop-goal-preserved c =
    let less : c.loop-goal.goal < length c.args.graph.now = omega arith in
    alike_more c.args.self.now (successor_lists c.args.graph.now) c.args.numbers.now c.loop-goal.goal
    c.as_slice.result.now c.asks_alike.result c.asks_alike.ensures
    (list_at c.args.graph.now c.loop-goal.goal c.index-graph-goal.result less c.index-graph-goal.is
    ∙ sym c.as_slice.ensures.value)
    (let yes = c.if-not-asks_alike.false in cc)
    c.loop-goal.invariant
