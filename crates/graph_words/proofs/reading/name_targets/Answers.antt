use Rattle.std.proofs.Common.{ap, get_or, slice_set, ◌<◌, ◌∙◌, length, arith}
use Rattle.std.proofs.lemmas.List.{get_or_default}
use Rattle.std.proofs.lemmas.List.Edits.{map_over_more}
use Rattle.graph_words.proofs.reading.name_targets.Goals as goal
use Rattle.graph_words.specs.Below.{Inductive}
use Rattle.graph_words.specs.Words.{named_edge}

-- one edge more has its target's goal
pub loop-edge-preserved : goal.loop-edge-preserved
loop-edge-preserved c =
    let edges = c.loop-edge.edge-items in
    let at = c.loop-edge.edge-index in
    let before = get_or c.loop-edge.edge-items c.loop-edge.edge-index
    (record { kind = Inductive; input = 0; target = 0 }) in
    let inside : c.loop-edge.edge-index < length c.loop-edge.edge-items =
    omega (arith, c.loop-edge-test.true, c.loop-edge.auto.edge-items) in
    ap (λ goal. slice_set edges at (record { kind = before.kind; input = goal; target = before.target }))
    c.goal_at-edge.ensures
    ∙ map_over_more (named_edge c.args.goals.now) c.deref_mut-edge-items.result.now edges at before
    c.loop-edge-test.true
    c.loop-edge.invariant (get_or_default edges at _ before inside)
