use Rattle.std.proofs.Common.{ap, arith, drop, length, map, set, sym, take, ◌++◌, ◌<◌, ◌≤◌, ◌∙◌, ◌≡◌}
use Rattle.std.proofs.lemmas.List.{get_or-map, length-map, map-set}
use Rattle.std.proofs.lemmas.List.Edits.{map_over_more}
use Rattle.graph_words.proofs.Lists.{map_finished, written_back}
use Rattle.graph_words.proofs.Readback.{named_are, named_same}
use Rattle.graph_words.proofs.reading.nodes_of_words.Goals as goal
use Rattle.graph_words.specs.Words.{goals_of, named_node, plain_node}

-- the edges of one node more have their targets' goals
pub loop-node-preserved : goal.loop-node-preserved
loop-node-preserved c =
    let goals = c.in_ok-goals.goals.items in
    let nodes = c.loop-node.node-items in
    let first = c.deref_mut-node-items.result.now in
    let at = c.loop-node.node-index in
    let before = c.node-item.result in
    let inside : c.loop-node.node-index < length (map plain_node c.deref_mut-node-items.result.now) =
    omega (arith, c.loop-node-test.true, length-map c.deref_mut-node-items.result.now plain_node) in
    let within : c.loop-node.node-index < length c.loop-node.node-items =
    omega (arith, c.loop-node-test.true, c.loop-node.auto.node-items) in
    map-set plain_node nodes at c.name_targets.new.node
    ∙ ap (set (map plain_node nodes) at) (c.name_targets.ensures
    ∙ ap (named_node c.as_slice-in-loop-node.result.now) (ap plain_node (sym c.node-item.is))
    ∙ ap (λ gs. named_node gs (plain_node before)) c.as_slice-in-loop-node.ensures.value)
    ∙ map_over_more (named_node goals) (map plain_node first) (map plain_node nodes) at (plain_node before) inside
    c.loop-node.invariant
    (ap plain_node c.node-item.is ∙ sym (get_or-map plain_node nodes at before (plain_node before) within))

-- in the end, of all
all_named : (c : goal.After-drop-goals)
    → map plain_node (take c.in_ok-nodes.nodes.len (c.loop-node.node-items
    ++ drop (length c.loop-node.node-items) c.in_ok-nodes.nodes.items))
    ≡ map (named_node c.in_ok-goals.goals.items) (map plain_node c.in_ok-nodes.nodes.items)
all_named c =
    let goals = c.in_ok-goals.goals.items in
    let first = c.deref_mut-node-items.result.now in
    let new = c.loop-node.node-items in
    let count : c.in_ok-nodes.nodes.len ≡ length c.in_ok-nodes.nodes.items = omega (arith, c.in_ok-nodes.nodes.ok.0) in
    let same : length c.loop-node.node-items ≡ length c.in_ok-nodes.nodes.items =
    omega (arith, c.loop-node.auto.node-items, ap length c.deref_mut-node-items.ensures.value) in
    let past : length (map plain_node c.deref_mut-node-items.result.now) ≤ c.loop-node.node-index =
    omega (arith, c.loop-node-test.false, length-map c.deref_mut-node-items.result.now plain_node) in
    ap (map plain_node) (written_back new c.in_ok-nodes.nodes.items c.in_ok-nodes.nodes.len count same)
    ∙ map_finished (named_node goals) (map plain_node first) (map plain_node new) c.loop-node.node-index past
    c.loop-node.invariant
    ∙ ap (λ ns. map (named_node goals) (map plain_node ns)) c.deref_mut-node-items.ensures.value

pub returns-clause-read : goal.returns-clause-read
returns-clause-read c =
    named_are c.in_ok-goals.goals.items c.args.words.now (map plain_node c.in_ok-nodes.nodes.items) _
    c.in_ok-nodes.ensures.read (all_named c)

pub returns-clause-same : goal.returns-clause-same
returns-clause-same c =
    named_same c.in_ok-goals.goals.items c.args.words.now (map plain_node c.in_ok-nodes.nodes.items) _
    c.in_ok-nodes.ensures.read
    (c.in_ok-goals.ensures ∙ ap (λ ns. goals_of (map plain_node ns)) c.as_slice.ensures.value) (all_named c)
