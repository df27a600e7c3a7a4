use Rattle.std.proofs.Common.{◌∷◌, length, refl}
use Rattle.graph_words.proofs.Lists.{list_more, puts_none, puts_word}
use Rattle.graph_words.proofs.writing.write_edges.Goals as goal
use Rattle.graph_words.specs.Words.{edge_words}

pub loop-edge-preserved : goal.loop-edge-preserved
loop-edge-preserved c =
    let mid = c.loop-edge.words.items in
    let kind = puts_word mid mid c.push-in-loop-edge.new.self.items _ _ (λ rest. rest) (puts_none mid)
    c.in_ok-push-2.ensures.items c.kind_word.ensures in
    let one = puts_word mid c.push-in-loop-edge.new.self.items c.push-in-loop-edge-2.new.self.items _ _
    (λ rest. _ ∷ rest) kind c.in_ok-push-3.ensures.items refl in
    list_more edge_words c.args.words.now.items mid c.push-in-loop-edge-2.new.self.items
    (λ rest. length c.args.edges.now ∷ rest) c.args.edges.now c.loop-edge.edge-index _ _ c.loop-edge-test.true
    refl c.loop-edge.invariant one
