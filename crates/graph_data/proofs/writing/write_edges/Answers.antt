use Rattle.std.proofs.Common.{codes, refl}
use Rattle.graph_data.proofs.Spelling.{list_more}
use Rattle.graph_data.proofs.writing.write_edges.Goals as goal
use Rattle.graph_data.specs.Below.{names_of}
use Rattle.graph_data.specs.Data.{edge_tokens}

pub loop-edge-preserved : goal.loop-edge-preserved
loop-edge-preserved c = λ texts.
    list_more (codes "edges") (edge_tokens (names_of c.args.rules.now)) c.args.writer.now c.loop-edge.writer
    c.write_edge.new.writer c.args.edges.now c.loop-edge.edge-index _ _ c.loop-edge-test.true refl
    (c.loop-edge.invariant texts) (c.in_ok-write_edge.ensures texts)
