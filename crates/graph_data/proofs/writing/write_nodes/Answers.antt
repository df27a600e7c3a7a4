use Rattle.std.proofs.Common.{codes}
use Rattle.graph_data.proofs.Spelling.{list_more_seen}
use Rattle.graph_data.proofs.writing.write_nodes.Goals as goal
use Rattle.graph_data.specs.Below.{names_of}
use Rattle.graph_data.specs.Data.{node_tokens, plain_node}

pub loop-node-preserved : goal.loop-node-preserved
loop-node-preserved c = λ texts.
    list_more_seen (codes "nodes") plain_node (node_tokens (names_of c.args.rules.now)) c.args.writer.now
    c.loop-node.writer c.write_node.new.writer c.args.nodes.now c.loop-node.node-index c.node-item.result _
    c.loop-node-test.true c.node-item.is (c.loop-node.invariant texts)
    (c.in_ok-write_node.ensures texts)
