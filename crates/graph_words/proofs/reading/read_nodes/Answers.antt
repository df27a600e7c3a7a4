use Rattle.std.proofs.Common.{All, map, subst, sym}
use Rattle.std.proofs.lemmas.List.Elements.{All-push}
use Rattle.graph_words.proofs.Lists.{mapped_pushed, read_more}
use Rattle.graph_words.proofs.Readback.{node_left, node_smaller}
use Rattle.graph_words.proofs.Stops.{stops_before}
use Rattle.graph_words.proofs.reading.read_nodes.Goals as goal
use Rattle.graph_words.specs.Words.{IsNode, left_in, node_words, plain_node}

pub returns-in_err-read_node-clause-refused : goal.returns-in_err-read_node-clause-refused
returns-in_err-read_node-clause-refused c =
    stops_before _ _ _ _ (λ all. node_left (map plain_node c.loop-source.nodes.items) _ (left_in c.loop-source.source)
    c.loop-source.invariant.spelled c.loop-source-test.ensures all.0 all.1)
    c.from_residual.ensures.1 c.in_err-read_node.ensures.refused

pub loop-source-smaller : goal.loop-source-smaller
loop-source-smaller c = node_smaller (plain_node c.in_ok-read_node.field-0) (left_in c.loop-source.source)
    (left_in c.read_node.new.source) c.in_ok-read_node.ensures.read

pub loop-source-preserved : goal.loop-source-preserved
loop-source-preserved c =
    let nodes = map plain_node c.loop-source.nodes.items in
    let node = plain_node c.in_ok-read_node.field-0 in
    let more = mapped_pushed plain_node c.loop-source.nodes.items c.push.new.self.items c.in_ok-read_node.field-0
    c.in_ok-push.ensures.items in
    record {
      spelled = read_more node_words (λ words. words) nodes (map plain_node c.push.new.self.items) node
          c.args.words.now (left_in c.loop-source.source) (left_in c.read_node.new.source)
          c.loop-source.invariant.spelled c.in_ok-read_node.ensures.read more;
      in_range = subst (All IsNode) (sym more)
          (All-push IsNode nodes node c.loop-source.invariant.in_range c.in_ok-read_node.ensures.in_range);
    }
