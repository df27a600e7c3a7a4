use Rattle.std.proofs.Common.{ap, map, subst, sym, take, ◌∙◌, All, [], ◌+◌}
use Rattle.std.proofs.lemmas.List.{append-nil, take_all}
use Rattle.std.proofs.lemmas.List.Elements.{All-push}
use Rattle.graph_words.proofs.Lists.{list_pushed, taken_more}
use Rattle.graph_words.proofs.writing.words_of_nodes.Goals as goal
use Rattle.graph_words.specs.Words.{IsNode, node_words, plain_node, words_of}

pub loop-node-preserved : goal.loop-node-preserved
loop-node-preserved c =
    let more = taken_more plain_node c.args.nodes.now c.loop-node.node-index c.node-item.result _ c.loop-node-test.true
    c.node-item.is in
    record {
      written = list_pushed node_words [] c.loop-node.words.items c.write_node.new.words.items (λ rest. rest)
          (map plain_node (take c.loop-node.node-index c.args.nodes.now))
          (map plain_node (take (c.loop-node.node-index + 1) c.args.nodes.now)) (plain_node c.node-item.result)
          more c.loop-node.invariant.written c.in_ok-write_node.ensures.written;
      in_range = subst (All IsNode) (sym more)
          (All-push IsNode (map plain_node (take c.loop-node.node-index c.args.nodes.now))
          (plain_node c.node-item.result) c.loop-node.invariant.in_range c.write_node.ensures.in_range);
    }

pub returns : goal.returns
returns c =
    let all = take_all c.loop-node.node-index c.args.nodes.now c.loop-node-test.false in
    record {
      spelled = sym (append-nil c.loop-node.words.items) ∙ c.loop-node.invariant.written []
          ∙ ap (λ nodes. words_of (map plain_node nodes)) all;
      in_range = subst (λ nodes. All IsNode (map plain_node nodes)) all c.loop-node.invariant.in_range;
    }
