use Rattle.std.proofs.Common.{ap, codes}
use Rattle.graph_data.specs.Below.{names_of}
use Rattle.graph_data.specs.Data.{array_tokens, edge_tokens, member_tokens, reply_tokens}
use Rattle.graph_data.proofs.Spelling.{puts_all, puts_last, puts_none, puts_same, puts_string_at, puts_token}
use Rattle.graph_data.proofs.writing.write_node.Goals as goal

pub returns : goal.returns
returns c = λ texts.
    let replies =
    puts_same _ _ _ (member_tokens (codes "replies") (array_tokens reply_tokens) c.args.node.now.replies.items)
    c.in_ok-write_replies.ensures
    (λ rest. ap (λ rs. member_tokens (codes "replies") (array_tokens reply_tokens) rs rest) c.deref.ensures.value) in
    let edges = puts_same _ _ _ (member_tokens (codes "edges") (array_tokens (edge_tokens (names_of c.args.rules.now)))
    c.args.node.now.edges.items) (c.in_ok-write_edges.ensures texts)
    (λ rest. ap (λ es. member_tokens (codes "edges") (array_tokens (edge_tokens (names_of c.args.rules.now))) es rest)
    c.deref-2.ensures.value) in
    let p0 = puts_token c.args.writer.now c.args.writer.now c.begin_object.new.self _ _ (puts_none c.args.writer.now)
    c.in_ok-begin_object.ensures.ok c.in_ok-begin_object.ensures.room.0 in
    let p1 = puts_string_at c.args.writer.now c.begin_object.new.self c.string_at.new.writer (codes "goal") _ _ _ p0
    c.in_ok-string_at.ensures (c.name_of.ensures (texts _)) in
    let p2 = puts_all c.args.writer.now c.string_at.new.writer c.write_replies.new.writer _ _ p1 replies in
    let p3 = puts_string_at c.args.writer.now c.write_replies.new.writer c.string_at-2.new.writer (codes "result") _ _ _
    p2 c.in_ok-string_at-2.ensures c.word.ensures in
    let p4 = puts_all c.args.writer.now c.string_at-2.new.writer c.write_edges.new.writer _ _ p3 edges in
    puts_last c.args.writer.now c.write_edges.new.writer c.end_object.new.self _ _
    c.end_object.result p4 c.end_object.ensures
