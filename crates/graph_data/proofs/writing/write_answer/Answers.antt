use Rattle.std.proofs.Common.{codes}
use Rattle.graph_data.proofs.Spelling.{puts_all, puts_last, puts_none, puts_string_at, puts_token}
use Rattle.graph_data.proofs.writing.write_answer.Goals as goal

pub returns : goal.returns
returns c = λ texts.
    let p0 = puts_token c.args.writer.now c.args.writer.now c.begin_object.new.self _ _ (puts_none c.args.writer.now)
    c.in_ok-begin_object.ensures.ok c.in_ok-begin_object.ensures.room.0 in
    let p1 = puts_string_at c.args.writer.now c.begin_object.new.self c.string_at.new.writer (codes "goal") _ _ _ p0
    c.in_ok-string_at.ensures (c.name_of.ensures (texts _)) in
    let p2 = puts_string_at c.args.writer.now c.string_at.new.writer c.string_at-2.new.writer (codes "verdict") _ _ _ p1
    c.in_ok-string_at-2.ensures c.word.ensures in
    let p3 = puts_all c.args.writer.now c.string_at-2.new.writer c.write_nodes.new.writer _ _ p2
    (c.in_ok-write_nodes.ensures texts) in
    puts_last c.args.writer.now c.write_nodes.new.writer c.end_object.new.self _ _
    c.end_object.result p3 c.end_object.ensures
