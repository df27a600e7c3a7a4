use Rattle.std.proofs.Common.{codes}
use Rattle.graph_data.proofs.Spelling.{puts_last, puts_none, puts_string_at, puts_token}
use Rattle.graph_data.proofs.writing.write_edge.Goals as goal

pub returns : goal.returns
returns c = λ texts.
    let p0 = puts_token c.args.writer.now c.args.writer.now c.begin_object.new.self _ _ (puts_none c.args.writer.now)
    c.in_ok-begin_object.ensures.ok c.in_ok-begin_object.ensures.room.0 in
    let p1 = puts_string_at c.args.writer.now c.begin_object.new.self c.string_at.new.writer (codes "kind") _ _ _ p0
    c.in_ok-string_at.ensures c.letter.ensures in
    let p2 = puts_string_at c.args.writer.now c.string_at.new.writer c.string_at-2.new.writer (codes "goal") _ _ _ p1
    c.in_ok-string_at-2.ensures (c.name_of.ensures (texts _)) in
    let p3 = puts_token c.args.writer.now c.string_at-2.new.writer c.key.new.self _ _ p2
    c.in_ok-key.ensures.ok c.in_ok-key.ensures.room.0 in
    let p4 = puts_token c.args.writer.now c.key.new.self c.u64.new.self _ _ p3
    c.in_ok-u64.ensures.ok c.in_ok-u64.ensures.room.0 in
    puts_last c.args.writer.now c.u64.new.self c.end_object.new.self _ _ c.end_object.result p4 c.end_object.ensures
