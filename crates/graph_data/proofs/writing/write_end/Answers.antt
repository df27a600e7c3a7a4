use Rattle.graph_data.proofs.Spelling.{puts_last, puts_none, puts_token}
use Rattle.graph_data.proofs.writing.write_end.Goals as goal

pub returns : goal.returns
returns c =
    let p0 = puts_token c.args.writer.now c.args.writer.now c.end_array.new.self _ _ (puts_none c.args.writer.now)
    c.in_ok-end_array.ensures.ok c.in_ok-end_array.ensures.room.0 in
    puts_last c.args.writer.now c.end_array.new.self c.end_object.new.self _ _
    c.end_object.result p0 c.end_object.ensures
