use Rattle.graph_data.proofs.Spelling.{puts_last, puts_none, puts_token}
use Rattle.graph_data.proofs.writing.string_at.Goals as goal

pub returns : goal.returns
returns c =
    let p0 = puts_token c.args.writer.now c.args.writer.now c.key.new.self _ _ (puts_none c.args.writer.now)
    c.in_ok-key.ensures.ok c.in_ok-key.ensures.room.0 in
    puts_last c.args.writer.now c.key.new.self c.string.new.self _ _ c.string.result p0 c.string.ensures
