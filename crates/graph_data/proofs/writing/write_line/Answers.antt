use Rattle.std.proofs.Common.{◌∷◌, []}
use Rattle.graph_data.proofs.Lines.{line_written}
use Rattle.graph_data.proofs.Spelling.{puts_none, puts_token}
use Rattle.graph_data.proofs.writing.write_line.Goals as goal

pub returns-in_ok-string : goal.returns-in_ok-string
returns-in_ok-string c = (
  c.text_of_line.result.now ∷ [],
  line_written c.args.line.now c.text_of_line.result.now c.if-says_something.ensures c.text_of_line.ensures,
  puts_token c.args.writer.now c.args.writer.now c.string.new.self _ _ (puts_none c.args.writer.now)
      c.in_ok-string.ensures.ok c.in_ok-string.ensures.room.0,
)
