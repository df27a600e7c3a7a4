use Rattle.graph_data.proofs.Spelling.{puts_all}
use Rattle.graph_data.proofs.writing.write_start.Goals as goal

pub returns : goal.returns
returns c =
    let so_far = c.in_ok-write_rules.ensures in (
      so_far.0,
      so_far.1,
      puts_all c.args.writer.now c.write_rules.new.writer c.begin_array_at.new.writer _ _
          so_far.2 c.in_ok-begin_array_at.ensures,
    )
