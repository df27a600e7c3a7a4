use Rattle.std.proofs.Common.{◌∙◌, ap}
use Rattle.trees.specs.Below.{started_in}
use Rattle.trees.proofs.Trees.{tree_written}
use Rattle.trees.proofs.program.shown.write_tree.Goals as goal

pub returns : goal.returns
returns c =
    tree_written c.args.rules.now c.args.goal c.args.recorder.now c.args.came c.entries.result.now c.started.result _ _
    _ _ c.entries.ensures (c.started.ensures ∙ ap started_in c.inner.ensures)
    c.in_ok-write_entries.ensures c.in_ok-write_goal.ensures c.in_ok-write_answer.ensures
