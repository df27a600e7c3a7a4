use Rattle.std.proofs.Common.{◌≡◌, ◌≤◌, ◌+◌, reverse, take}
use Rattle.graph_check.specs.Words.{has_sort, Replays}
use Rattle.graph_check.proofs.replay.is_run.Given as goal
use Rattle.graph_check.specs.Below.{verdicts}

-- the frame and the record have had the replies so far
abbrev pub invariant-loop-reply : goal.invariant-loop-reply
invariant-loop-reply g l = record {
  replays : Replays (has_sort (verdicts g.D.Cx.Cx) l.sort) (g.D.Delegate.script l.cx l.node.input) l.run
      (reverse (take l.reply-index l.node.replies.items));
  stands : g.D.Delegate.stands l.frame l.cx l.node.input (reverse (take l.reply-index l.node.replies.items));
  starts : g.D.Delegate.starts l.inspect ≤ g.D.Delegate.starts l.fn.inspect + 1;
  same_noop : g.D.Delegate.noop l.inspect ≡ g.D.Delegate.noop l.fn.inspect;
}
