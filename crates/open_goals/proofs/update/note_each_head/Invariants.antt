use Rattle.std.proofs.Common.{◌≡◌, ◌||◌, drop}
use Rattle.open_goals.specs.Below.{StackDepth, at_depth}
use Rattle.goal_changes.specs.Words.{some_heads, usages_over, is_in_cycle}
use Rattle.open_goals.proofs.TakenHeads.{counted_over, head_over}
use Rattle.open_goals.proofs.update.note_each_head.Given as goal

-- the heads that are left and those that were taken over are together those of the answer
abbrev pub invariant-loop-head : goal.invariant-loop-head
invariant-loop-head g l =
    (l.state ≡ record l.initial.state {
      heads = l.state.heads;
      usages = l.state.usages;
      candidate_usages = l.state.candidate_usages;
    })
    × (usages_over l.state.usages (at_depth (drop l.head-index l.head-items) l.parent)
    ≡ usages_over l.initial.state.usages (at_depth l.head-items l.parent))
    × ((depth : StackDepth)
    → head_over l.parent l.step depth (at_depth l.state.heads depth) (at_depth (drop l.head-index l.head-items) depth)
    ≡ head_over l.parent l.step depth (at_depth l.initial.state.heads depth) (at_depth l.head-items depth))
    × ((depth : StackDepth)
    → counted_over depth l.state.candidate_usages (at_depth (drop l.head-index l.head-items) depth)
    ≡ counted_over depth l.initial.state.candidate_usages (at_depth l.head-items depth))
    × ((is_in_cycle l.state || some_heads (drop l.head-index l.head-items))
    ≡ (is_in_cycle l.initial.state || some_heads l.head-items))
