use Rattle.std.proofs.Common.{◌≡◌, drop, option_map}
use Rattle.open_goals.specs.Below.{StackDepth, at_depth}
use Rattle.goal_changes.specs.Words.{is_in_cycle, less_usages, CanIgnore}
use Rattle.open_goals.proofs.IgnoredHeads.{left_at}
use Rattle.open_goals.proofs.update.ignore_usages.Given as goal

-- what is left and what was taken away are together what the candidate used, and what is left can still be taken away
abbrev pub invariant-loop-head : goal.invariant-loop-head
invariant-loop-head g l =
    (l.state ≡ record l.initial.state { heads = l.state.heads; usages = l.state.usages })
    × (option_map (λ own. less_usages own (at_depth (drop l.head-index l.head-items) l.parent)) l.state.usages
    ≡ option_map (λ own. less_usages own (at_depth l.head-items l.parent)) l.initial.state.usages)
    × ((depth : StackDepth)
    → left_at l.parent depth (at_depth l.state.heads depth) (at_depth (drop l.head-index l.head-items) depth)
    ≡ left_at l.parent depth (at_depth l.initial.state.heads depth) (at_depth l.head-items depth))
    × (is_in_cycle l.state ≡ is_in_cycle l.initial.state)
    × CanIgnore l.parent (drop l.head-index l.head-items) l.state
