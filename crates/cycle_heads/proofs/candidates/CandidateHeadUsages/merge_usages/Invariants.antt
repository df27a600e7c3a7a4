use Rattle.std.proofs.Common.{◌≡◌, drop}
use Rattle.cycle_heads.specs.Words.{StackDepth, merged, at_depth}
use Rattle.cycle_heads.proofs.candidates.CandidateHeadUsages.merge_usages.Given as goal

abbrev pub invariant-loop-head : goal.invariant-loop-head
invariant-loop-head l = (depth : StackDepth)
    → merged (at_depth l.sums depth) (at_depth (drop l.head-index l.head-items) depth)
    ≡ merged (at_depth l.initial.sums depth) (at_depth l.head-items depth)
