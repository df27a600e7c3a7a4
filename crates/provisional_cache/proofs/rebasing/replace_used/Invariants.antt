use Rattle.std.proofs.Common.{◌≡◌, drop}
use Rattle.provisional_cache.specs.Words.{with_used}
use Rattle.provisional_cache.proofs.rebasing.replace_used.Given as goal

-- with the heads that are left these are as many as in the end
abbrev pub invariant-loop-depth : goal.invariant-loop-depth
invariant-loop-depth l =
    with_used (drop l.depth-index l.depth-items) l.to_done l.heads ≡ with_used l.depth-items l.to_done l.initial.heads
