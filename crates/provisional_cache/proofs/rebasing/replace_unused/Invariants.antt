use Rattle.std.proofs.Common.{◌≡◌, drop}
use Rattle.provisional_cache.specs.Words.{with_unused}
use Rattle.provisional_cache.proofs.rebasing.replace_unused.Given as goal

-- with the heads that are left these are as many as in the end
abbrev pub invariant-loop-depth : goal.invariant-loop-depth
invariant-loop-depth l =
    with_unused (drop l.depth-index l.depth-items) l.heads ≡ with_unused l.depth-items l.initial.heads
