use Rattle.std.proofs.Common.{◌≡◌, drop}
use Rattle.provisional_cache.proofs.CycleKinds.{keep_from}
use Rattle.provisional_cache.proofs.kinds.keeps_kinds.Given as goal

-- the heads that are left decide
abbrev pub invariant-loop-depth : goal.invariant-loop-depth
invariant-loop-depth g l =
    keep_from l.stack l.done l.to_entry l.to_done (drop l.depth-index l.depth-items)
    ≡ keep_from l.stack l.done l.to_entry l.to_done l.depth-items
