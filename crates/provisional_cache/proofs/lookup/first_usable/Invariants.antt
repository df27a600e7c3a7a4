use Rattle.std.proofs.Common.{◌≡◌, drop}
use Rattle.std.specs.List.{find}
use Rattle.provisional_cache.specs.Words.{may_be_used}
use Rattle.provisional_cache.proofs.lookup.first_usable.Given as goal

-- the first entry that may be used is among those that are left
abbrev pub invariant-loop-entry : goal.invariant-loop-entry
invariant-loop-entry g l =
    let test = may_be_used l.stack l.step in
    find test (drop l.entry-index l.entries) ≡ find test l.entries
