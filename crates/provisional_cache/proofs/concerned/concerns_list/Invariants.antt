use Rattle.std.proofs.Common.{◌≡◌, drop}
use Rattle.std.specs.List.{list_any}
use Rattle.provisional_cache.proofs.ConcernedLists.{is_concerned}
use Rattle.provisional_cache.proofs.concerned.concerns_list.Given as goal

-- an entry that is concerned is among those that are left
abbrev pub invariant-loop-entry : goal.invariant-loop-entry
invariant-loop-entry g l =
    let test = is_concerned l.depth.0 in
    list_any test (drop l.entry-index l.entries) ≡ list_any test l.entries
