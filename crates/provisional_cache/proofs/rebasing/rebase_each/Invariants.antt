use Rattle.std.proofs.Common.{◌≡◌, ◌++◌, All, length, take, drop}
use Rattle.std.specs.List.{filter_map}
use Rattle.provisional_cache.specs.Words.{left_of, rebased, CanBeRebased, changed_by}
use Rattle.provisional_cache.proofs.rebasing.rebase_each.Given as goal

-- what is left of the first entries and what will be of the others is what is left of all
abbrev pub invariant-loop-entry : goal.invariant-loop-entry
invariant-loop-entry g l =
    let becomes = rebased l.stack l.done (changed_by l.entry_change) in
    (filter_map left_of (take l.entry-index l.entries) ++ filter_map becomes (drop l.entry-index l.entries)
    ≡ filter_map becomes l.initial.entries)
    × All (CanBeRebased (length l.stack)) (drop l.entry-index l.entries)
