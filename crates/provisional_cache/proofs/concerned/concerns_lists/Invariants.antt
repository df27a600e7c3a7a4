use Rattle.std.proofs.Common.{◌≡◌, nat_eq}
use Rattle.std.specs.List.{list_any}
use Rattle.provisional_cache.specs.Words.{lists_of, highest_passes}
use Rattle.provisional_cache.proofs.concerned.concerns_lists.Given as goal

-- a list that is concerned is among those that are left
abbrev pub invariant-loop-entries : goal.invariant-loop-entries
invariant-loop-entries g l =
    let test = list_any (λ list. list_any (λ entry. highest_passes (λ at _. nat_eq at l.depth.0) entry.heads) list.1) in
    test (lists_of l.entries-iterator) ≡ test (lists_of l.initial.entries-iterator)
