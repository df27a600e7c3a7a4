use Rattle.std.proofs.Common.{◌≢◌, [], All}
use Rattle.provisional_cache.proofs.changed_lists.has_empty_list.Given as goal

-- if the lists that are left have entries, all have
abbrev pub invariant-loop-items : goal.invariant-loop-items
invariant-loop-items g l =
    All (λ e. e.1.items ≢ []) l.items-iterator → All (λ e. e.1.items ≢ []) l.initial.items-iterator
