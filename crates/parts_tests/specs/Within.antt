-- Answers whose heads stand on a stack of two goals.
use Rattle.std.specs.Prelude.{◌≤◌, Bool, All}
use Rattle.parts_tests.specs.Below.{ProvisionalCacheEntry, entries_at, Lists}

-- each head is that of the first goal or that of the second
abbrev pub AreWithin : {X I R A T : Type 0} → (I → I → Bool) → Lists I (ProvisionalCacheEntry X I R A T) → Type 0
AreWithin {I = I} same lists =
    (input : I) → All (λ entry. All (λ head. head.0.0 ≤ 1) entry.heads) (entries_at same lists input)
