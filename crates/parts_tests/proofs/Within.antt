-- An answer more whose heads stand on a stack of two goals.
use Rattle.std.proofs.Common.{◌≤◌, ◌≡◌, Bool, true, All, inl, inr, sym, subst}
use Rattle.std.proofs.lemmas.Bool.{cases_Bool}
use Rattle.std.proofs.lemmas.List.Elements.{All-push}
use Rattle.parts_tests.specs.Below.{ProvisionalCacheEntry, entries_at, Lists, AppendsEntry}
use Rattle.parts_tests.specs.Within.{AreWithin}

module _ {X I R A T : Type 0} where
  pub pushed_within : (same : I → I → Bool) → ((x y : I) → same x y ≡ true → x ≡ y)
      → (old new : Lists I (ProvisionalCacheEntry X I R A T)) (goal : I) (entry : ProvisionalCacheEntry X I R A T)
      → AppendsEntry same old new goal entry → AreWithin same old
      → All (λ head. head.0.0 ≤ 1) entry.heads → AreWithin same new
  pushed_within same by_value old new goal entry appends within own = λ input. elim (cases_Bool (same goal input)) [
    | inl here ↦
        subst (λ o. All (λ e. All (λ head. head.0.0 ≤ 1) e.heads) (entries_at same new o)) (by_value goal input here)
        (subst (All (λ e. All (λ head. head.0.0 ≤ 1) e.heads)) (sym appends.here)
        (All-push (λ e. All (λ head. head.0.0 ≤ 1) e.heads) (entries_at same old goal) entry (within goal) own))
    | inr other ↦
        subst (All (λ e. All (λ head. head.0.0 ≤ 1) e.heads)) (sym (appends.others input other)) (within input)
  ]
