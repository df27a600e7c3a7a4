-- Usages are merged head by head, in whatever order.
use Rattle.std.proofs.Common.{◌≡◌, ◌^◌, ◌+◌, ◌-◌, ◌<◌, ℕ, drop, get_or, length, min, ◌∷◌, Option, Some, None, refl, sym}
use Rattle.std.proofs.Common.{ap, ◌∙◌, subst, inl, inr}
use Rattle.std.proofs.lemmas.Bool.{cases_eq}
use Rattle.std.proofs.Math.Nat.{add_comm}
use Rattle.cycle_heads.specs.Words.{StackDepth, HeadUsages, merged, sum_with, with_added, UsagesByHead, at_depth}
use Rattle.cycle_heads.specs.Words.{IsRising, count_of, usages_by, with_usages}
use Rattle.cycle_heads.proofs.HeadLists.{absent_later, next_entry, rising_from, at_depth-first, at_depth-rest}
use Rattle.cycle_heads.proofs.HeadLists.{at_depth-insert_same, at_depth-insert_other}

with_usages-comm : (usages more : HeadUsages) → with_usages usages more ≡ with_usages more usages
with_usages-comm usages more =
    λ i. usages_by (λ kind. min (add_comm (count_of usages kind) (count_of more kind) i) (2 ^ 32 - 1))

pub merged-comm : (usages more : Option HeadUsages) → merged usages more ≡ merged more usages
merged-comm None None = refl
merged-comm None (Some more) = refl
merged-comm (Some usages) None = refl
merged-comm (Some usages) (Some more) = ap Some (with_usages-comm usages more)

pub merged-None : (usages : Option HeadUsages) → merged usages None ≡ usages
merged-None None = refl
merged-None (Some usages) = refl

merged-sum : (usages : HeadUsages) (known : Option HeadUsages)
    → merged (Some (sum_with usages known)) None ≡ merged known (Some usages)
merged-sum usages None = refl
merged-sum usages (Some known) = ap Some (with_usages-comm usages known)

-- one head less is left to be added
merged-added : (sums rest : UsagesByHead) (head : StackDepth) (usages : HeadUsages)
    → IsRising ((head, usages) ∷ rest) → (depth : StackDepth)
    → merged (at_depth (with_added sums head usages) depth) (at_depth rest depth)
    ≡ merged (at_depth sums depth) (at_depth ((head, usages) ∷ rest) depth)
merged-added sums rest head usages rising depth = elim (cases_eq depth.0 head.0) [
  | inl same ↦
      let here : head ≡ depth = λ i. record { 0 = sym same i } in
      subst (λ d. merged (at_depth (with_added sums head usages) d) (at_depth rest d)
      ≡ merged (at_depth sums d) (at_depth ((head, usages) ∷ rest) d)) here
      (ap (λ o. merged o (at_depth rest head)) (at_depth-insert_same head (sum_with usages (at_depth sums head)) sums)
      ∙ ap (merged (Some (sum_with usages (at_depth sums head)))) (absent_later head usages rest rising)
      ∙ merged-sum usages (at_depth sums head)
      ∙ ap (merged (at_depth sums head)) (sym (at_depth-first head usages rest)))
  | inr other ↦
      ap (λ o. merged o (at_depth rest depth))
      (at_depth-insert_other head (sum_with usages (at_depth sums head)) sums depth other)
      ∙ ap (merged (at_depth sums depth)) (sym (at_depth-rest head depth usages rest other))
]

-- the same at a place in the list of what is added
pub merged-next : (sums more : UsagesByHead) (i : ℕ) (e : StackDepth × HeadUsages) → IsRising more
    → i < length more → (depth : StackDepth)
    → let here = get_or more i e in
    merged (at_depth (with_added sums here.0 here.1) depth) (at_depth (drop (i + 1) more) depth)
    ≡ merged (at_depth sums depth) (at_depth (drop i more) depth)
merged-next sums more i e rising within depth =
    let rest = next_entry more i e within in
    let here = get_or more i e in
    merged-added sums (drop (i + 1) more) here.0 here.1 (subst IsRising rest (rising_from more i rising)) depth
    ∙ ap (λ left. merged (at_depth sums depth) (at_depth left depth)) (sym rest)
