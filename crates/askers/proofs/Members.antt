-- Members of lists by their places, and goals that are the same.
use Rattle.std.proofs.Common.{◌≡◌, ◌∙◌, ◌⊎◌, ℕ, Bool, Contains, List, Some, ap, false, inl, inr, slice_get}
use Rattle.std.proofs.lemmas.Bool.{cases_Bool}
use Rattle.std.proofs.lemmas.Option.{get_or_from_slice_get, slice_get-get_or, slice_get_within}
use Rattle.askers.specs.Told.{IsExact}

pub member_at : {A : Type 0} (xs : List A) (x : A) (has : Contains xs x) → slice_get xs has.0 ≡ Some x
member_at xs x has = slice_get-get_or xs has.0 x has.1 ∙ ap Some has.2

pub at_member : {A : Type 0} (xs : List A) (k : ℕ) (x : A) → slice_get xs k ≡ Some x → Contains xs x
at_member xs k x is = (k, slice_get_within xs k x is, get_or_from_slice_get xs k x x is)

-- two goals are one, or are not told to be
pub one_or_two : {I : Type 0} (same : I → I → Bool) → IsExact same → (x y : I) → (x ≡ y) ⊎ (same x y ≡ false)
one_or_two same exact x y = elim (cases_Bool (same x y)) [
  | inl is ↦ inl (exact x y is)
  | inr apart ↦ inr apart
]
