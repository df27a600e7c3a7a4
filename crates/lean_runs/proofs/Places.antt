-- Places in a list.
use Rattle.std.proofs.Common.{◌≡◌, ℕ, List, Contains, Some, slice_get, ap, ◌∙◌}
use Rattle.std.proofs.lemmas.Option.{slice_get_within, get_or_from_slice_get, slice_get-get_or}

pub contains_at : {A : Type 0} (xs : List A) (i : ℕ) (x : A) → slice_get xs i ≡ Some x → Contains xs x
contains_at xs i x at = (i, slice_get_within xs i x at, get_or_from_slice_get xs i x x at)

pub place_among : {A : Type 0} (xs : List A) (x : A) → Contains xs x → (j : ℕ) × (slice_get xs j ≡ Some x)
place_among xs x has = (has.0, slice_get-get_or xs has.0 x has.1 ∙ ap Some has.2)
