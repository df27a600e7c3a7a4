-- Options that have nothing.
use Rattle.std.proofs.Common.{◌≡◌, false, Option, Some, None, is_some, refl}

pub is_none : {A : Type 0} (o : Option A) → is_some o ≡ false → o ≡ None
is_none None absent = refl
is_none (Some x) absent = cc

pub none_is : {A : Type 0} (o : Option A) → ((x : A) → o ≡ Some x → ⊥) → o ≡ None
none_is None never = refl
none_is (Some x) never = absurd (never x refl)
