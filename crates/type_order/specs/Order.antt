-- When the types that are declared are in order: each part is one of them, and unions end.
use Rattle.std.specs.Prelude.{◌≡◌, ◌<◌, ℕ, List, length, slice_get, Contains, Some}
pub use Rattle.type_order.specs.Parts.{parts_of}
use Rattle.type_order.specs.Subtypes.{Form, IsUnion}

-- each part of each type is declared
abbrev pub AreDeclared : List Form → Type 0
AreDeclared forms = (n : ℕ) (form : Form) → slice_get forms n ≡ Some form → (part : ℕ)
    → Contains (parts_of form) part → part < length forms

-- No type is a union of itself through unions alone: types have ranks, and each alternative has a
-- lesser one than its union.
pub record IsContractive (forms : List Form) : Type 0 where
  pub rank : ℕ → ℕ
  pub falls : (n : ℕ) (alternatives : List ℕ) → IsUnion (slice_get forms n) alternatives → (x : ℕ)
      → Contains alternatives x → rank x < rank n
