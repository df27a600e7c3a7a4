-- When a type is below another, whether they end or not. A type is told by its number, the place of its equation.
use Rattle.std.specs.Prelude.{◌≡◌, ℕ, List, slice_get, Contains, Option, Some}
use Rattle.type_order.specs.Fields.{Field, part_of}
pub use Rattle.type_order.specs.declared.types.Form.{Form}
pub use Rattle.type_order.specs.declared.types.Form.TheVariants.{Base, Bottom, Function, Record, Top, Union}
use Rattle.type_order.specs.declared.types.Types.{Types}

-- what the declared types are
abbrev pub forms_of : Types → List Form
forms_of types = types.forms.items

-- it is a record with these fields
abbrev pub IsRecord : Option Form → List Field → Type 0
IsRecord (Some (Record own)) fields = own.items ≡ fields
IsRecord _ fields = ⊥

-- it is a union of these types
abbrev pub IsUnion : Option Form → List ℕ → Type 0
IsUnion (Some (Union own)) alternatives = own.items ≡ alternatives
IsUnion _ alternatives = ⊥

module _ (forms : List Form) where
  -- What supports that one type is below another, by the pairs of a list: any one of these. For two unions that is to
  -- take either of them apart, in whichever order, so nothing is lost to a fixed one.
  pub data IsSupportedPair (pairs : List (ℕ × ℕ)) (l r : ℕ) : Type 0 where
    BottomLeft : slice_get forms l ≡ Some Bottom → IsSupportedPair pairs l r
    TopRight : slice_get forms r ≡ Some Top → IsSupportedPair pairs l r
    SameWord : (word : ℕ) → slice_get forms l ≡ Some (Base word)
        → slice_get forms r ≡ Some (Base word) → IsSupportedPair pairs l r
    -- arguments the other way round
    Functions : (a b c d : ℕ) → slice_get forms l ≡ Some (Function a b) → slice_get forms r ≡ Some (Function c d) →
        Contains pairs (c, a) → Contains pairs (b, d) → IsSupportedPair pairs l r
    -- each field of the right one is in the left one, too
    Records : (ls rs : List Field) → IsRecord (slice_get forms l) ls → IsRecord (slice_get forms r) rs →
        ((name y : ℕ) → part_of rs name ≡ Some y → (x : ℕ) × (part_of ls name ≡ Some x) × Contains pairs (x, y)) →
        IsSupportedPair pairs l r
    -- each alternative of the left one
    EachLeft : (alternatives : List ℕ) → IsUnion (slice_get forms l) alternatives
        → ((x : ℕ) → Contains alternatives x → Contains pairs (x, r)) → IsSupportedPair pairs l r
    -- some alternative of the right one
    SomeRight : (alternatives : List ℕ) → IsUnion (slice_get forms r) alternatives → (y : ℕ) → Contains alternatives y
        → Contains pairs (l, y) → IsSupportedPair pairs l r

  -- a list of pairs that supports each of its own
  abbrev pub IsSimulation : List (ℕ × ℕ) → Type 0
  IsSimulation pairs = (l r : ℕ) → Contains pairs (l, r) → IsSupportedPair pairs l r

  -- the left type is below the right one: some such list has their pair
  pub record IsBelow (l r : ℕ) : Type 0 where
    pub pairs : List (ℕ × ℕ)
    pub is_simulation : IsSimulation pairs
    pub has_pair : Contains pairs (l, r)
