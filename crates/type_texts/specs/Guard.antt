-- Unions that lead back to themselves through unions alone.
use Rattle.std.specs.Prelude.{ℕ, List, map, Some}
use Rattle.type_order.specs.Rule.{alternatives_in}
use Rattle.type_order.specs.declared.types.Form.{Form}
pub use Rattle.strong_components.specs.Components.{AreComponents, HasStep, Reaches, StaysInside, successor_lists}

-- the alternatives of each type, by their numbers
abbrev pub union_lists : List Form → List (List ℕ)
union_lists forms = map (λ form. alternatives_in (Some form)) forms

-- it has an alternative that leads back to it
pub record IsUnionOfItself (forms : List Form) (number : ℕ) : Type 0 where
  pub part : ℕ
  pub is_part : HasStep (union_lists forms) number part
  pub leads_back : Reaches (union_lists forms) part number
