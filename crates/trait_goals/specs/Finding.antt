-- What was found of a rule and a type.
use Rattle.std.specs.Prelude.{◌≡◌, ℕ, List, Option, length, take}
use Rattle.trait_goals.specs.Below.{IsInstance, Keeps, Made, Rule, Term}
use Rattle.trait_goals.specs.Instances.{AllTold, AreMade, AreTold}
use Rattle.trait_goals.specs.declared.instance.Found.{Found}
use Rattle.trait_goals.specs.declared.instance.Found.TheVariants.{Apart, Open, Types}

-- with these types the rule is one for the type, and what other types its shapes have, if any, are the same
pub record HasInstance (made : List Made) (rule : Rule) (term : Term) (all : List ℕ) : Type 0 where
  pub types : ℕ → Term
  pub is_instance : IsInstance rule types term
  pub told : AllTold made all types
  pub each : (others : ℕ → Term) → IsInstance rule others term → AllTold made all others

-- what was found, with these types for the shapes
abbrev pub IsFound : List Made → Rule → Term → List ℕ → Found → Type 0
IsFound made rule term all Apart = (types : ℕ → Term) → IsInstance rule types term → ⊥
IsFound made rule term all Types = HasInstance made rule term all
IsFound made rule term all Open = Unit {0}

-- the types of so many shapes
pub record AreCompleted (was made : List Made) (rule : Rule) (found : List (Option ℕ)) (count : ℕ) (all : List ℕ) :
    Type 0 where
  pub keeps : Keeps was made
  pub is_count : length all ≡ count
  pub are_made : AreMade made (take count rule.shapes.items) all
  pub told : (types : ℕ → Term) (term : Term) → AreTold was found types → IsInstance rule types term →
      AllTold made all types
