-- Which rules a trait has for a type. Traits and constructors are told by their numbers, their places in the lists.
use Rattle.std.specs.Prelude.{◌≡◌, ◌==◌, ◌&&◌, ℕ, Bool, false, not, if◌then◌else◌, List, [], ◌∷◌, ◌++◌, map, slice_get}
use Rattle.std.specs.Prelude.{Contains, Option, Some, None}
use Rattle.std.specs.List.{list_any}
use Rattle.std.specs.Option.{option_map_or}
use Rattle.path_kinds.specs.declared.path.PathKind.{PathKind}
use Rattle.path_kinds.specs.declared.path.PathKind.TheVariants.{Inductive}
use Rattle.trait_rules.specs.Terms.{Term, applied, constructor, constructor_of}
pub use Rattle.trait_rules.specs.declared.rules.Bound.{Bound}
pub use Rattle.trait_rules.specs.declared.rules.Bound.TheVariants.{Same, Trait as OfTrait}
pub use Rattle.trait_rules.specs.declared.rules.Clause.{Clause}
pub use Rattle.trait_rules.specs.declared.rules.Rule.{Rule}
pub use Rattle.trait_rules.specs.declared.rules.Rules.{Rules}
pub use Rattle.trait_rules.specs.declared.rules.Listed.{Listed}
pub use Rattle.trait_rules.specs.declared.rules.Shape.{Shape}
pub use Rattle.trait_rules.specs.declared.rules.Shape.TheVariants.{Parameter, Constructor, Applied}

-- what a shape says of its type, where each shape has one
abbrev pub IsShaped : (types : ℕ → Term) → Shape → Term → Type 0
IsShaped types Parameter term = Unit {0}
IsShaped types (Constructor c) term = term ≡ constructor c
IsShaped types (Applied f x) term = term ≡ applied (types f) (types x)

-- with these types for its shapes, the rule is one for the subject
pub record IsInstance (rule : Rule) (types : ℕ → Term) (subject : Term) : Type 0 where
  pub shaped : (place : ℕ) (shape : Shape) → slice_get rule.shapes.items place ≡ Some shape →
      IsShaped types shape (types place)
  pub is_head : types rule.head ≡ subject

-- the impls for types of the constructor
abbrev pub impls_at : Rules → ℕ → List Listed
impls_at rules c = option_map_or (λ k. k.impls.items) (slice_get rules.constructors.items c) []

-- the rule of an impl, if it is one of the trait, and not a negative one
abbrev pub impl_rule : ℕ → Listed → Option Rule
impl_rule bound listed = if listed.bound == bound then listed.rule else None

-- the impls of the trait for any type
abbrev pub blanket_at : Rules → ℕ → List Rule
blanket_at rules bound = option_map_or (λ t. t.blanket.items) (slice_get rules.traits.items bound) []

abbrev pub is_auto : Rules → ℕ → Bool
is_auto rules bound = option_map_or (λ t. t.is_auto) (slice_get rules.traits.items bound) false

-- the rule by the fields of a constructor's types
abbrev pub fields_at : Rules → ℕ → Option Rule
fields_at rules c = option_map_or (λ k. k.fields) (slice_get rules.constructors.items c) None

-- the rule by fields, if the trait is an auto trait, and no impl of it for the constructor stands in the way
abbrev pub fields_rule : Rules → (bound c : ℕ) → Option Rule
fields_rule rules bound c =
    if is_auto rules bound && not (list_any (λ l. l.bound == bound) (impls_at rules c))
    then fields_at rules c else None

-- the rules of the trait for types of the constructor, in the order in which they are tried
abbrev pub rules_for : Rules → (bound c : ℕ) → List (Option Rule)
rules_for rules bound c =
    map (impl_rule bound) (impls_at rules c) ++ map (λ r. Some r) (blanket_at rules bound) ++ fields_rule rules bound
    c ∷ []

abbrev pub Gives : Rules → (bound c : ℕ) → Rule → Type 0
Gives rules bound c rule = Contains (rules_for rules bound c) (Some rule)

-- how a trait asks what it needs
abbrev pub kind_of : Rules → ℕ → PathKind
kind_of rules bound = option_map_or (λ t. t.kind) (slice_get rules.traits.items bound) Inductive

abbrev pub bound_of : ℕ → Bound → ℕ
bound_of asked Same = asked
bound_of asked (OfTrait bound) = bound
