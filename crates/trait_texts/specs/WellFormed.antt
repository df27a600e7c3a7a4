-- What the reading promises of rules, types and questions.
use Rattle.std.specs.Prelude.{◌≡◌, ◌<◌, ℕ, IfSome, List, Some, length, slice_get}
use Rattle.trait_rules.specs.declared.made.Made.{Made}
use Rattle.trait_rules.specs.declared.rules.Clause.{Clause}
use Rattle.trait_rules.specs.declared.rules.Constructor.{Constructor as Known}
use Rattle.trait_rules.specs.declared.rules.Listed.{Listed}
use Rattle.trait_rules.specs.declared.rules.Rule.{Rule}
use Rattle.trait_rules.specs.declared.rules.Rules.{Rules}
use Rattle.trait_rules.specs.declared.rules.Shape.{Shape}
use Rattle.trait_rules.specs.declared.rules.Shape.TheVariants.{Applied, Constructor, Parameter}
use Rattle.trait_rules.specs.declared.rules.Trait.{Trait as KnownTrait}
use Rattle.trait_texts.specs.declared.declarations.Question.{Question}

-- this holds of each element, by its place
pub record Each {A : Type 0} (P : ℕ → A → Type 0) (xs : List A) : Type 0 where
  pub at : (n : ℕ) (x : A) → slice_get xs n ≡ Some x → P n x

-- the parts of the shape come before this place
abbrev pub HasPartsBefore : ℕ → Shape → Type 0
HasPartsBefore place Parameter = Unit {0}
HasPartsBefore place (Constructor c) = Unit {0}
HasPartsBefore place (Applied f x) = (f < place) × (x < place)

-- the shapes of clauses are among so many
abbrev pub AreThere : ℕ → List Clause → Type 0
AreThere count clauses = Each (λ _ (clause : Clause). clause.shape < count) clauses

-- the constructor is the outermost one in the shape at this place
pub data IsOutermost (shapes : List Shape) : ℕ → ℕ → Type 0 where
  itself : {place c : ℕ} → slice_get shapes place ≡ Some (Constructor c) → IsOutermost shapes place c
  below : {place f x c : ℕ} → slice_get shapes place ≡ Some (Applied f x) → IsOutermost shapes f c
      → IsOutermost shapes place c

-- a rule in the making
pub record Drafted : Type 0 where
  pub shapes : List Shape
  pub clauses : List Clause

pub record IsDraft (shapes : List Shape) (clauses : List Clause) : Type 0 where
  pub parts_first : Each HasPartsBefore shapes
  pub are_there : AreThere (length shapes) clauses

-- parts come before what consists of them, and the shapes of the head and of the clauses are there
pub record IsWellFormed (rule : Rule) : Type 0 where
  pub parts_first : Each HasPartsBefore rule.shapes.items
  pub head_there : rule.head < length rule.shapes.items
  pub are_there : AreThere (length rule.shapes.items) rule.clauses.items

-- the rule is one for types of the constructor
pub record IsRuleOf (c : ℕ) (rule : Rule) : Type 0 where
  pub well_formed : IsWellFormed rule
  pub outermost : IsOutermost rule.shapes.items rule.head c

-- what is known of a constructor is about its types
pub record IsAbout (c : ℕ) (known : Known) : Type 0 where
  pub fields : IfSome known.fields (IsRuleOf c)
  pub impls : Each (λ _ (listed : Listed). IfSome listed.rule (IsRuleOf c)) known.impls.items

-- each rule is well-formed, and stands where the outermost constructor of its head says
pub record AreSound (rules : Rules) : Type 0 where
  pub constructors : Each IsAbout rules.constructors.items
  pub traits : Each (λ _ (t : KnownTrait). Each (λ _ rule. IsWellFormed rule) t.blanket.items) rules.traits.items

-- the types and the traits of questions are among so many
abbrev pub AreAsked : (traits types : ℕ) → List Question → Type 0
AreAsked traits types questions = Each (λ _ (q : Question). (q.subject < types) × (q.bound < traits)) questions

-- rules, types and questions
pub record Told : Type 0 where
  pub rules : Rules
  pub made : List Made
  pub questions : List Question

pub record IsTold (rules : Rules) (made : List Made) (questions : List Question) : Type 0 where
  pub sound : AreSound rules
  pub asked : AreAsked (length rules.traits.items) (length made) questions
