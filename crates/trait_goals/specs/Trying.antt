-- What became of a rule that was tried for a goal.
use Rattle.std.specs.Prelude.{◌≡◌, ◌<◌, ◌⊎◌, ℕ, List, length, map, slice_get, Contains, Option, Some, IsSome}
use Rattle.trait_rules.specs.Rules.{bound_of, rules_for}
use Rattle.trait_rules.specs.declared.rules.Clause.{Clause}
use Rattle.trait_goals.specs.Below.{IsInstance, Keeps, Made, Rule, Rules, Stands, Term, constructor_of}
use Rattle.trait_goals.specs.Known.{HasCandidate, HasRule, IsCandidate, IsKnown, Table, known_at}
use Rattle.trait_goals.specs.declared.asked.Asked.{Asked}
use Rattle.trait_goals.specs.declared.asked.Candidate.{Candidate}
use Rattle.trait_goals.specs.declared.asked.Candidates.{Candidates}
use Rattle.trait_goals.specs.declared.trying.Tried.{Tried}
use Rattle.trait_goals.specs.declared.trying.Tried.TheVariants.{Apart, By, Open}

abbrev pub IsTried : List Made → List Asked → Rule → ℕ → Term → Tried → Type 0
IsTried made asked rule bound term Apart = (types : ℕ → Term) → IsInstance rule types term → ⊥
IsTried made asked rule bound term (By candidate) = IsCandidate made asked rule bound term candidate.questions.items
IsTried made asked rule bound term Open = Unit {0}

-- each goal asks of a type that is there
pub record AreInside (made : List Made) (asked : List Asked) : Type 0 where
  pub inside : (number : ℕ) (entry : Asked) → slice_get asked number ≡ Some entry → entry.subject < length made

-- the goal of this number asks what the clause says, where these types stand in the shapes
pub record AsksClause (all : List ℕ) (asked : List Asked) (bound : ℕ) (clause : Clause) (number : ℕ) : Type 0 where
  pub subject : ℕ
  pub stands_there : slice_get all clause.shape ≡ Some subject
  pub is_asked : slice_get asked number ≡ Some (record { subject = subject; bound = bound_of bound clause.bound })

-- so many clauses are asked, each by the goal at its place
pub record AreAsked (all : List ℕ) (was asked : List Asked) (rule : Rule) (bound count : ℕ) (questions : List ℕ) :
    Type 0 where
  pub keeps : Keeps was asked
  pub is_count : length questions ≡ count
  pub each : (place number : ℕ) → slice_get questions place ≡ Some number →
      (clause : Clause) × ((slice_get rule.clauses.items place ≡ Some clause)
      × AsksClause all asked bound clause number)

-- the questions of each candidate
abbrev pub lists_in : List Candidate → List (List ℕ)
lists_in candidates = map (λ c. c.questions.items) candidates

-- what stands at a place of the rules of the trait is tried
pub record IsNextTried (made : List Made) (asked : List Asked) (bound : ℕ) (term : Term) (given : Option Rule)
    (some more : List (List ℕ)) : Type 0 where
  pub keeps : (questions : List ℕ) → Contains some questions → Contains more questions
  pub each : (questions : List ℕ) → Contains more questions → (Contains some questions)
      ⊎ ((rule : Rule) × ((given ≡ Some rule) × IsCandidate made asked rule bound term questions))
  pub all : (rule : Rule) → given ≡ Some rule → (types : ℕ → Term) → IsInstance rule types term →
      HasCandidate made asked rule bound term more

-- so many rules of the trait for the constructor are tried
pub record AreTried (rules : Rules) (was made : List Made) (before asked : List Asked) (goal : Asked) (c count : ℕ)
    (candidates : List (List ℕ)) : Type 0 where
  pub keeps_made : Keeps was made
  pub keeps_asked : Keeps before asked
  pub each : (term : Term) → Stands was goal.subject term → c ≡ constructor_of term → (questions : List ℕ) →
      Contains candidates questions → HasRule rules made asked goal.bound term questions
  pub all : (term : Term) → Stands was goal.subject term → c ≡ constructor_of term → (place : ℕ) (rule : Rule) →
      place < count →
      slice_get (rules_for rules goal.bound c) place ≡ Some (Some rule) →
      (types : ℕ → Term) → IsInstance rule types term → HasCandidate made asked rule goal.bound term candidates

-- what is known of one goal more
pub record IsKnownMore (some more : List (Option Candidates)) (goal : ℕ) (candidates : Candidates) : Type 0 where
  pub old : (n : ℕ) (c : Candidates) → slice_get more n ≡ Some (Some c) →
      (slice_get some n ≡ Some (Some c)) ⊎ ((n ≡ goal) × (c ≡ candidates))
  pub keeps : (n : ℕ) → IsSome (known_at some n) → IsSome (known_at more n)

-- the same rules, and what was there of types and goals; what was known is known
pub record Extends (table more : Table) : Type 0 where
  pub same_rules : more.rules ≡ table.rules
  pub keeps_made : Keeps table.made more.made
  pub keeps_asked : Keeps table.asked more.asked
  pub keeps_known : (goal : ℕ) → IsKnown table goal → IsKnown more goal
