-- What is known of a goal, in words of rules and types.
use Rattle.std.specs.Prelude.{◌≡◌, ◌<◌, ◌≤◌, ℕ, List, length, map, slice_get, Contains, Option, Some, None, IsSome}
use Rattle.std.specs.Option.{option_map_or, unwrap_or}
use Rattle.path_kinds.specs.declared.path.PathKind.{PathKind}
use Rattle.path_kinds.specs.declared.path.PathKind.TheVariants.{Inductive}
use Rattle.trait_rules.specs.Rules.{Gives, bound_of, kind_of}
use Rattle.trait_rules.specs.declared.rules.Clause.{Clause}
use Rattle.trait_goals.specs.Below.{ArePartsFirst, IsInstance, Made, Rule, Rules, Stands, Term, constructor_of}
use Rattle.trait_goals.specs.declared.asked.Asked.{Asked}
use Rattle.trait_goals.specs.declared.asked.Candidates.{Candidates}

-- the goal of this number asks whether the type implements the trait
pub record IsAsked (made : List Made) (asked : List Asked) (number : ℕ) (term : Term) (bound : ℕ) : Type 0 where
  pub entry : Asked
  pub at : slice_get asked number ≡ Some entry
  pub stands : Stands made entry.subject term
  pub same_bound : entry.bound ≡ bound

-- some goal of these asks what the clause of a rule says, where the rule's shapes have these types
pub record IsAskedBy (made : List Made) (asked : List Asked) (bound : ℕ) (types : ℕ →
    Term) (questions : List ℕ) (clause : Clause)
    : Type 0 where
  pub number : ℕ
  pub is_question : Contains questions number
  pub is_asked : IsAsked made asked number (types clause.shape) (bound_of bound clause.bound)

-- some clause of the rule says what the goal asks
pub record IsOfClause (made : List Made) (asked : List Asked) (rule : Rule) (bound : ℕ) (types : ℕ →
    Term) (number : ℕ) : Type 0 where
  pub clause : Clause
  pub is_clause : Contains rule.clauses.items clause
  pub is_asked : IsAsked made asked number (types clause.shape) (bound_of bound clause.bound)

-- the goals ask what the rule asks of the type, for which it is one
pub record IsCandidate (made : List Made) (asked : List Asked) (rule : Rule) (bound : ℕ) (term : Term) (questions :
    List ℕ)
    : Type 0 where
  pub types : ℕ → Term
  pub is_instance : IsInstance rule types term
  pub one_instance : (others : ℕ → Term) → IsInstance rule others term → (clause : Clause) →
      Contains rule.clauses.items clause →
      others clause.shape ≡ types clause.shape
  pub each : (clause : Clause) → Contains rule.clauses.items clause → IsAskedBy made asked bound types questions clause
  pub only : (number : ℕ) → Contains questions number → IsOfClause made asked rule bound types number

pub record HasRule (rules : Rules) (made : List Made) (asked : List Asked) (bound : ℕ) (term : Term) (questions :
    List ℕ)
    : Type 0 where
  pub rule : Rule
  pub gives : Gives rules bound (constructor_of term) rule
  pub is_candidate : IsCandidate made asked rule bound term questions

pub record HasCandidate (made : List Made) (asked : List Asked) (rule : Rule) (bound : ℕ) (term : Term)
    (candidates : List (List ℕ)) : Type 0 where
  pub questions : List ℕ
  pub is_among : Contains candidates questions
  pub is_candidate : IsCandidate made asked rule bound term questions

-- each candidate is by a rule, and each rule that is one for the type has a candidate
pub record Covers (rules : Rules) (made : List Made) (asked : List Asked) (bound : ℕ) (term : Term) (candidates :
    List (List ℕ))
    : Type 0 where
  pub each : (questions : List ℕ) → Contains candidates questions → HasRule rules made asked bound term questions
  pub all : (rule : Rule) (types : ℕ → Term) → Gives rules bound (constructor_of term) rule →
      IsInstance rule types term →
      HasCandidate made asked rule bound term candidates

-- the goals that each candidate asks
abbrev pub lists_of : Candidates → List (List ℕ)
lists_of candidates = map (λ c. c.questions.items) candidates.all.items

-- what is known of goals
pub record Table : Type 0 where
  pub rules : Rules
  pub made : List Made
  pub asked : List Asked
  pub known : List (Option Candidates)

-- what is known of goals is right
pub record AreRight (table : Table) : Type 0 where
  pub right : (number : ℕ) (entry : Asked) (candidates : Candidates) → slice_get table.asked number ≡ Some entry →
      slice_get table.known number ≡ Some (Some candidates) → (term : Term) → Stands table.made entry.subject term →
      Covers table.rules table.made table.asked entry.bound term (lists_of candidates)
  pub each : (number : ℕ) (candidates : Candidates) → slice_get table.known number ≡ Some (Some candidates) →
      (entry : Asked) × (slice_get table.asked number ≡ Some entry)
  pub first : ArePartsFirst table.made
  pub inside : (number : ℕ) (entry : Asked) → slice_get table.asked number ≡ Some entry →
      entry.subject < length table.made

-- what is known at a place
abbrev pub known_at : List (Option Candidates) → ℕ → Option Candidates
known_at known goal = unwrap_or (slice_get known goal) None

-- the candidates of a goal, if they are known
abbrev pub candidates_at : Table → ℕ → Option Candidates
candidates_at table goal = known_at table.known goal

-- the goal of this number is known: its candidates are
abbrev pub IsKnown : Table → ℕ → Type 0
IsKnown table goal = IsSome (candidates_at table goal)

-- this goal is the first one from a number on that is not known
pub record IsUnknownFrom (table : Table) (from goal : ℕ) : Type 0 where
  pub at_or_after : from ≤ goal
  pub within : goal < length table.asked
  pub unknown : IsKnown table goal → ⊥
  pub known_before : (other : ℕ) → from ≤ other → other < goal → IsKnown table other

-- there is one, or all goals from the number on are known
abbrev pub IsFirstUnknown : Table → ℕ → Option ℕ → Type 0
IsFirstUnknown table from (Some goal) = IsUnknownFrom table from goal
IsFirstUnknown table from None = (goal : ℕ) → from ≤ goal → goal < length table.asked → IsKnown table goal

-- how a goal asks
abbrev pub kind_at : Table → ℕ → PathKind
kind_at table goal = option_map_or (λ a. kind_of table.rules a.bound) (slice_get table.asked goal) Inductive
