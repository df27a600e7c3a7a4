-- When a type implements a trait, by the rules alone: no goal is named here, and no search.
use Rattle.std.specs.Prelude.{ℕ, List, map, Contains}
use Rattle.search_context.specs.Question.{Overlap, Question}
use Rattle.question_lists.specs.Derivations.{IsDerivable}
use Rattle.trait_rules.specs.Rules.{Gives, bound_of, kind_of}
use Rattle.trait_rules.specs.declared.rules.Clause.{Clause}
use Rattle.trait_goals.specs.Below.{IsInstance, Rule, Rules, Term, constructor_of}

-- a question: whether the type implements the trait
pub record Query : Type 0 where
  pub subject : Term
  pub bound : ℕ

-- what a clause asks
abbrev pub asks : Rules → (ℕ → Term) → ℕ → Clause → Question Query
asks rules types bound clause =
    record {
      kind = kind_of rules bound;
      goal = record {
        subject = types clause.shape;
        bound = bound_of bound clause.bound;
      };
    }

-- some rule is one for the type, and all that it asks is held
pub record ByRule (rules : Rules) (query : Query) (held : List (Question Query)) : Type 0 where
  pub rule : Rule
  pub types : ℕ → Term
  pub gives : Gives rules query.bound (constructor_of query.subject) rule
  pub is_instance : IsInstance rule types query.subject
  pub all : (clause : Clause) → Contains rule.clauses.items clause → Contains held (asks rules types query.bound clause)

-- whichever rule is one for the type, something that it asks failed
abbrev pub AgainstRules : Rules → Query → List (Question Query) → Type 0
AgainstRules rules query failed = (rule : Rule) (types : ℕ → Term) →
    Gives rules query.bound (constructor_of query.subject) rule → IsInstance rule types query.subject →
    Overlap (map (asks rules types query.bound) rule.clauses.items) failed

-- The type implements the trait: there is a derivation by rules, which ends but where it goes round through a goal of a
-- coinductive trait.
abbrev pub Implements : Rules → Term → ℕ → Type 0
Implements rules subject bound = IsDerivable (ByRule rules) (record { subject = subject; bound = bound })
