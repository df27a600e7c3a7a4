-- What the answers to questions say of types and traits, by the rules and the types that were read.
use Rattle.std.specs.Prelude.{◌≡◌, ℕ, List, length, slice_get, Some, Result, Ok}
use Rattle.delegate_parts.specs.declared.outcome.Outcome.{Outcome}
use Rattle.delegate_parts.specs.declared.outcome.Outcome.TheVariants.{No, Yes}
use Rattle.search_context.specs.declared.context.Fault.{Fault}
use Rattle.trait_goals.specs.Implementing.{Implements}
use Rattle.trait_rules.specs.Terms.{Stands, Term}
use Rattle.trait_rules.specs.declared.made.Made.{Made}
use Rattle.trait_rules.specs.declared.rules.Rules.{Rules}
use Rattle.trait_texts.specs.declared.declarations.Question.{Question}

-- a yes says that the question's type implements its trait, and a no that it does not
pub record IsTrue (rules : Rules) (made : List Made) (question : Question) (came : Result Outcome (Fault ℕ Outcome)) :
    Type 0 where
  pub yes : came ≡ Ok Yes → (term : Term) → Stands made question.subject term → Implements rules term question.bound
  pub no : came ≡ Ok No → (term : Term) → Stands made question.subject term → Implements rules term question.bound → ⊥

-- each question has an answer, which is true
pub record AreTrue (rules : Rules) (made : List Made) (questions : List Question)
    (came : List (Result Outcome (Fault ℕ Outcome))) : Type 0 where
  pub same_count : length came ≡ length questions
  pub each : (place : ℕ) (question : Question) (answer : Result Outcome (Fault ℕ Outcome)) →
      slice_get questions place ≡ Some question → slice_get came place ≡ Some answer → IsTrue rules made question answer
