-- The goals of questions.
use Rattle.std.specs.Prelude.{◌≡◌, ◌<◌, ℕ, List, length, slice_get, Some}
use Rattle.trait_goals.specs.Known.{Table}
use Rattle.trait_rules.specs.declared.made.Made.{Made}
use Rattle.trait_texts.specs.declared.declarations.Question.{Question}

-- the goal of this number asks what the question does, if its type is one of these
pub record IsGoalOf (made : List Made) (table : Table) (question : Question) (goal : ℕ) : Type 0 where
  pub asks : question.subject < length made →
      slice_get table.asked goal ≡ Some (record { subject = question.subject; bound = question.bound })

-- each of the goals asks what the question at its place does
pub record AreGoalsOf (made : List Made) (table : Table) (questions : List Question) (goals : List ℕ) : Type 0 where
  pub same_count : length goals ≡ length questions
  pub each : (place goal : ℕ) (question : Question) → slice_get questions place ≡ Some question →
      slice_get goals place ≡ Some goal → IsGoalOf made table question goal
