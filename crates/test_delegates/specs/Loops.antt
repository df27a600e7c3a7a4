-- Goals that ask themselves: what proves and refutes them, and their runs.
use Rattle.std.specs.Prelude.{ℕ, List, [], ◌∷◌, Contains}
use Rattle.test_delegates.specs.Below.{PathKind, Begin, Answer, EndedRun, Question, IsWithin, Overlap, Outcome}

-- the goal's only question
abbrev pub its_question : PathKind → Question PathKind
its_question goal = record { kind = goal; goal = goal }

-- a goal is proved, or refuted, by its only question
abbrev pub HasItsQuestion : PathKind → List (Question PathKind) → Type 0
HasItsQuestion goal questions = Contains questions (its_question goal)

pub asks_more : (goal : PathKind) (some more : List (Question PathKind)) → IsWithin some more
    → HasItsQuestion goal some → HasItsQuestion goal more
asks_more goal some more within asks = within (its_question goal) asks

pub clash : (goal : PathKind) (held failed : List (Question PathKind)) → HasItsQuestion goal held
    → HasItsQuestion goal failed → Overlap held failed
clash goal held failed h k = (its_question goal, h, k)

-- the run of a goal whose question was answered, with its one edge
abbrev pub loop_run : PathKind → ℕ → Outcome → EndedRun PathKind Outcome
loop_run goal target outcome = record {
  replies = Begin ∷ Answer outcome ∷ [];
  edges = record { kind = goal; input = goal; target = target } ∷ [];
  outcome = outcome;
}
