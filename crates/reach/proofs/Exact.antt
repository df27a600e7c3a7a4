-- The answer to a point says whether its variable may have been written.
use Rattle.std.proofs.Common.{◌≡◌, ◌≢◌, inl, inr, List, arith}
use Rattle.question_lists.proofs.Ranked.{plain_says, plain_to, scripts}
use Rattle.reach.specs.Below.{IsPlainTo, IsPlainValue, No, Outcome, Yes}
use Rattle.reach.specs.Paths.{Block, GoDown, IsWrittenBefore}
use Rattle.reach.specs.Rule.{needs_of, questions_of}
use Rattle.reach.specs.declared.delegate.Point.{Point}
use Rattle.reach.proofs.Points.{down, Holds, is_solution}

module _ (blocks : List Block) where
  -- a point's rank is its block's number at most
  pub is_plain : GoDown blocks → (point : Point)
      → IsPlainTo (scripts (needs_of blocks) (questions_of blocks)) point.block point
  is_plain go_down point = plain_to (needs_of blocks) (questions_of blocks) (λ p. p.block)
      (down blocks go_down) point.block point (omega arith)

  pub written_by : (point : Point) (r : Outcome)
      → IsPlainValue (scripts (needs_of blocks) (questions_of blocks)) point.block point r → r ≡ Yes
      → IsWrittenBefore blocks point.block point.variable
  written_by point r h e = elim (plain_says (needs_of blocks) (questions_of blocks) (Holds blocks)
      (is_solution blocks) point.block point r h) [
        | inl w ↦ w.1
        | inr w ↦ let is = w.0 in absurd cc
      ]

  pub not_written_by : (point : Point) (r : Outcome)
      → IsPlainValue (scripts (needs_of blocks) (questions_of blocks)) point.block point r → r ≢ Yes
      → IsWrittenBefore blocks point.block point.variable → ⊥
  not_written_by point r h ne = elim (plain_says (needs_of blocks) (questions_of blocks) (Holds blocks)
      (is_solution blocks) point.block point r h) [
        | inl w ↦ absurd (ne w.0)
        | inr w ↦ w.1
      ]
