-- No goal has both graphs over given questions. The question that the two share, by the clash law, is not given: a
-- proof rests on given ones that are true, a refutation on those that are false, and no edge asks one. So two edges
-- ask it.
use Rattle.std.proofs.Common.{Bool, true, false, inl, inr, List, Option}
use Rattle.search_context.proofs.Graphs.{never_both}
use Rattle.determined.specs.Below.{Overlap, Question}
use Rattle.determined.specs.Given.{HasProofOver, HasRefutationOver, IsShownOver}

module _ {I : Type 0} (given : Question I → Option Bool) (proves refutes : I → List (Question I) → Type 0)
    (clash : (goal : I) (held failed : List (Question I)) → proves goal held
    → refutes goal failed → Overlap held failed) where
  clash_over : (goal : I) (held failed : List (Question I)) → IsShownOver given true proves goal held
      → IsShownOver given false refutes goal failed → Overlap held failed
  clash_over goal held failed p r =
      let w = clash goal p.shown r.shown p.by_rule r.by_rule in
      elim (p.are_covered w.0 w.1) [
        | inl left ↦ elim (r.are_covered w.0 w.2) [
          | inl right ↦ (w.0, left, right)
          | inr told ↦ let e = p.are_followed w.0 left in absurd cc
        ]
        | inr told ↦ elim (r.are_covered w.0 w.2) [
          | inl right ↦ let e = r.are_followed w.0 right in absurd cc
          | inr other ↦ absurd cc
        ]
      ]

  pub never_both_over : (goal : I) → HasProofOver given proves goal → HasRefutationOver given refutes goal → ⊥
  never_both_over goal (nodes, root, proof) (others, top, refutation) =
      never_both (IsShownOver given true proves) (IsShownOver given false refutes) clash_over nodes
      others root top goal proof refutation
