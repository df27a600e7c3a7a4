-- What the answer to a pair says of its shapes.
use Rattle.std.proofs.Common.{ℕ, List, Contains, Option, None, Some, sym, ap, subst, arith}
use Rattle.std.specs.Option.{IsSomeAnd}
use Rattle.question_lists.proofs.Ranked.{decisive, scripts}
use Rattle.shapes.specs.Below.{GraphNode, IsDecidedKind, IsDecisive, IsProofGraph, IsRefutationGraph, NodeId}
use Rattle.shapes.specs.Below.{outcome_verdicts, Question}
use Rattle.shapes.specs.Bisimulation.{AreEqual, Equation}
use Rattle.shapes.specs.Rule.{matched_parts, needs_of, questions_in, questions_of}
use Rattle.shapes.specs.declared.delegate.Pair.{Pair}
use Rattle.shapes.proofs.Equal.{equal_from, never_equal, proves, refutes}
use Rattle.shapes.proofs.Pairs.{parts_of}

module _ (equations : List Equation) (nodes : List (GraphNode Pair)) (pair : Pair) where
  pub equal_by : (o : Option NodeId) → IsSomeAnd o (λ root. IsProofGraph (proves equations) nodes root.0 pair)
      → AreEqual equations pair.left pair.right
  equal_by None h = absurd h
  equal_by (Some root) h = equal_from equations nodes root.0 pair h

  pub differ_by : (o : Option NodeId) → IsSomeAnd o (λ root. IsRefutationGraph (refutes equations) nodes root.0 pair)
      → AreEqual equations pair.left pair.right → ⊥
  differ_by None h are = absurd h
  differ_by (Some root) h are = never_equal equations nodes root.0 pair h are.pairs are.is_bisimulation are.has_pair

module _ (equations : List Equation) where
  decided_in : (o : Option (List ℕ × List ℕ)) (q : Question Pair) → Contains (questions_in o) q → IsDecidedKind q.kind
  decided_in None q h = absurd (omega (arith, h.1))
  decided_in (Some parts) q h =
      let p = parts_of parts.0 parts.1 q h in subst IsDecidedKind (sym (ap (λ x. x.kind) p.same)) tt

  -- pairs are decided where no limit is met
  pub are_decisive : IsDecisive outcome_verdicts (scripts (needs_of equations) (questions_of equations))
  are_decisive = decisive (needs_of equations) (questions_of equations)
      (λ pair q h. decided_in (matched_parts equations pair.left pair.right) q h)
