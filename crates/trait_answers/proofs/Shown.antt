-- The graph of an answer shows what the answer says.
use Rattle.std.proofs.Common.{◌≡◌, ℕ, List, Option, None, Some, subst}
use Rattle.std.specs.Option.{IsSomeAnd}
use Rattle.question_lists.proofs.Mixed.{derivable_from, refutable_from}
use Rattle.trait_goals.proofs.Derived.{implements_by, proves}
use Rattle.trait_goals.proofs.Refuted.{never_implements, refutes}
use Rattle.trait_answers.specs.Answered.{IsImplemented, IsNotImplemented}
use Rattle.trait_answers.specs.Below.{AreRight, GraphNode, IsProofGraph, IsRefutationGraph, NodeId, Table}

-- the goals are the same as before
module _ (table old : Table) (same : table ≡ old) (right : AreRight old) (nodes : List (GraphNode ℕ)) (goal : ℕ) where
  pub implemented_at_node : (o : Option NodeId)
      → IsSomeAnd o (λ root. IsProofGraph (proves table) nodes root.0 goal) → IsImplemented old goal
  implemented_at_node None h = absurd h
  implemented_at_node (Some root) h = λ term bound asked. implements_by old right goal term bound asked
      (derivable_from (proves old) nodes root.0 goal (subst (λ t. IsProofGraph (proves t) nodes root.0 goal) same h))

  pub not_implemented_at_node : (o : Option NodeId)
      → IsSomeAnd o (λ root. IsRefutationGraph (refutes table) nodes root.0 goal) → IsNotImplemented old goal
  not_implemented_at_node None h = absurd h
  not_implemented_at_node (Some root) h = λ term bound asked. never_implements old right goal term bound asked
      (refutable_from (refutes old) nodes root.0 goal
      (subst (λ t. IsRefutationGraph (refutes t) nodes root.0 goal) same h))
