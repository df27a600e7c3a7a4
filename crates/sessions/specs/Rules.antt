-- What rows say of goals.
use Rattle.std.specs.Prelude.{◌≡◌, ◌==◌, ℕ, Bool, false, List, Option, slice_get}
use Rattle.std.specs.Option.{IsSomeAnd, option_map_or}
use Rattle.sessions.specs.Below.{CacheNode, GraphNode, IsProofGraph, IsRefutationGraph, No, NodeId, Outcome, Proves}
use Rattle.sessions.specs.Below.{Question, Refutes, Reply, Request, Table, Yes, candidates_of, graph_nodes_of}
use Rattle.sessions.specs.Below.{question_of, script_of}
use Rattle.rule_arrays.specs.declared.rows.GoalRow.{GoalRow}

-- the candidates of the row's goal are not known
abbrev pub is_row_unknown : GoalRow → Bool
is_row_unknown row = row.count == 4294967295

module _ (rules : Table) where
  -- the goal holds where each of these questions does
  abbrev pub proves : ℕ → List (Question ℕ) → Type 0
  proves goal held = Proves question_of (candidates_of rules goal) held

  -- it does not where none of these does
  abbrev pub refutes : ℕ → List (Question ℕ) → Type 0
  refutes goal failed = Refutes question_of (candidates_of rules goal) failed

  -- what the goal's runs ask
  abbrev pub scripts_of : ℕ → List (Reply Outcome) → Request ℕ Outcome
  scripts_of goal = script_of question_of (candidates_of rules goal)

  -- the candidates of the goal are not known
  abbrev pub is_unknown : ℕ → Bool
  is_unknown goal = option_map_or is_row_unknown (slice_get rules.goals goal) false

  -- A yes has a proof graph among the nodes, and no refutation graph anywhere; a no has a refutation graph among them,
  -- and no proof graph anywhere.
  pub record IsRightAnswer (nodes : List (CacheNode ℕ Outcome)) (goal : ℕ) (outcome : Outcome)
      (node : Option NodeId) : Type 0 where
    pub proved : outcome ≡ Yes
        → IsSomeAnd node (λ root. IsProofGraph proves (graph_nodes_of nodes) root.0 goal)
    pub never_refuted : outcome ≡ Yes → (others : List (GraphNode ℕ)) (top : ℕ)
        → IsRefutationGraph refutes others top goal → ⊥
    pub refuted : outcome ≡ No
        → IsSomeAnd node (λ root. IsRefutationGraph refutes (graph_nodes_of nodes) root.0 goal)
    pub never_proved : outcome ≡ No → (others : List (GraphNode ℕ)) (top : ℕ)
        → IsProofGraph proves others top goal → ⊥
