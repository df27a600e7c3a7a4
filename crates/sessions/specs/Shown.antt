-- What the words of a graph show.
use Rattle.std.specs.Prelude.{ℕ, List, map}
use Rattle.sessions.specs.Below.{AreWordsOf, CacheNode, IsCopyFrom, IsValidFor, Node, Outcome, plain_node, Reply}
use Rattle.sessions.specs.Below.{Request}
use Rattle.sessions.specs.Below.{Verdict, Verdicts}

-- The words are those of a copy of all nodes that are reached from this one, itself first.
pub record AreWordsFrom (nodes : List (CacheNode ℕ Outcome)) (root : ℕ) (words : List ℕ) : Type 0 where
  pub copy : List (Node ℕ Outcome)
  pub is_copy : IsCopyFrom nodes root copy
  pub are_its : AreWordsOf words (map plain_node copy)

-- The words are those of a graph that is valid for the goal and the verdict.
pub record AreValidFor (says : Verdicts Outcome) (verdict : Verdict)
    (scripts : ℕ → List (Reply Outcome) → Request ℕ Outcome) (words : List ℕ) (goal : ℕ) : Type 0 where
  pub nodes : List (Node ℕ Outcome)
  pub are_its : AreWordsOf words (map plain_node nodes)
  pub valid : IsValidFor says verdict scripts nodes goal
