-- What is left to be read of a value, when its first members are read.
use Rattle.std.proofs.Common.{◌≡◌, ◌∙◌, All, ap, codes, drop, List, ◌∷◌, refl, sym, ℕ}
use Rattle.std.specs.Prelude.{⊤}
use Rattle.json.specs.Token.{Token, begin_object, end_object}
use Rattle.search_context.specs.declared.context.Edge.{Edge}
use Rattle.path_kinds.specs.declared.path.PathKind.{PathKind}
use Rattle.graph_data.specs.Below.{Goal, Outcome, Reply}
use Rattle.graph_data.specs.Data.{array_tokens, claim_tokens, edge_tokens, goal_tokens, IsClaim, IsEdge, IsNamed}
use Rattle.graph_data.specs.Ends.{array_ends, edge_parts, Ends, node_parts, reply_parts}
use Rattle.graph_data.specs.Data.{IsNode, IsTarget, kind_tokens, member_tokens, node_tokens, number_tokens}
use Rattle.graph_data.specs.Data.{outcome_tokens, PlainNode, reply_tokens, Spells, StandsFirst}

-- the first member of an object that has begun
abbrev first : {A : Type 0} {P : A → Type 0} {name : List ℕ} {spelled : A → List Token → List Token}
    {whole left : List Token} (rest : List Token) (x : A) → P x → whole ≡ begin_object ∷ left
    → whole ≡ begin_object ∷ member_tokens name spelled x rest → Spells P (member_tokens name spelled) left
first rest x right begun are_its =
    record { value = x; is_right = right; rest = rest; are_its = ap (drop 1) (sym begun ∙ are_its) }

module _ {A : Type 0} {P : A → Type 0} {name : List ℕ} {spelled : A → List Token → List Token} {whole left : List Token}
    (ends : Ends spelled) (member : Spells P (member_tokens name spelled) whole) (y : A)
    (read : whole ≡ member_tokens name spelled y left) where
  -- a member was read, and so it is known what follows it
  pub passed : left ≡ member.rest
  passed = ends y member.value left member.rest (ap (drop 1) (sym read ∙ member.are_its))

  -- the next member
  abbrev next : {B : Type 0} {Q : B → Type 0} {other : List ℕ} {others : B → List Token → List Token}
      (rest : List Token) (x : B) → Q x → member.rest ≡ member_tokens other others x rest
      → Spells Q (member_tokens other others) left
  next rest x right are_its = record { value = x; is_right = right; rest = rest; are_its = passed ∙ are_its }

  -- the end of the object
  end : (rest : List Token) → member.rest ≡ end_object ∷ rest → StandsFirst end_object left
  end rest are_its = (rest, passed ∙ are_its)

module _ (names : List (List ℕ)) {whole t₁ : List Token} where
  -- of an edge
  module _ (edge : Spells (IsEdge names) (edge_tokens names) whole) (begun : whole ≡ begin_object ∷ t₁) where
    abbrev pub kind_left : Spells (λ _. ⊤) (member_tokens (codes "kind") kind_tokens) t₁
    kind_left = first _ edge.value.kind tt begun edge.are_its

    module _ {t₂ : List Token} (kind : PathKind)
        (has_kind : t₁ ≡ member_tokens (codes "kind") kind_tokens kind t₂) where
      abbrev pub input_left : Spells (IsNamed names) (member_tokens (codes "goal") (goal_tokens names)) t₂
      input_left = next (λ x y r s. ap (drop 1)) kind_left kind has_kind _ edge.value.input edge.is_right.0 refl

      module _ {t₃ : List Token} (goal : Goal)
          (has_goal : t₂ ≡ member_tokens (codes "goal") (goal_tokens names) goal t₃) where
        abbrev pub target_left : Spells IsTarget (member_tokens (codes "target") number_tokens) t₃
        target_left = next (λ x y r s. ap (drop 1)) input_left goal has_goal _ edge.value.target edge.is_right.1 refl

        pub edge_end : {t₄ : List Token} (target : ℕ)
            → t₃ ≡ member_tokens (codes "target") number_tokens target t₄ → StandsFirst end_object t₄
        edge_end target has_target = end (λ x y r s. ap (drop 1)) target_left target has_target _ refl

  -- of a node
  module _ (node : Spells (IsNode names) (node_tokens names) whole) (begun : whole ≡ begin_object ∷ t₁) where
    abbrev pub node_goal_left : Spells (IsNamed names) (member_tokens (codes "goal") (goal_tokens names)) t₁
    node_goal_left = first _ node.value.goal node.is_right.0 begun node.are_its

    module _ {t₂ : List Token} (goal : Goal)
        (has_goal : t₁ ≡ member_tokens (codes "goal") (goal_tokens names) goal t₂) where
      abbrev pub replies_left : Spells (All (λ _. ⊤)) (member_tokens (codes "replies") (array_tokens reply_tokens)) t₂
      replies_left =
          next (λ x y r s. ap (drop 1)) node_goal_left goal has_goal _ node.value.replies (λ k d inside. tt) refl

      module _ {t₃ : List Token} (replies : List (Reply Outcome))
          (has_replies : t₂ ≡ member_tokens (codes "replies") (array_tokens reply_tokens) replies t₃) where
        abbrev pub result_left : Spells (λ _. ⊤) (member_tokens (codes "result") outcome_tokens) t₃
        result_left = next (array_ends reply_parts) replies_left replies has_replies _ node.value.result tt refl

        module _ {t₄ : List Token} (outcome : Outcome)
            (has_outcome : t₃ ≡ member_tokens (codes "result") outcome_tokens outcome t₄) where
          abbrev pub edges_left : Spells (All (IsEdge names))
              (member_tokens (codes "edges") (array_tokens (edge_tokens names))) t₄
          edges_left =
              next (λ x y r s. ap (drop 1)) result_left outcome has_outcome _ node.value.edges node.is_right.1 refl

          pub node_end : {t₅ : List Token} (edges : List (Edge Goal))
              → t₄ ≡ member_tokens (codes "edges") (array_tokens (edge_tokens names)) edges t₅
              → StandsFirst end_object t₅
          node_end edges has_edges = end (array_ends (edge_parts names)) edges_left edges has_edges _ refl

  -- of a claim
  module _ (claim : Spells (IsClaim names) (claim_tokens names) whole) (begun : whole ≡ begin_object ∷ t₁) where
    abbrev pub claim_goal_left : Spells (IsNamed names) (member_tokens (codes "goal") (goal_tokens names)) t₁
    claim_goal_left = first _ claim.value.goal claim.is_right.0 begun claim.are_its

    module _ {t₂ : List Token} (goal : Goal)
        (has_goal : t₁ ≡ member_tokens (codes "goal") (goal_tokens names) goal t₂) where
      abbrev pub verdict_left : Spells (λ _. ⊤) (member_tokens (codes "verdict") outcome_tokens) t₂
      verdict_left = next (λ x y r s. ap (drop 1)) claim_goal_left goal has_goal _ claim.value.outcome tt refl

      module _ {t₃ : List Token} (outcome : Outcome)
          (has_outcome : t₂ ≡ member_tokens (codes "verdict") outcome_tokens outcome t₃) where
        abbrev pub nodes_left : Spells (All (IsNode names))
            (member_tokens (codes "nodes") (array_tokens (node_tokens names))) t₃
        nodes_left =
            next (λ x y r s. ap (drop 1)) verdict_left outcome has_outcome _ claim.value.nodes claim.is_right.1 refl

        pub claim_end : {t₄ : List Token} (nodes : List PlainNode)
            → t₃ ≡ member_tokens (codes "nodes") (array_tokens (node_tokens names)) nodes t₄ → StandsFirst end_object t₄
        claim_end nodes has_nodes = end (array_ends (node_parts names)) nodes_left nodes has_nodes _ refl
