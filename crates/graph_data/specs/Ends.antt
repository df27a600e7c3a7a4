-- Where a value ends is told by its tokens.
use Rattle.std.proofs.Common.{◌≡◌, codes, List, [], ◌∷◌, sym, ℕ}
use Rattle.json.specs.Token.{Token, end_array, end_object, key}
use Rattle.graph_data.specs.Data.{array_tokens, claim_tokens, edge_tokens, list_tokens, node_tokens, outcome_tokens}
use Rattle.graph_data.specs.Data.{PlainClaim, PlainNode, reply_tokens}

module _ {A : Type 0} (spelled : A → List Token → List Token) where
  -- where a value ends is told by its tokens
  abbrev pub Ends : Type 0
  Ends = (x y : A) (r s : List Token) → spelled x r ≡ spelled y s → r ≡ s

  -- and they are not the end of an array
  pub record Parts : Type 0 where
    pub tail : Ends
    pub is_no_end : (x : A) (r s : List Token) → spelled x r ≡ end_array ∷ s → ⊥

  module _ (parts : Parts) where
    -- the array's values tell where it ends
    pub array_tail : (xs ys : List A) (r s : List Token)
        → list_tokens spelled xs (end_array ∷ r) ≡ list_tokens spelled ys (end_array ∷ s) → r ≡ s
    array_tail [] [] r s h = cc
    array_tail [] (y ∷ ys) r s h = absurd (parts.is_no_end y _ _ (sym h))
    array_tail (x ∷ xs) [] r s h = absurd (parts.is_no_end x _ _ h)
    array_tail (x ∷ xs) (y ∷ ys) r s h = array_tail xs ys r s (parts.tail x y _ _ h)

-- so is where an array ends
pub array_ends : {A : Type 0} {spelled : A → List Token → List Token} → Parts spelled → Ends (array_tokens spelled)
array_ends {spelled = spelled} parts xs ys r s h = array_tail spelled parts xs ys r s (cc)

pub reply_parts : Parts reply_tokens
reply_parts = record { tail = λ x y r s h. cc; is_no_end = λ x r s h. absurd (cc) }

module _ (names : List (List ℕ)) where
  pub edge_parts : Parts (edge_tokens names)
  edge_parts = record { tail = λ x y r s h. cc; is_no_end = λ x r s h. absurd (cc) }

  -- what follows the replies of a node
  abbrev pub after_replies : PlainNode → List Token → List Token
  after_replies node rest = key (codes "result") ∷ outcome_tokens node.result
      (key (codes "edges") ∷ array_tokens (edge_tokens names) node.edges (end_object ∷ rest))

  pub node_replies : (x y : PlainNode) (r s : List Token) → node_tokens names x r ≡ node_tokens names y s →
      list_tokens reply_tokens x.replies (end_array ∷ after_replies x r)
      ≡ list_tokens reply_tokens y.replies (end_array ∷ after_replies y s)
  node_replies x y r s h = cc

  pub node_rest : (x y : PlainNode) (r s : List Token) → node_tokens names x r ≡ node_tokens names y s
      → after_replies x r ≡ after_replies y s
  node_rest x y r s h = array_tail reply_tokens reply_parts x.replies y.replies _ _ (node_replies x y r s h)

  pub node_edges : (x y : PlainNode) (r s : List Token) → after_replies x r ≡ after_replies y s →
      list_tokens (edge_tokens names) x.edges (end_array ∷ end_object ∷ r)
      ≡ list_tokens (edge_tokens names) y.edges (end_array ∷ end_object ∷ s)
  node_edges x y r s h = cc

  node_tail : (x y : PlainNode) (r s : List Token) → node_tokens names x r ≡ node_tokens names y s → r ≡ s
  node_tail x y r s h =
      let ends =
      array_tail (edge_tokens names) edge_parts x.edges y.edges _ _ (node_edges x y r s (node_rest x y r s h)) in
      cc (ends)

  pub node_parts : Parts (node_tokens names)
  node_parts = record { tail = node_tail; is_no_end = λ x r s h. absurd (cc) }

  pub claim_nodes : (x y : PlainClaim) (r s : List Token) → claim_tokens names x r ≡ claim_tokens names y s →
      list_tokens (node_tokens names) x.nodes (end_array ∷ end_object ∷ r)
      ≡ list_tokens (node_tokens names) y.nodes (end_array ∷ end_object ∷ s)
  claim_nodes x y r s h = cc

  pub claim_tail : (x y : PlainClaim) (r s : List Token) → claim_tokens names x r ≡ claim_tokens names y s → r ≡ s
  claim_tail x y r s h =
      let ends = array_tail (node_tokens names) node_parts x.nodes y.nodes _ _ (claim_nodes x y r s h) in
      cc (ends)

  pub claim_parts : Parts (claim_tokens names)
  claim_parts = record { tail = claim_tail; is_no_end = λ x r s h. absurd (cc) }
