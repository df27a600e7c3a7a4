-- What tokens spell is told by them.
use Rattle.std.proofs.Common.{◌≡◌, ◌∙◌, ◌&&◌, ℕ, List, Some, ap, sym, refl, cond, nat_eq, get_or, length}
use Rattle.std.proofs.Common.{decimal}
use Rattle.std.proofs.lemmas.Fmt.{decimal_injective}
use Rattle.std.specs.Prelude.{⊤}
use Rattle.json.specs.Token.{Token}
use Rattle.path_kinds.specs.declared.path.PathKind.{PathKind}
use Rattle.path_kinds.specs.declared.path.PathKind.TheVariants.{Coinductive, ForcedAmbiguity, Inductive, Unknown}
use Rattle.search_context.specs.declared.context.Edge.{Edge}
use Rattle.search_context.specs.declared.context.Reply.TheVariants.{Answer, Begin, Noted}
use Rattle.graph_data.proofs.Arrays.{array_told, Tells}
use Rattle.graph_data.specs.Ends.{claim_nodes, claim_tail, edge_parts, node_edges, node_parts, node_replies}
use Rattle.graph_data.specs.Ends.{node_rest, reply_parts}
use Rattle.graph_data.specs.Below.{Goal, Maybe, No, Outcome, Overflow, Reply, word_of, Yes}
use Rattle.graph_data.specs.Data.{claim_tokens, edge_tokens, HaveOwnNames, IsClaim, IsEdge, IsNamed}
use Rattle.graph_data.specs.Data.{IsNode, node_tokens, PlainClaim, PlainNode}
use Rattle.graph_data.specs.Data.{reply_tokens, reply_word}
use Rattle.graph_texts.specs.Words.{goal_text, letter_of}

-- words are told apart by their letters
abbrev kind_in : List ℕ → PathKind
kind_in text = cond (nat_eq (get_or text 0 0) 105) Inductive
    (cond (nat_eq (get_or text 0 0) 117) Unknown (cond (nat_eq (get_or text 0 0) 99) Coinductive ForcedAmbiguity))

kind_in-letter_of : (kind : PathKind) → kind_in (letter_of kind) ≡ kind
kind_in-letter_of Inductive = refl
kind_in-letter_of Unknown = refl
kind_in-letter_of Coinductive = refl
kind_in-letter_of ForcedAmbiguity = refl

abbrev outcome_in : List ℕ → Outcome
outcome_in text = cond (nat_eq (get_or text 0 0) 121) Yes
    (cond (nat_eq (get_or text 0 0) 110) No (cond (nat_eq (get_or text 0 0) 109) Maybe Overflow))

outcome_in-word_of : (outcome : Outcome) → outcome_in (word_of outcome) ≡ outcome
outcome_in-word_of Yes = refl
outcome_in-word_of No = refl
outcome_in-word_of Maybe = refl
outcome_in-word_of Overflow = refl

abbrev reply_in : List ℕ → Reply Outcome
reply_in text = cond (nat_eq (get_or text 0 0) 98) Begin
    (cond (nat_eq (length text) 5 && nat_eq (get_or text 0 0) 110) Noted (Answer (outcome_in text)))

reply_in-reply_word : (reply : Reply Outcome) → reply_in (reply_word reply) ≡ reply
reply_in-reply_word Begin = refl
reply_in-reply_word (Answer Yes) = refl
reply_in-reply_word (Answer No) = refl
reply_in-reply_word (Answer Maybe) = refl
reply_in-reply_word (Answer Overflow) = refl
reply_in-reply_word Noted = refl

kind_told : (a b : PathKind) → letter_of a ≡ letter_of b → a ≡ b
kind_told a b h = sym (kind_in-letter_of a) ∙ ap kind_in h ∙ kind_in-letter_of b

outcome_told : (a b : Outcome) → word_of a ≡ word_of b → a ≡ b
outcome_told a b h = sym (outcome_in-word_of a) ∙ ap outcome_in h ∙ outcome_in-word_of b

reply_told : (a b : Reply Outcome) → reply_word a ≡ reply_word b → a ≡ b
reply_told a b h = sym (reply_in-reply_word a) ∙ ap reply_in h ∙ reply_in-reply_word b

edge_same : (e f : Edge Goal) → e.kind ≡ f.kind → e.input ≡ f.input → e.target ≡ f.target → e ≡ f
edge_same e f kind input target =
    ap (λ k. record { kind = k; input = e.input; target = e.target }) kind
    ∙ ap (λ g. record { kind = f.kind; input = g; target = e.target }) input
    ∙ ap (λ t. record { kind = f.kind; input = f.input; target = t }) target

node_same : (m n : PlainNode) → m.goal ≡ n.goal → m.replies ≡ n.replies
    → m.result ≡ n.result → m.edges ≡ n.edges → m ≡ n
node_same m n goal replies result edges =
    ap (λ g. record { goal = g; replies = m.replies; result = m.result; edges = m.edges }) goal
    ∙ ap (λ rs. record { goal = n.goal; replies = rs; result = m.result; edges = m.edges }) replies
    ∙ ap (λ r. record { goal = n.goal; replies = n.replies; result = r; edges = m.edges }) result
    ∙ ap (λ es. record { goal = n.goal; replies = n.replies; result = n.result; edges = es }) edges

claim_same : (x y : PlainClaim) → x.goal ≡ y.goal → x.outcome ≡ y.outcome → x.nodes ≡ y.nodes → x ≡ y
claim_same x y goal outcome nodes =
    ap (λ g. record { goal = g; outcome = x.outcome; nodes = x.nodes }) goal
    ∙ ap (λ o. record { goal = y.goal; outcome = o; nodes = x.nodes }) outcome
    ∙ ap (λ ns. record { goal = y.goal; outcome = y.outcome; nodes = ns }) nodes

reply_tells : Tells reply_tokens (λ _. ⊤)
reply_tells x y r s p q h = let word : reply_word x ≡ reply_word y = cc in reply_told x y word

module _ (names : List (List ℕ)) where
  module _ (own : HaveOwnNames names) where
    goal_told : (a b : Goal) → IsNamed names a → IsNamed names b → goal_text names a ≡ goal_text names b → a ≡ b
    goal_told a b named_a named_b h = own a b (goal_text names b) (named_a ∙ ap Some h) named_b

    edge_tells : Tells (edge_tokens names) (IsEdge names)
    edge_tells x y r s p q h =
        let kind : letter_of x.kind ≡ letter_of y.kind = cc in
        let input : goal_text names x.input ≡ goal_text names y.input = cc in
        let target : decimal x.target ≡ decimal y.target = cc in
        edge_same x y (kind_told x.kind y.kind kind) (goal_told x.input y.input p.0 q.0 input)
        (decimal_injective x.target y.target p.1 q.1 target)

    node_tells : Tells (node_tokens names) (IsNode names)
    node_tells x y r s p q h =
        let name : goal_text names x.goal ≡ goal_text names y.goal = cc in
        let replies = array_told reply_tokens reply_parts (λ _. ⊤) reply_tells x.replies y.replies _ _ (λ k d b. tt)
        (λ k d b. tt) (node_replies names x y r s h) in
        let after = node_rest names x y r s h in
        let word : word_of x.result ≡ word_of y.result = cc (after) in
        let edges = array_told (edge_tokens names) (edge_parts names) (IsEdge names) edge_tells x.edges y.edges _ _
        p.1 q.1 (node_edges names x y r s after) in
        node_same x y (goal_told x.goal y.goal p.0 q.0 name) replies (outcome_told x.result y.result word) edges

    -- the same tokens spell the same claim
    pub claim_tells : Tells (claim_tokens names) (IsClaim names)
    claim_tells x y r s p q h =
        let name : goal_text names x.goal ≡ goal_text names y.goal = cc in
        let word : word_of x.outcome ≡ word_of y.outcome = cc in
        let nodes = array_told (node_tokens names) (node_parts names) (IsNode names) node_tells x.nodes y.nodes _
        _ p.1 q.1 (claim_nodes names x y r s h) in
        claim_same x y (goal_told x.goal y.goal p.0 q.0 name) (outcome_told x.outcome y.outcome word) nodes

    pub claim_told : (x y : PlainClaim) (r s : List Token) → IsClaim names x → IsClaim names y
        → claim_tokens names x r ≡ claim_tokens names y s → (x ≡ y) × (r ≡ s)
    claim_told x y r s p q h = (claim_tells x y r s p q h, claim_tail names x y r s h)
