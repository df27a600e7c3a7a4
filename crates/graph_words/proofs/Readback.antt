-- What words spell is told by them.
use Rattle.std.proofs.Common.{◌≡◌, ◌∙◌, ◌<◌, ◌≤◌, All, ap, arith, cond, length, List, [], ◌∷◌, map, nat_eq, refl}
use Rattle.std.proofs.Common.{subst, sym, ℕ}
use Rattle.std.proofs.lemmas.List.{length-map}
use Rattle.std.proofs.lemmas.List.Elements.{All-head, All-map, All-tail}
use Rattle.std.specs.Prelude.{⊤}
use Rattle.graph_words.specs.Below.{Answer, Begin, Coinductive, Edge, ForcedAmbiguity, Inductive, Maybe, No, Noted}
use Rattle.graph_words.specs.Below.{Outcome, Overflow, PathKind, Reply, Unknown, Yes}
use Rattle.graph_words.specs.Words.{AreWordsOf, IsNode, PlainNode, goals_of, named, Spells, counted_words, edge_words}
use Rattle.graph_words.specs.Words.{goal_at, kind_word, list_words}
use Rattle.graph_words.specs.Words.{named_edge, named_node, node_words, outcome_word, reply_word, reply_words, words_of}

-- ---- what is spelled one after the other

module _ {A : Type 0} (spelled : A → List ℕ → List ℕ) where
  -- where a value ends is told by its words
  abbrev pub Parts : Type 0
  Parts = (x y : A) (r s : List ℕ) → spelled x r ≡ spelled y s → r ≡ s

  -- and so is what `view` sees of it
  abbrev pub Tells : {B : Type 0} → (A → B) → Type 0
  Tells view = (x y : A) (r s : List ℕ) → spelled x r ≡ spelled y s → view x ≡ view y

  module _ (parts : Parts) where
    -- where as many values end
    pub list_tail : (xs ys : List A) (r s : List ℕ) → length xs ≡ length ys
        → list_words spelled xs r ≡ list_words spelled ys s → r ≡ s
    list_tail [] [] r s same h = h
    list_tail [] (y ∷ ys) r s same h = absurd (omega arith)
    list_tail (x ∷ xs) [] r s same h = absurd (omega arith)
    list_tail (x ∷ xs) (y ∷ ys) r s same h =
        let fewer : length xs ≡ length ys = omega arith in list_tail xs ys r s fewer (parts x y _ _ h)

    pub list_told : {B : Type 0} (view : A → B) → Tells view → (xs ys : List A) (r s : List ℕ)
        → length xs ≡ length ys → list_words spelled xs r ≡ list_words spelled ys s → map view xs ≡ map view ys
    list_told view tells [] [] r s same h = refl
    list_told view tells [] (y ∷ ys) r s same h = absurd (omega arith)
    list_told view tells (x ∷ xs) [] r s same h = absurd (omega arith)
    list_told view tells (x ∷ xs) (y ∷ ys) r s same h =
        let fewer : length xs ≡ length ys = omega arith in
        ap (λ v. v ∷ map view xs) (tells x y _ _ h)
        ∙ ap (λ vs. view y ∷ vs) (list_told view tells xs ys r s fewer (parts x y _ _ h))

    -- where fewer are read than there are, one more is left
    list_left : (xs ys : List A) (left rest : List ℕ) → length xs < length ys
        → list_words spelled xs left ≡ list_words spelled ys rest → Spells (λ _. ⊤) spelled left
    list_left [] [] left rest fewer h = absurd (omega arith)
    list_left [] (y ∷ ys) left rest fewer h = record { value = y; is_right = tt; rest = _; are_its = h }
    list_left (x ∷ xs) [] left rest fewer h = absurd (omega arith)
    list_left (x ∷ xs) (y ∷ ys) left rest fewer h =
        let still : length xs < length ys = omega arith in list_left xs ys left rest still (parts x y _ _ h)

    -- so many as are told first
    pub counted_tail : (xs ys : List A) (r s : List ℕ) → counted_words spelled xs r ≡ counted_words spelled ys s → r ≡ s
    counted_tail xs ys r s h =
        let same : length xs ≡ length ys = cc in
        let words : list_words spelled xs r ≡ list_words spelled ys s = cc in list_tail xs ys r s same words

    pub counted_told : {B : Type 0} (view : A → B) → Tells view → (xs ys : List A) (r s : List ℕ)
        → counted_words spelled xs r ≡ counted_words spelled ys s → map view xs ≡ map view ys
    counted_told view tells xs ys r s h =
        let same : length xs ≡ length ys = cc in
        let words : list_words spelled xs r ≡ list_words spelled ys s = cc in
        list_told view tells xs ys r s same words

    pub counted_left : (count : ℕ) (xs : List A) (whole left : List ℕ) → whole ≡ count ∷ list_words spelled xs left
        → length xs < count → Spells (λ _. ⊤) (counted_words spelled) whole → Spells (λ _. ⊤) spelled left
    counted_left count xs whole left so_far fewer all =
        let same : count ∷ list_words spelled xs left ≡ counted_words spelled all.value all.rest
        = sym so_far ∙ all.are_its in
        let many : count ≡ length all.value = cc in
        let words : list_words spelled xs left ≡ list_words spelled all.value all.rest = cc in
        let still : length xs < length all.value = omega arith in list_left xs all.value left all.rest still words

    -- until no word is left
    module _ (some : (x : A) (r : List ℕ) → spelled x r ≡ [] → ⊥) where
      pub all_told : {B : Type 0} (view : A → B) → Tells view → (xs ys : List A)
          → list_words spelled xs [] ≡ list_words spelled ys [] → map view xs ≡ map view ys
      all_told view tells [] [] h = refl
      all_told view tells [] (y ∷ ys) h = absurd (some y _ (sym h))
      all_told view tells (x ∷ xs) [] h = absurd (some x _ h)
      all_told view tells (x ∷ xs) (y ∷ ys) h =
          ap (λ v. v ∷ map view xs) (tells x y _ _ h)
          ∙ ap (λ vs. view y ∷ vs) (all_told view tells xs ys (parts x y _ _ h))

      pub all_left : (P : A → Type 0) (xs ys : List A) (left : List ℕ) → All P ys → (left ≡ [] → ⊥)
          → list_words spelled xs left ≡ list_words spelled ys [] → Spells P spelled left
      all_left P [] [] left good more h = absurd (more h)
      all_left P [] (y ∷ ys) left good more h =
          record { value = y; is_right = All-head P y ys good; rest = _; are_its = h }
      all_left P (x ∷ xs) [] left good more h = absurd (some x _ h)
      all_left P (x ∷ xs) (y ∷ ys) left good more h =
          all_left P xs ys left (All-tail P y ys good) more (parts x y _ _ h)

-- ---- outcomes, replies, edges and nodes

abbrev outcome_in : ℕ → Outcome
outcome_in word = cond (nat_eq word 0) Yes (cond (nat_eq word 1) No (cond (nat_eq word 2) Maybe Overflow))

outcome_in-outcome_word : (outcome : Outcome) → outcome_in (outcome_word outcome) ≡ outcome
outcome_in-outcome_word Yes = refl
outcome_in-outcome_word No = refl
outcome_in-outcome_word Maybe = refl
outcome_in-outcome_word Overflow = refl

abbrev reply_in : ℕ → Reply Outcome
reply_in word = cond (nat_eq word 4) Noted (cond (nat_eq word 5) Begin (Answer (outcome_in word)))

reply_in-reply_word : (reply : Reply Outcome) → reply_in (reply_word reply) ≡ reply
reply_in-reply_word Noted = refl
reply_in-reply_word Begin = refl
reply_in-reply_word (Answer Yes) = refl
reply_in-reply_word (Answer No) = refl
reply_in-reply_word (Answer Maybe) = refl
reply_in-reply_word (Answer Overflow) = refl

abbrev kind_in : ℕ → PathKind
kind_in word =
    cond (nat_eq word 0) Inductive (cond (nat_eq word 1) Unknown (cond (nat_eq word 2) Coinductive ForcedAmbiguity))

kind_in-kind_word : (kind : PathKind) → kind_in (kind_word kind) ≡ kind
kind_in-kind_word Inductive = refl
kind_in-kind_word Unknown = refl
kind_in-kind_word Coinductive = refl
kind_in-kind_word ForcedAmbiguity = refl

outcome_told : (a b : Outcome) → outcome_word a ≡ outcome_word b → a ≡ b
outcome_told a b h = sym (outcome_in-outcome_word a) ∙ ap outcome_in h ∙ outcome_in-outcome_word b

reply_told : (a b : Reply Outcome) → reply_word a ≡ reply_word b → a ≡ b
reply_told a b h = sym (reply_in-reply_word a) ∙ ap reply_in h ∙ reply_in-reply_word b

kind_told : (a b : PathKind) → kind_word a ≡ kind_word b → a ≡ b
kind_told a b h = sym (kind_in-kind_word a) ∙ ap kind_in h ∙ kind_in-kind_word b

pub reply_parts : Parts reply_words
reply_parts x y r s h = cc

reply_tells : Tells reply_words (λ reply. reply)
reply_tells x y r s h = let word : reply_word x ≡ reply_word y = cc in reply_told x y word

pub edge_parts : Parts edge_words
edge_parts x y r s h = cc

map_same : {A : Type 0} (xs : List A) → map (λ x. x) xs ≡ xs
map_same [] = refl
map_same (x ∷ xs) = ap (λ ys. x ∷ ys) (map_same xs)

-- what follows the replies of a node
abbrev after_replies : PlainNode → List ℕ → List ℕ
after_replies node rest = counted_words edge_words node.edges rest

node_replies : (x y : PlainNode) (r s : List ℕ) → node_words x r ≡ node_words y s
    → counted_words reply_words x.replies (after_replies x r) ≡ counted_words reply_words y.replies (after_replies y s)
node_replies x y r s h = cc

pub node_edges : (x y : PlainNode) (r s : List ℕ) → node_words x r ≡ node_words y s
    → after_replies x r ≡ after_replies y s
node_edges x y r s h = counted_tail reply_words reply_parts x.replies y.replies _ _ (node_replies x y r s h)

pub node_parts : Parts node_words
node_parts x y r s h = counted_tail edge_words edge_parts x.edges y.edges r s (node_edges x y r s h)

pub node_some : (x : PlainNode) (r : List ℕ) → node_words x r ≡ [] → ⊥
node_some x r h = absurd (cc)

pub goal_tells : Tells node_words (λ node. node.goal)
goal_tells x y r s h = cc

module _ (goals : List ℕ) where
  edge_tells : Tells edge_words (named_edge goals)
  edge_tells x y r s h =
      let kind : kind_word x.kind ≡ kind_word y.kind = cc in
      let target : x.target ≡ y.target = cc in
      ap (λ k. record { kind = k; input = goal_at goals x.target; target = x.target }) (kind_told x.kind y.kind kind)
      ∙ ap (λ t. record { kind = y.kind; input = goal_at goals t; target = t }) target

  node_same : (m n : PlainNode) → m.goal ≡ n.goal → m.outcome ≡ n.outcome → m.replies ≡ n.replies
      → map (named_edge goals) m.edges ≡ map (named_edge goals) n.edges → named_node goals m ≡ named_node goals n
  node_same m n goal outcome replies edges =
      ap (λ g. record { goal = g; outcome = m.outcome; replies = m.replies; edges = map (named_edge goals) m.edges })
      goal
      ∙ ap (λ o. record { goal = n.goal; outcome = o; replies = m.replies; edges = map (named_edge goals) m.edges })
      outcome
      ∙ ap (λ rs. record { goal = n.goal; outcome = n.outcome; replies = rs; edges = map (named_edge goals) m.edges })
      replies
      ∙ ap (λ es. record { goal = n.goal; outcome = n.outcome; replies = n.replies; edges = es }) edges

  pub node_tells : Tells node_words (named_node goals)
  node_tells x y r s h =
      let goal : x.goal ≡ y.goal = cc in
      let outcome : outcome_word x.outcome ≡ outcome_word y.outcome = cc in
      let replies = counted_told reply_words reply_parts (λ reply. reply) reply_tells x.replies y.replies _ _
      (node_replies x y r s h) in
      let edges = counted_told edge_words edge_parts (named_edge goals) edge_tells x.edges y.edges r s
      (node_edges x y r s h) in
      node_same x y goal (outcome_told x.outcome y.outcome outcome)
      (sym (map_same x.replies) ∙ replies ∙ map_same y.replies) edges

  -- ---- the goals of edges have no words

  named_edges_words : (edges : List (Edge ℕ)) (rest : List ℕ)
      → list_words edge_words (map (named_edge goals) edges) rest ≡ list_words edge_words edges rest
  named_edges_words [] rest = refl
  named_edges_words (e ∷ edges) rest = ap (edge_words e) (named_edges_words edges rest)

  named_node_words : (node : PlainNode) (rest : List ℕ) → node_words (named_node goals node) rest ≡ node_words node rest
  named_node_words node rest =
      ap (λ words. node.goal ∷ outcome_word node.outcome ∷ counted_words reply_words node.replies words)
      (ap (λ n. n ∷ list_words edge_words (map (named_edge goals) node.edges) rest)
      (length-map node.edges (named_edge goals))
      ∙ ap (λ words. length node.edges ∷ words) (named_edges_words node.edges rest))

  pub named_words : (nodes : List PlainNode) → words_of (map (named_node goals) nodes) ≡ words_of nodes
  named_words [] = refl
  named_words (n ∷ nodes) =
      ap (node_words (named_node goals n)) (named_words nodes) ∙ named_node_words n (words_of nodes)

-- ---- where a node is there, so are its parts

pub edges_there : (goal word : ℕ) (replies : List (Reply Outcome)) (whole first second third : List ℕ)
    → whole ≡ goal ∷ first → first ≡ word ∷ second → second ≡ counted_words reply_words replies third
    → Spells IsNode node_words whole → Spells (λ _. ⊤) (counted_words edge_words) third
edges_there goal word replies whole first second third one two three all =
    let same : goal ∷ word ∷ counted_words reply_words replies third ≡ node_words all.value all.rest
    = sym (one ∙ ap (λ words. goal ∷ words) (two ∙ ap (λ words. word ∷ words) three)) ∙ all.are_its in
    let tails : counted_words reply_words replies third
    ≡ counted_words reply_words all.value.replies (counted_words edge_words all.value.edges all.rest) = cc in
    record {
      value = all.value.edges;
      is_right = tt;
      rest = all.rest;
      are_its = counted_tail reply_words reply_parts replies all.value.replies third _ tails;
    }

-- where words are those of some nodes, and some are left, so is one more node
pub node_left : (nodes : List PlainNode) (words left : List ℕ) → words ≡ list_words node_words nodes left
    → (left ≡ [] → ⊥) → (others : List PlainNode) → AreWordsOf words others → Spells IsNode node_words left
node_left nodes words left so_far more others all =
    all_left node_words node_parts node_some IsNode nodes others left all.in_range more (sym so_far ∙ all.spelled)

words_grow : {A : Type 0} (spelled : A → List ℕ → List ℕ)
    → ((x : A) (rest : List ℕ) → length rest ≤ length (spelled x rest))
    → (xs : List A) (rest : List ℕ) → length rest ≤ length (list_words spelled xs rest)
words_grow spelled grows [] rest = omega arith
words_grow spelled grows (x ∷ xs) rest =
    omega (arith, grows x (list_words spelled xs rest), words_grow spelled grows xs rest)

-- a node has words
pub node_smaller : (node : PlainNode) (before after : List ℕ) → before ≡ node_words node after
    → length after < length before
node_smaller node before after h =
    let edges = words_grow edge_words (λ x r. omega arith) node.edges after in
    let replies = words_grow reply_words (λ x r. omega arith) node.replies
    (counted_words edge_words node.edges after) in
    omega (arith, edges, replies, ap length h)

-- ---- nodes whose edges get their targets' goals

pub named_are : (goals words : List ℕ) (nodes new : List PlainNode) → AreWordsOf words nodes
    → new ≡ map (named_node goals) nodes → AreWordsOf words new
named_are goals words nodes new are same = record {
  spelled = are.spelled ∙ sym (ap words_of same ∙ named_words goals nodes);
  in_range = subst (All IsNode) (sym same)
      (All-map IsNode (named_node goals) nodes are.in_range);
}

pub named_same : (goals words : List ℕ) (nodes new : List PlainNode) → AreWordsOf words nodes
    → goals ≡ goals_of nodes → new ≡ map (named_node goals) nodes → (others : List PlainNode) → AreWordsOf words others
    → new ≡ named others
named_same goals words nodes new are its same others all =
    let words_same = sym are.spelled ∙ all.spelled in
    let heads = its ∙ all_told node_words node_parts node_some (λ node. node.goal) goal_tells nodes others words_same in
    same ∙ all_told node_words node_parts node_some (named_node goals) (node_tells goals) nodes others words_same
    ∙ ap (λ gs. map (named_node gs) others) heads
