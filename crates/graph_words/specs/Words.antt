-- The words that spell graphs. Each function puts its words before those that follow.
use Rattle.std.specs.Prelude.{◌≡◌, ℕ, ◌++◌, ◌<◌, ◌^◌, All, List, [], ◌∷◌, length, map, slice_get}
use Rattle.std.specs.Option.{unwrap_or}
use Rattle.graph_words.specs.Below.{Answer, Begin, Coinductive, Edge, ForcedAmbiguity, Inductive, Maybe, No, Node}
use Rattle.graph_words.specs.Below.{Noted}
use Rattle.graph_words.specs.Below.{Outcome, Overflow, PathKind, Reply, Unknown, Yes}
use Rattle.graph_words.specs.declared.reading.source.Source.{Source}

-- a node without where its lists lie in memory
pub record PlainNode : Type 0 where
  pub goal : ℕ
  pub outcome : Outcome
  pub replies : List (Reply Outcome)
  pub edges : List (Edge ℕ)

abbrev pub plain_node : Node ℕ Outcome → PlainNode
plain_node node =
    record { goal = node.input; outcome = node.result; replies = node.replies.items; edges = node.edges.items }

abbrev pub outcome_word : Outcome → ℕ
outcome_word Yes = 0
outcome_word No = 1
outcome_word Maybe = 2
outcome_word Overflow = 3

abbrev pub reply_word : Reply Outcome → ℕ
reply_word (Answer outcome) = outcome_word outcome
reply_word Noted = 4
reply_word Begin = 5

abbrev pub kind_word : PathKind → ℕ
kind_word Inductive = 0
kind_word Unknown = 1
kind_word Coinductive = 2
kind_word ForcedAmbiguity = 3

-- the words of each in turn
abbrev pub list_words : {A : Type 0} → (A → List ℕ → List ℕ) → List A → List ℕ → List ℕ
list_words spelled [] rest = rest
list_words spelled (x ∷ xs) rest = spelled x (list_words spelled xs rest)

-- before them, how many they are
abbrev pub counted_words : {A : Type 0} → (A → List ℕ → List ℕ) → List A → List ℕ → List ℕ
counted_words spelled xs rest = length xs ∷ list_words spelled xs rest

-- one word, by itself
abbrev pub plain_word : ℕ → List ℕ → List ℕ
plain_word word rest = word ∷ rest

abbrev pub outcome_words : Outcome → List ℕ → List ℕ
outcome_words outcome rest = outcome_word outcome ∷ rest

abbrev pub reply_words : Reply Outcome → List ℕ → List ℕ
reply_words reply rest = reply_word reply ∷ rest

-- an edge's goal has no word
abbrev pub edge_words : Edge ℕ → List ℕ → List ℕ
edge_words edge rest = kind_word edge.kind ∷ edge.target ∷ rest

abbrev pub node_words : PlainNode → List ℕ → List ℕ
node_words node rest = node.goal ∷ outcome_word node.outcome
    ∷ counted_words reply_words node.replies (counted_words edge_words node.edges rest)

abbrev pub words_of : List PlainNode → List ℕ
words_of nodes = list_words node_words nodes []

-- the goal is a number of 32 bits
abbrev pub IsGoal : ℕ → Type 0
IsGoal goal = goal < 2 ^ 32

abbrev pub IsNode : PlainNode → Type 0
IsNode node = IsGoal node.goal

-- The words are those of the nodes, each of a goal of 32 bits.
pub record AreWordsOf (words : List ℕ) (nodes : List PlainNode) : Type 0 where
  pub spelled : words ≡ words_of nodes
  pub in_range : All IsNode nodes

-- ---- what is written

-- these words are appended
abbrev pub PutsWords : (old new : List ℕ) → (List ℕ → List ℕ) → Type 0
PutsWords old new spelled = (rest : List ℕ) → new ++ rest ≡ old ++ spelled rest

-- ---- what is read

-- the words that are not read yet
abbrev pub left_in : Source → List ℕ
left_in source = source.left.now

-- The words of some value stand first, of which P holds.
pub record Spells {A : Type 0} (P : A → Type 0) (spelled : A → List ℕ → List ℕ) (words : List ℕ) : Type 0 where
  pub value : A
  pub is_right : P value
  pub rest : List ℕ
  pub are_its : words ≡ spelled value rest

-- the goal at a place, or 0
abbrev pub goal_at : List ℕ → ℕ → ℕ
goal_at goals at = unwrap_or (slice_get goals at) 0

-- the edge with its target's goal
abbrev pub named_edge : List ℕ → Edge ℕ → Edge ℕ
named_edge goals edge = record { kind = edge.kind; input = goal_at goals edge.target; target = edge.target }

abbrev pub named_node : List ℕ → PlainNode → PlainNode
named_node goals node = record node { edges = map (named_edge goals) node.edges }

abbrev pub goals_of : List PlainNode → List ℕ
goals_of nodes = map (λ node. node.goal) nodes

-- the nodes, each edge of which has its target's goal
abbrev pub named : List PlainNode → List PlainNode
named nodes = map (named_node (goals_of nodes)) nodes
