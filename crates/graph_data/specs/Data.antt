-- Graphs as data: the tokens that spell them. Each function puts its tokens before those that follow.
use Rattle.std.specs.Prelude.{◌≡◌, ℕ, ◌++◌, ◌<◌, ◌^◌, All, List, [], ◌∷◌, map, codes, decimal, slice_get, Some}
use Rattle.std.specs.Str.{IsUtf8}
use Rattle.json.specs.Token.{Token, begin_object, end_object, begin_array, end_array, key, string, number}
use Rattle.json.specs.Written.{Written}
use Rattle.search_context.specs.declared.context.Edge.{Edge}
use Rattle.search_context.specs.declared.context.Reply.TheVariants.{Answer, Begin, Noted}
use Rattle.path_kinds.specs.declared.path.PathKind.{PathKind}
use Rattle.graph_texts.specs.Words.{goal_text, letter_of}
use Rattle.graph_data.specs.Below.{Goal, Node, number_of, Outcome, Reply, word_of}
use Rattle.graph_data.specs.declared.reading.Claim.{Claim}
use Rattle.graph_data.specs.declared.reading.source.Source.{Source}

-- a node without where its lists lie in memory
pub record PlainNode : Type 0 where
  pub goal : Goal
  pub replies : List (Reply Outcome)
  pub result : Outcome
  pub edges : List (Edge Goal)

abbrev pub plain_node : Node Goal Outcome → PlainNode
plain_node node =
    record { goal = node.input; replies = node.replies.items; result = node.result; edges = node.edges.items }

-- a goal, what it came to, and the graph that shows it
pub record PlainClaim : Type 0 where
  pub goal : Goal
  pub outcome : Outcome
  pub nodes : List PlainNode

abbrev pub plain_claim : Claim → PlainClaim
plain_claim claim = record { goal = claim.goal; outcome = claim.outcome; nodes = map plain_node claim.nodes.items }

abbrev pub reply_word : Reply Outcome → List ℕ
reply_word Begin = codes "begin"
reply_word (Answer outcome) = word_of outcome
reply_word Noted = codes "noted"

-- the tokens of each in turn
abbrev pub list_tokens : {A : Type 0} → (A → List Token → List Token) → List A → List Token → List Token
list_tokens spelled [] rest = rest
list_tokens spelled (x ∷ xs) rest = spelled x (list_tokens spelled xs rest)

abbrev pub array_tokens : {A : Type 0} → (A → List Token → List Token) → List A → List Token → List Token
array_tokens spelled xs rest = begin_array ∷ list_tokens spelled xs (end_array ∷ rest)

abbrev pub string_tokens : List ℕ → List Token → List Token
string_tokens text rest = string text ∷ rest

abbrev pub number_tokens : ℕ → List Token → List Token
number_tokens n rest = number (decimal n) ∷ rest

abbrev pub kind_tokens : PathKind → List Token → List Token
kind_tokens kind rest = string (letter_of kind) ∷ rest

abbrev pub outcome_tokens : Outcome → List Token → List Token
outcome_tokens outcome rest = string (word_of outcome) ∷ rest

abbrev pub reply_tokens : Reply Outcome → List Token → List Token
reply_tokens reply rest = string (reply_word reply) ∷ rest

-- a member of an object: its key, and its value
abbrev pub member_tokens : {A : Type 0} → List ℕ → (A → List Token → List Token) → A → List Token → List Token
member_tokens name spelled x rest = key name ∷ spelled x rest

-- the names of goals, in the order of their numbers
module _ (names : List (List ℕ)) where
  abbrev pub goal_tokens : Goal → List Token → List Token
  goal_tokens goal rest = string (goal_text names goal) ∷ rest

  abbrev pub edge_tokens : Edge Goal → List Token → List Token
  edge_tokens edge rest =
      begin_object ∷ key (codes "kind") ∷ kind_tokens edge.kind (key (codes "goal") ∷ goal_tokens edge.input
      (key (codes "target") ∷ number_tokens edge.target (end_object ∷ rest)))

  abbrev pub node_tokens : PlainNode → List Token → List Token
  node_tokens node rest =
      begin_object ∷ key (codes "goal")
      ∷ goal_tokens node.goal (key (codes "replies") ∷ array_tokens reply_tokens node.replies
      (key (codes "result")
      ∷ outcome_tokens node.result (key (codes "edges") ∷ array_tokens edge_tokens node.edges (end_object ∷ rest))))

  abbrev pub claim_tokens : PlainClaim → List Token → List Token
  claim_tokens claim rest =
      begin_object ∷ key (codes "goal") ∷ goal_tokens claim.goal (key (codes "verdict") ∷ outcome_tokens claim.outcome
      (key (codes "nodes") ∷ array_tokens node_tokens claim.nodes (end_object ∷ rest)))

  -- each goal's name is UTF-8
  abbrev pub HaveTexts : Type 0
  HaveTexts = (goal : Goal) → IsUtf8 (goal_text names goal)

-- these tokens are appended, and nothing before them is changed
pub record PutsTokens (old new : Written) (spelled : List Token → List Token) : Type 0 where
  pub alone : new.before ≡ old.before
  pub appended : (rest : List Token) → new.tokens ++ rest ≡ old.tokens ++ spelled rest

-- ---- what is read back

-- the tokens that are not read yet
abbrev pub left_in : Source → List Token
left_in source = source.reader

-- this token stands first
abbrev pub StandsFirst : Token → List Token → Type 0
StandsFirst token tokens = (rest : List Token) × (tokens ≡ token ∷ rest)

-- The tokens of some value stand first, of which P holds.
pub record Spells {A : Type 0} (P : A → Type 0) (spelled : A → List Token → List Token)
    (tokens : List Token) : Type 0 where
  pub value : A
  pub is_right : P value
  pub rest : List Token
  pub are_its : tokens ≡ spelled value rest

-- its target is a number of 64 bits
abbrev pub IsTarget : ℕ → Type 0
IsTarget target = target < 2 ^ 64

module _ (names : List (List ℕ)) where
  -- the goal has a name
  abbrev pub IsNamed : Goal → Type 0
  IsNamed goal = slice_get names (number_of goal) ≡ Some (goal_text names goal)

  -- the goal of this edge has a name, and its target is a number of 64 bits
  abbrev pub IsEdge : Edge Goal → Type 0
  IsEdge edge = IsNamed edge.input × IsTarget edge.target

  abbrev pub IsNode : PlainNode → Type 0
  IsNode node = IsNamed node.goal × All IsEdge node.edges

  -- each goal in it has a name
  abbrev pub IsClaim : PlainClaim → Type 0
  IsClaim claim = IsNamed claim.goal × All IsNode claim.nodes

  -- no two goals have one name
  abbrev pub HaveOwnNames : Type 0
  HaveOwnNames = (a b : Goal) (name : List ℕ) → slice_get names (number_of a) ≡ Some name
      → slice_get names (number_of b) ≡ Some name → a ≡ b
