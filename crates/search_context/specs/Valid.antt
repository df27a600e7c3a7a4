-- What a graph that is handed out as data has to be. Nothing here speaks of a search: the definition asks the goals'
-- scripts and the graph alone, so anyone can decide it.
use Rattle.std.specs.Prelude.{◌≡◌, ℕ, Bool, true, List, ◌∷◌, map, reverse, slice_get, Some}
use Rattle.search_context.specs.Below.{PathKind, Inductive, Coinductive}
use Rattle.search_context.specs.declared.context.Edge.{Edge}
use Rattle.search_context.specs.declared.context.Node.{Node}
use Rattle.search_context.specs.declared.context.Reply.{Reply}
use Rattle.search_context.specs.declared.context.Request.{Request}
use Rattle.search_context.specs.declared.context.Verdict.{Verdict}
use Rattle.search_context.specs.declared.context.Verdict.TheVariants.{Yes, No, Neither}
use Rattle.search_context.specs.Graph.{GraphNode, question_of, HasGoal, HasEdge, IsWalk, walk_kind}
use Rattle.search_context.specs.Run.{EndsIn, progress_after, questions_answered}
use Rattle.search_context.specs.Verdicts.{Verdicts}

-- the node without its run
abbrev pub goal_node_of : {I R : Type 0} → Node I R → GraphNode I
goal_node_of n = record { goal = n.input; edges = n.edges.items }

-- the nodes of a graph of goals, at the same places
abbrev pub goal_nodes_of : {I R : Type 0} → List (Node I R) → List (GraphNode I)
goal_nodes_of nodes = map goal_node_of nodes

-- The node's replies, the oldest first, lead the script to its result, with no request out of order and none left over.
-- The result is of the sort, and the edges ask what it rests on: the questions outside ignored candidates whose answers
-- are of that sort, in the order of asking.
pub record IsRunOfSort {I R : Type 0} (is_of_sort : R → Bool)
    (script : List (Reply R) → Request I R) (n : Node I R) : Type 0 where
  pub ends : EndsIn script (reverse n.replies.items) n.result
  pub sort : is_of_sort n.result ≡ true
  pub edges : map question_of n.edges.items
      ≡ questions_answered is_of_sort (progress_after script (reverse n.replies.items))

-- each edge leads to a node of the goal that it asks
abbrev pub AreClosed : {I : Type 0} → List (GraphNode I) → Type 0
AreClosed {I} nodes = (at : ℕ) (e : Edge I) → HasEdge nodes at e → HasGoal nodes e.target e.input

-- every closed walk has the kind
abbrev pub CyclesHaveKind : {I : Type 0} → PathKind → List (GraphNode I) → Type 0
CyclesHaveKind {I} kind nodes =
    (at : ℕ) (e : Edge I) (rest : List (Edge I)) → IsWalk nodes at (e ∷ rest) at → walk_kind (e ∷ rest) ≡ kind

-- The first node has the goal, each node is a run of its goal with a result of the sort, each edge leads to a
-- node of the goal that it asks, and every closed walk has the kind. All nodes count, whether they are reached
-- from the first or not.
pub record IsValid {I R : Type 0} (is_of_sort : R → Bool) (kind : PathKind) (scripts : I → List (Reply R) → Request I R)
    (nodes : List (Node I R)) (goal : I) : Type 0 where
  pub rooted : HasGoal (goal_nodes_of nodes) 0 goal
  pub runs : (at : ℕ) (n : Node I R) → slice_get nodes at ≡ Some n → IsRunOfSort is_of_sort (scripts n.input) n
  pub closed : AreClosed (goal_nodes_of nodes)
  pub cycles : CyclesHaveKind kind (goal_nodes_of nodes)

-- a valid graph of the goal for this verdict: by yes and coinductive cycles alone, or by no and inductive ones
abbrev pub IsValidFor : {I R : Type 0} → Verdicts R → Verdict
    → (I → List (Reply R) → Request I R) → List (Node I R) → I → Type 0
IsValidFor says Yes = IsValid says.is_yes Coinductive
IsValidFor says No = IsValid says.is_no Inductive
IsValidFor says Neither = λ scripts nodes goal. ⊥
