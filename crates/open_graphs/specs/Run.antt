-- Runs of a goal on the stack, and what holds between their steps.
use Rattle.std.specs.Prelude.{◌≡◌, ◌≢◌, ℕ, ◌<◌, List, [], ◌∷◌, ◌++◌, Some, None, slice_get, slice_set, length, ◌⊎◌}
use Rattle.open_graphs.specs.Graph.{Verdict, Neither, Edge, Node, Unfinished, Finished}
use Rattle.open_graphs.specs.Stack.{Entry, path_kind, IsLeaf, DistinctNodes}
use Rattle.open_graphs.specs.Use.{Heads, Use, Includes, IncludesBelow}

-- The question over an edge was answered by its target: the answer may be used with the edge's step in front, and its
-- heads below the top entry are among the run's.
pub record IsAnsweredEdge (nodes : List Node) (verdict : Verdict) (below : List Entry) (top : Entry)
    (edge : Edge) (heads : Heads) : Type 0 where
  pub answer : Heads
  pub used :
      Use nodes verdict (below ++ top ∷ []) (path_kind (below ++ top ∷ []) edge.kind) edge.kind edge.target answer
  pub among : IncludesBelow (length below) answer heads

-- each of the edges was answered so
abbrev pub AllAnswered : List Node → Verdict → List Entry → Entry → List Edge → Heads → Type 0
AllAnswered nodes verdict below top edges heads =
    (i : ℕ) (edge : Edge)
    → slice_get edges i ≡ Some edge → IsAnsweredEdge nodes verdict below top edge heads

-- The node is the run's own: in the first run the one to which its cycles lead, later another one. The run then goes on
-- under a provisional result of another verdict.
abbrev pub IsRunsNode : Verdict → Entry → ℕ → Type 0
IsRunsNode verdict top n =
    ((top.node ≡ n) × (top.provisional ≡ None))
    ⊎ ((top.node ≢ n) × (top.provisional ≢ None) × (top.provisional ≢ Some verdict))

-- A run of the top entry with the node `own`: its answers so far, outside ignored candidates, by verdict, and the heads
-- of all runs. In the first run cycles lead to `own`. In a later run they lead to the node of the provisional result,
-- which may be used with the heads `heads_before` that the entry had as the run began.
pub record Running (nodes : List Node) (below : List Entry) (top : Entry) (own : ℕ)
    (edges : Verdict → List Edge) (heads_before heads : Heads) :
    Type 0 where
  pub unfinished : slice_get nodes own ≡ Some Unfinished
  pub lower : ¬ IsLeaf below own
  pub which_run : ((top.node ≡ own) × (top.provisional ≡ None)) ⊎ ((top.node ≢ own) × (top.provisional ≢ None))
  pub earlier :
      (verdict : Verdict)
      → verdict ≢ Neither → top.provisional ≡ Some verdict
      → Use nodes verdict below (path_kind below top.step) 0 top.node heads_before
  pub still : Includes heads_before heads
  pub answered : (verdict : Verdict) → AllAnswered nodes verdict below top (edges verdict) heads

-- each entry has a node of the list, and no two entries have the same
pub record IsStack (nodes : List Node) (stack : List Entry) : Type 0 where
  pub in_list : (depth : ℕ) (entry : Entry) → slice_get stack depth ≡ Some entry → entry.node < length nodes
  pub distinct : DistinctNodes stack

-- the node of a run's answer, and the list with it: the node of the provisional result where that has the verdict, else
-- the run's own, finished; without a verdict nothing changes
pub data Answered (nodes : List Node) (top : Entry) (own : ℕ) (edges : Verdict → List Edge) (verdict : Verdict) :
    List Node → ℕ → Type 0 where
  Again : top.provisional ≡ Some verdict → Answered nodes top own edges verdict nodes top.node
  Anew :
      top.provisional ≢ Some verdict
      → Answered nodes top own edges verdict (slice_set nodes own (Finished verdict (edges verdict))) own
  Without : verdict ≡ Neither → Answered nodes top own edges verdict nodes top.node
