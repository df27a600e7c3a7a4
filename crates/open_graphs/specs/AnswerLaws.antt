-- The theorems on the answers that a run gets. Each of them keeps a sound state sound, where the heads of the newest
-- entry take in those of the answer, with the step in front of their paths.
use Rattle.std.specs.Prelude.{◌≡◌, ℕ, max, ◌<◌, List, [], ◌∷◌, ◌++◌, slice_get, length, Some, cond}
use Rattle.open_graphs.specs.Graph.{Verdict, Edge, Node, same_verdict}
use Rattle.open_graphs.specs.Stack.{Entry, Accepts, path_kind, DistinctNodes}
use Rattle.open_graphs.specs.Use.{Heads, Recorded, Use, ProvisionalUse, Includes}
use Rattle.open_graphs.specs.Run.{IsAnsweredEdge}
use Rattle.open_graphs.specs.State.{RunningGoal, ProvisionalEntry, Final, answering, no_heads, stack_of, IsSoundState}

-- the edges of one verdict with one more
abbrev pub with_edge : (Verdict → List Edge) → Verdict → Edge → Verdict → List Edge
with_edge edges verdict edge other = cond (same_verdict verdict other) (edges other ++ edge ∷ []) (edges other)

-- The newest run gets one more answer with a verdict, over an edge.
abbrev pub OneAnswerKeepsSound : Type 0
OneAnswerKeepsSound =
    (nodes : List Node) (f : RunningGoal) (frames : List RunningGoal)
    (provisional : List ProvisionalEntry) (final : List Final)
    (verdict : Verdict) (edge : Edge) (heads : Heads)
    → Includes f.heads heads → IsAnsweredEdge nodes verdict (stack_of frames) f.entry edge heads
    → IsSoundState nodes (f ∷ frames) provisional final
    → IsSoundState nodes (answering f (with_edge f.edges verdict edge) heads ∷ frames) provisional final

-- the heads below the newest entry take in those of an answer over a step
abbrev pub TakesIn : ℕ → ℕ → Heads → Heads → Type 0
TakesIn limit step answer heads =
    (depth path cycle : ℕ)
    → depth < limit → Recorded answer depth path cycle → Recorded heads depth (max step path) cycle

-- The asked goal stands on the stack.
abbrev pub CycleIsAnswered : Type 0
CycleIsAnswered =
    (nodes : List Node) (verdict : Verdict) (below : List Entry) (top : Entry) (depth : ℕ) (entry : Entry) (step : ℕ)
    (heads : Heads)
    → DistinctNodes (below ++ top ∷ []) → slice_get (below ++ top ∷ []) depth ≡ Some entry
    → Accepts verdict entry (path_kind (below ++ top ∷ []) step depth)
    → (depth < length below → Recorded heads depth step (path_kind (below ++ top ∷ []) step depth))
    → IsAnsweredEdge nodes verdict below top (record { kind = step; target = entry.node }) heads

-- The asked goal was pushed, evaluated and popped.
abbrev pub DoneIsAnswered : Type 0
DoneIsAnswered =
    (nodes : List Node) (verdict : Verdict) (below : List Entry) (top : Entry) (step a : ℕ) (answer heads : Heads)
    → Use nodes verdict (below ++ top ∷ []) (path_kind (below ++ top ∷ []) step) 0 a answer
    → TakesIn (length below) step answer heads
    → IsAnsweredEdge nodes verdict below top (record { kind = step; target = a }) heads

-- The asked goal has a provisional entry, and the path kind from its highest head is the entry's.
abbrev pub ProvisionalIsAnswered : Type 0
ProvisionalIsAnswered =
    (nodes : List Node) (verdict : Verdict) (below : List Entry) (top : Entry) (step highest path a : ℕ)
    (answer heads : Heads)
    → path_kind (below ++ top ∷ []) step highest ≡ path
    → ProvisionalUse nodes verdict (below ++ top ∷ []) highest path a answer → TakesIn (length below) step answer heads
    → IsAnsweredEdge nodes verdict below top (record { kind = step; target = a }) heads

-- The asked goal has a final answer.
abbrev pub FinalIsAnswered : Type 0
FinalIsAnswered =
    (nodes : List Node) (verdict : Verdict) (below : List Entry) (top : Entry) (step a : ℕ) (heads : Heads)
    → Use nodes verdict (below ++ top ∷ []) (λ depth. 0) 0 a no_heads
    → IsAnsweredEdge nodes verdict below top (record { kind = step; target = a }) heads
