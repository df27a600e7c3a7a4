use Rattle.std.proofs.Common.{◌≡◌, ℕ, ◌<◌, slice_index}
use Rattle.graph_check.specs.Below.{Edge, HasEdge, goal_nodes_of}
use Rattle.graph_check.specs.Words.{IsBetween}
use Rattle.graph_check.proofs.cycles.has_inner_edge.Given as goal

-- no edge of the nodes so far stays inside
abbrev pub invariant-loop-place : goal.invariant-loop-place
invariant-loop-place g l =
    (place : ℕ) (e : Edge _) → place < l.place
    → HasEdge (goal_nodes_of l.nodes) place e → IsBetween l.least l.most e.kind
    → slice_index l.numbers place ≡ slice_index l.numbers e.target → ⊥
