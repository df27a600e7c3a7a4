-- A whole evaluation by the moves: A asks P coinductively, P asks A coinductively and itself by a forced ambiguity. P
-- is run twice, and the node of its answer is that of its first run.
use Rattle.std.proofs.Common.{ℕ, List, [], ◌∷◌, true, refl, inl, inr}
use Rattle.open_graphs.specs.Words.{Yes, Edge, Node, Unfinished, Finished, IsClosedGraph, path_kind, Heads, Again, Anew}
use Rattle.open_graphs.specs.Words.{RunningGoal, in_first_run, in_next_run, answering, IsSoundState, with_edge}
use Rattle.open_graphs.proofs.States.{start_is_sound, push_keeps_sound, pop_keeps_sound, rerun_keeps_sound}
use Rattle.open_graphs.proofs.Asked.{one_answer_keeps_sound, cycle_is_answered, done_is_answered}
use Rattle.open_graphs.proofs.Runs.{root_is_graph}

abbrev all_heads : Heads
all_heads depth = record { paths = λ path. true; usages = λ cycle. 1 }

abbrev edge : ℕ → ℕ → Edge
edge k n = record { kind = k; target = n }

-- A and P in their first runs
abbrev a1 : RunningGoal
a1 = in_first_run 0 0 all_heads

abbrev p1 : RunningGoal
p1 = in_first_run 2 1 all_heads

started : IsSoundState (Unfinished ∷ Unfinished ∷ []) (p1 ∷ a1 ∷ []) [] []
started = push_keeps_sound (Unfinished ∷ []) (a1 ∷ []) [] [] 2 all_heads
    (push_keeps_sound [] [] [] [] 0 all_heads (start_is_sound [] [] (λ i x at. absurd (cc))))

-- P's question of A is answered yes, and its question of itself neither
abbrev p2 : RunningGoal
p2 = answering p1 (with_edge p1.edges Yes (edge 2 0)) all_heads

asked : IsSoundState (Unfinished ∷ Unfinished ∷ []) (p2 ∷ a1 ∷ []) [] []
asked = one_answer_keeps_sound (Unfinished ∷ Unfinished ∷ []) p1 (a1 ∷ []) [] [] Yes (edge 2 0) all_heads (λ d p c h. h)
    (cycle_is_answered (Unfinished ∷ Unfinished ∷ []) Yes (a1.entry ∷ []) p1.entry 0 a1.entry 2 all_heads
    started.is_stack.distinct refl (inr (refl, refl)) (λ lt. (refl, λ e. absurd (cc))))
    started

-- P is run again
abbrev nodes2 : List Node
nodes2 = Unfinished ∷ Finished Yes (edge 2 0 ∷ []) ∷ Unfinished ∷ []

abbrev p3 : RunningGoal
p3 = in_next_run p2 Yes 1 2

again : IsSoundState nodes2 (p3 ∷ a1 ∷ []) [] []
again = rerun_keeps_sound (Unfinished ∷ Unfinished ∷ []) p2 (a1 ∷ []) [] [] [] Yes
    (Unfinished ∷ Finished Yes (edge 2 0 ∷ []) ∷ []) 1 (Anew (λ e. absurd (cc))) (λ i k at. absurd (cc)) asked

-- both questions are answered yes
abbrev p4 : RunningGoal
p4 = answering p3 (with_edge p3.edges Yes (edge 2 0)) all_heads

abbrev p5 : RunningGoal
p5 = answering p4 (with_edge p4.edges Yes (edge 3 1)) all_heads

asked_again : IsSoundState nodes2 (p5 ∷ a1 ∷ []) [] []
asked_again =
    let first : IsSoundState nodes2 (p4 ∷ a1 ∷ []) [] [] =
    one_answer_keeps_sound nodes2 p3 (a1 ∷ []) [] [] Yes (edge 2 0) all_heads (λ d p c h. h)
    (cycle_is_answered nodes2 Yes (a1.entry ∷ []) p3.entry 0 a1.entry 2 all_heads again.is_stack.distinct refl
    (inr (refl, refl)) (λ lt. (refl, λ e. absurd (cc)))) again in
    one_answer_keeps_sound nodes2 p4 (a1 ∷ []) [] [] Yes (edge 3 1) all_heads (λ d p c h. h)
    (cycle_is_answered nodes2 Yes (a1.entry ∷ []) p4.entry 1 p4.entry 3 all_heads first.is_stack.distinct refl
    (inl refl) (λ lt. (refl, λ e. absurd (cc)))) first

-- P is done with the node of its first run, and then A
abbrev a2 : RunningGoal
a2 = answering a1 (with_edge a1.edges Yes (edge 2 1)) all_heads

answered : IsSoundState nodes2 (a2 ∷ []) [] []
answered =
    let popped = pop_keeps_sound nodes2 p5 (a1 ∷ []) [] [] [] [] Yes nodes2 1 (Again refl) (λ i k at. absurd (cc))
    (λ i x at. absurd (cc)) asked_again in
    one_answer_keeps_sound nodes2 a1 [] [] [] Yes (edge 2 1) all_heads (λ d p c h. h)
    (done_is_answered nodes2 Yes [] a1.entry 2 1 all_heads all_heads
    (popped.1 (λ e. absurd (cc))) (λ d p c lt h. h)) popped.0

whole : IsClosedGraph (Finished Yes (edge 2 1 ∷ []) ∷ Finished Yes (edge 2 0 ∷ []) ∷ Unfinished ∷ []) Yes 0
whole =
    let popped = pop_keeps_sound nodes2 a2 [] [] [] [] [] Yes
    (Finished Yes (edge 2 1 ∷ []) ∷ Finished Yes (edge 2 0 ∷ []) ∷ Unfinished ∷ []) 0 (Anew (λ e. absurd (cc)))
    (λ i k at. absurd (cc)) (λ i x at. absurd (cc)) answered in
    root_is_graph (Finished Yes (edge 2 1 ∷ []) ∷ Finished Yes (edge 2 0 ∷ []) ∷ Unfinished ∷ []) Yes (path_kind [] 0) 0
    0 all_heads (popped.1 (λ e. absurd (cc)))
