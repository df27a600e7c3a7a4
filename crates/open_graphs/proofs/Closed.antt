-- An answer without heads has a graph.
use Rattle.std.proofs.Common.{ℕ, List, [], sym, subst, inl, inr}
use Rattle.open_graphs.specs.Words.{Verdict, Node, HasShapeEdge, Walk, stay, IsClosedGraph, Entry, IsLeaf, Step, Heads}
use Rattle.open_graphs.specs.Words.{Use, UsesNo, Grown}
use Rattle.open_graphs.proofs.Verdicts.{edges_of, is_finished}
use Rattle.open_graphs.proofs.Walks.{carried_on, carried, then_step}
use Rattle.open_graphs.proofs.Paths.{covered_walk}
use Rattle.open_graphs.proofs.Keep.{edge_before}

edges_only : (nodes : List Node) (verdict : Verdict) (stack : List Entry) {a q b : ℕ}
    → Walk (Step nodes verdict stack) a q b → Walk (HasShapeEdge nodes verdict) a q b
edges_only nodes verdict stack w = carried (HasShapeEdge nodes verdict) (Step nodes verdict stack) (λ b. Unit {0})
    (λ b k c h e. e.edge) (λ b k c h e. tt) tt w

module _ (nodes : List Node) (verdict : Verdict) (stack : List Entry) (from_head : ℕ → ℕ) (front a : ℕ) (heads : Heads)
    (none : (depth : ℕ) → UsesNo heads depth) (u : Use nodes verdict stack from_head front a heads) where
  no_leaf : (b q : ℕ) → Walk (Step nodes verdict stack) a q b → ¬ IsLeaf stack b
  no_leaf b q w l =
      let h = covered_walk nodes verdict stack from_head front a heads u l.0 l.1 q l.2
      (subst (λ x. Walk (Step nodes verdict stack) a q x) (sym l.3) w) in
      none l.0 _ _ h.recorded

  edge_steps : (b q k c : ℕ) → Walk (Step nodes verdict stack) a q b
      → HasShapeEdge nodes verdict b k c → Step nodes verdict stack b k c
  edge_steps b q k c w e = record { edge = e; inner = no_leaf b q w }

  edge_walk : {p b q c : ℕ} → Walk (Step nodes verdict stack) a p b → Walk (HasShapeEdge nodes verdict) b q c
      → Walk (Step nodes verdict stack) b q c
  edge_walk v w = carried_on (Step nodes verdict stack) (HasShapeEdge nodes verdict) a edge_steps v w

  -- what it reaches over an empty stack it reaches over this one, and none of that is a leaf
  pub headless_reaches : (b q : ℕ) → Walk (Step nodes verdict []) a q b
      → Walk (Step nodes verdict stack) a q b × ¬ IsLeaf stack b
  headless_reaches b q w = let v = edge_walk stay (edges_only nodes verdict [] w) in (v, no_leaf b q v)

  -- A use without heads is a graph, whatever the stack is.
  pub closed_is_graph : IsClosedGraph nodes verdict a
  closed_is_graph = record {
    finished = λ b q w. let v = edge_walk stay w in
        elim (u.open_graph.placed b q v) [ inl l ↦ absurd (no_leaf b q v l) | inr f ↦ is_finished nodes verdict b f ];
    closed = λ b q k c r w e x. let v = edge_walk stay w in let e' = edge_steps b q k c v e in
        u.open_graph.closed b q k c r v e' (edge_walk (then_step (Step nodes verdict stack) v e') x);
  }

-- A graph stays one while the list grows.
pub growth_keeps_graph :
    (before after : List Node) (verdict : Verdict) (a : ℕ)
    → Grown before after → IsClosedGraph before verdict a → IsClosedGraph after verdict a
growth_keeps_graph before after verdict a grown g =
    let back = λ (b q k c : ℕ) (w : Walk (HasShapeEdge before verdict) a q b) (e : HasShapeEdge after verdict b k c).
    edge_before before after verdict b k c grown (edges_of before verdict b (g.finished b q w)) e in
    record {
      finished = λ b q w. let f = edges_of before verdict b
          (g.finished b q (carried_on (HasShapeEdge before verdict) (HasShapeEdge after verdict) a back stay w)) in
          is_finished after verdict b (f.0, grown b verdict f.0 f.1);
      closed = λ b q k c r w e x.
          let v = carried_on (HasShapeEdge before verdict) (HasShapeEdge after verdict) a back stay w in
          let e' = back b q k c v e in
          g.closed b q k c r v e' (carried_on (HasShapeEdge before verdict) (HasShapeEdge after verdict) a back
          (then_step (HasShapeEdge before verdict) v e') x);
    }

-- A graph may be used under an empty stack.
pub graph_is_use :
    (nodes : List Node) (verdict : Verdict) (from_head : ℕ → ℕ) (front a : ℕ) (heads : Heads)
    → IsClosedGraph nodes verdict a → Use nodes verdict [] from_head front a heads
graph_is_use nodes verdict from_head front a heads g = record {
  open_graph = record {
    placed = λ b q w. inr (edges_of nodes verdict b (g.finished b q (edges_only nodes verdict [] w)));
    closed =
        λ b q k c r w e x. g.closed b q k c r (edges_only nodes verdict [] w) e.edge (edges_only nodes verdict [] x);
  };
  covered = λ depth entry q on at w. absurd (cc);
}
