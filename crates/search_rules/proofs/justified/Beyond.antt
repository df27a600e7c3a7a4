-- Where an answer may be used over a step of the kind of its verdict's cycles, so may the node one such step further.
use Rattle.std.proofs.Common.{◌≡◌, ℕ, max, List, [], ◌∷◌, ◌++◌, ap, sym, subst, arith}
use Rattle.open_graphs.specs.Graph.{cycle_kind, Edge, go, Node, Verdict}
use Rattle.open_graphs.specs.Stack.{Entry, path_kind}
use Rattle.open_graphs.specs.Use.{Heads, Step, Use}
use Rattle.open_graphs.specs.Run.{IsAnsweredEdge}
use Rattle.open_graphs.proofs.Keep.{accepts_at, recorded_at}
use Rattle.open_graphs.proofs.Paths.{covered_walk, to_walk}

use_beyond : (nodes : List Node) (verdict : Verdict) (stack : List Entry) (from_head : ℕ → ℕ) (a b : ℕ) (heads : Heads)
    → Use nodes verdict stack from_head (cycle_kind verdict) a heads → Step nodes verdict stack a (cycle_kind verdict) b
    → Use nodes verdict stack from_head (cycle_kind verdict) b heads
use_beyond nodes verdict stack from_head a b heads u s = record {
  open_graph = record {
    placed = λ c q w. u.open_graph.placed c (max (cycle_kind verdict) q) (go s w);
    closed = λ c q k d r w e y. u.open_graph.closed c (max (cycle_kind verdict) q) k d r (go s w) e y;
  };
  covered = λ depth entry q on at p.
      let h = covered_walk nodes verdict stack from_head (cycle_kind verdict) a heads u depth entry
      (max (cycle_kind verdict) q) at (go s (to_walk (Step nodes verdict stack) p)) in
      let above = h.above in
      let below = h.below in
      let same : max (cycle_kind verdict) h.path ≡ max (cycle_kind verdict) q = omega (arith, above, below) in (
        recorded_at heads depth _ _ _ _ h.recorded same (ap (λ m. max m (from_head depth)) same),
        accepts_at verdict entry _ _ h.accepted (ap (λ m. max m (from_head depth)) same),
      );
}

-- the same of an answered question, and another one
pub answered_beyond : (nodes : List Node) (verdict : Verdict) (below : List Entry) (top : Entry) (edge next : Edge)
    (heads : Heads) → edge.kind ≡ cycle_kind verdict → next.kind ≡ cycle_kind verdict
    → Step nodes verdict (below ++ top ∷ []) edge.target (cycle_kind verdict) next.target
    → IsAnsweredEdge nodes verdict below top edge heads → IsAnsweredEdge nodes verdict below top next heads
answered_beyond nodes verdict below top edge next heads kind next_kind step h = record {
  answer = h.answer;
  used =
      subst (λ k. Use nodes verdict (below ++ top ∷ []) (path_kind (below ++ top ∷ []) k) k next.target h.answer)
      (sym next_kind)
      (use_beyond nodes verdict (below ++ top ∷ [])
      (path_kind (below ++ top ∷ []) (cycle_kind verdict)) edge.target next.target h.answer
      (subst (λ k. Use nodes verdict (below ++ top ∷ []) (path_kind (below ++ top ∷ []) k) k edge.target h.answer) kind
      h.used) step);
  among = h.among;
}
