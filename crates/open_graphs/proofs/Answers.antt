-- Edges: answers for a goal on the stack, and for a finished goal.
use Rattle.std.proofs.Common.{◌≡◌, ℕ, suc, max, ◌≤◌, List, Some, slice_get, drop, arith, refl, sym, subst, inl}
use Rattle.open_graphs.specs.Words.{Verdict, Node, Walk, stay, go, Entry, IsLeaf, Accepts, path_kind, Step, Recorded}
use Rattle.open_graphs.specs.Words.{DistinctNodes, Heads, Use}
use Rattle.open_graphs.proofs.Paths.{to_walk}
use Rattle.open_graphs.proofs.PathKinds.{step_le}
use Rattle.open_graphs.proofs.Keep.{recorded_at, accepts_at}

-- a walk from a leaf has no step
pub from_leaf : (nodes : List Node) (verdict : Verdict) (stack : List Entry) {a q b : ℕ} → IsLeaf stack a
    → Walk (Step nodes verdict stack) a q b → (b ≡ a) × (q ≡ 0)
from_leaf nodes verdict stack l stay = (refl, refl)
from_leaf nodes verdict stack l (go s w) = absurd (s.inner l)

-- A goal on the stack may be used as an answer. It has one head, itself, with the path of the step and a usage of the
-- cycle's kind.
pub cycle_gives_use :
    (nodes : List Node) (verdict : Verdict) (stack : List Entry) (depth : ℕ) (entry : Entry) (step : ℕ)
    (heads : Heads)
    → DistinctNodes stack → slice_get stack depth ≡ Some entry → Accepts verdict entry (path_kind stack step depth)
    → Recorded heads depth step (path_kind stack step depth)
    → Use nodes verdict stack (path_kind stack step) step entry.node heads
cycle_gives_use nodes verdict stack depth entry step heads distinct at accepts recorded =
    let l : IsLeaf stack entry.node = (depth, entry, at, refl) in
    record {
      open_graph = record {
        placed = λ b q w. inl (depth, entry, at, sym (from_leaf nodes verdict stack l w).0);
        closed = λ b q k c r w e x. absurd (e.inner (depth, entry, at, sym (from_leaf nodes verdict stack l w).0));
      };
      covered = λ other x q on at' p.
          let h = from_leaf nodes verdict stack l (to_walk (Step nodes verdict stack) p) in
          let none = h.1 in
          let same : depth ≡ other = sym (distinct other depth x entry at' at h.0) in
          let e : entry ≡ x =
          (let at'' : slice_get stack other ≡ Some entry = subst (λ d. slice_get stack d ≡ Some entry) same at in cc) in
          let le : step ≤ path_kind stack step other = step_le step (drop (suc other) stack) in
          let kind : path_kind stack step other ≡ max (max step q) (path_kind stack step other) = omega arith in (
            recorded_at heads other step (path_kind stack step other) (max step q)
                (max (max step q) (path_kind stack step other))
                (subst (λ d. Recorded heads d step (path_kind stack step d)) same recorded) (omega arith) kind,
            accepts_at verdict x (path_kind stack step other) (max (max step q) (path_kind stack step other))
                (subst (λ d. Accepts verdict x (path_kind stack step d)) same
                (subst (λ y. Accepts verdict y (path_kind stack step depth)) e accepts)) kind,
          );
    }

-- A finished goal that is asked by a step gives an edge: the paths of its heads get the step in front.
pub use_gives_edge :
    (nodes : List Node) (verdict : Verdict) (stack : List Entry) (step a : ℕ) (heads extended : Heads)
    → ((depth path cycle : ℕ) → Recorded heads depth path cycle → Recorded extended depth (max step path) cycle)
    → Use nodes verdict stack (path_kind stack step) 0 a heads
    → Use nodes verdict stack (path_kind stack step) step a extended
use_gives_edge nodes verdict stack step a heads extended extends u = record {
  open_graph = u.open_graph;
  covered = λ depth entry q on at p.
      let h = u.covered depth entry q on at p in
      let le : step ≤ path_kind stack step depth = step_le step (drop (suc depth) stack) in
      let same : max (max 0 q) (path_kind stack step depth) ≡ max (max step q) (path_kind stack step depth) =
      omega arith in (
        recorded_at extended depth (max step (max 0 q)) (max (max 0 q) (path_kind stack step depth)) (max step q)
            (max (max step q) (path_kind stack step depth))
            (extends depth (max 0 q) (max (max 0 q) (path_kind stack step depth)) h.0) (omega arith) same,
        accepts_at verdict entry _ _ h.1 same,
      );
}
