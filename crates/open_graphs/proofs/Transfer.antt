-- An answer may still be used where the list, the stack or its heads change only in what it does not reach.
use Rattle.std.proofs.Common.{◌≡◌, ℕ, List, Some, slice_get, ◌⊎◌}
use Rattle.open_graphs.specs.Words.{Verdict, Node, IsFinished, Walk, stay, Entry, IsLeaf, Step, OpenGraph, Heads, Use}
use Rattle.open_graphs.proofs.Walks.{carried_on, then_step}
use Rattle.open_graphs.proofs.Paths.{to_walk, carried_path}

-- two states of which the second has no further step, leaf or unfinished node at what `a` reaches in the first
module _ (nodes later : List Node) (verdict : Verdict) (stack other : List Entry) (a : ℕ)
    (back : (b q k c : ℕ) → Walk (Step nodes verdict stack) a q b
    → Step later verdict other b k c → Step nodes verdict stack b k c)
    (place : (b q : ℕ) → Walk (Step nodes verdict stack) a q b → IsLeaf stack b ⊎ IsFinished nodes verdict b
    → IsLeaf other b ⊎ IsFinished later verdict b) where
  pub same_walk : {q b : ℕ} → Walk (Step later verdict other) a q b → Walk (Step nodes verdict stack) a q b
  same_walk w = carried_on (Step nodes verdict stack) (Step later verdict other) a back stay w

  pub transfer_open_graph : OpenGraph nodes verdict stack a → OpenGraph later verdict other a
  transfer_open_graph s = record {
    placed = λ b q w. let v = same_walk w in place b q v (s.placed b q v);
    closed = λ b q k c r w e x.
        let v = same_walk w in
        let e' = back b q k c v e in
        s.closed b q k c r v e' (carried_on (Step nodes verdict stack) (Step later verdict other) a back
        (then_step (Step nodes verdict stack) v e') x);
  }

  pub transfer_use : (from_head : ℕ → ℕ) (before : ℕ) (heads : Heads)
      → ((depth : ℕ) (entry : Entry) (q : ℕ) → slice_get other depth ≡ Some entry
      → Walk (Step nodes verdict stack) a q entry.node → slice_get stack depth ≡ Some entry)
      → Use nodes verdict stack from_head before a heads → Use later verdict other from_head before a heads
  transfer_use from_head before heads entries u = record {
    open_graph = transfer_open_graph u.open_graph;
    covered = λ depth entry q on at w.
        let v = carried_path (Step nodes verdict stack) (Step later verdict other) a back 0 stay w in
        u.covered depth entry q on (entries depth entry q at (to_walk (Step nodes verdict stack) v)) v;
  }
