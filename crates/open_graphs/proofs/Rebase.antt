-- What becomes of provisional entries when their highest head is popped.
use Rattle.std.proofs.Common.{◌≡◌, ◌≢◌, ℕ, max, ◌<◌, List, [], ◌∷◌, ◌++◌, Some, length, slice_get, arith, refl, ap, sym}
use Rattle.std.proofs.Common.{subst, ◌⊎◌, inl, inr}
use Rattle.std.proofs.lemmas.Option.{slice_get_within}
use native.Mathlib.Decide.{ℕ_discrete}
use Rattle.open_graphs.specs.Words.{Verdict, cycle_kind, Node, IsFinished, Walk, stay, go, Path, end, then, Avoids}
use Rattle.open_graphs.specs.Words.{Entry, IsLeaf, Accepts, path_kind, path_through, Step, Heads, Recorded, Use}
use Rattle.open_graphs.specs.Words.{HeadsWithin, ProvisionalUse, IncludesBelow, KeepsCycleKinds, TakesOver, Unreached}
use Rattle.list_lemmas.proofs.Lists.{get_left, get_end}
use Rattle.open_graphs.proofs.PathKinds.{path_kind_below, through_top, through_popped}
use Rattle.open_graphs.proofs.Keep.{leaf_cases, recorded_at, accepts_at, heads_below_keep_use, pop_keeps_use}
use Rattle.open_graphs.proofs.Store.{along}

-- a walk after the pop, by whether it comes to the popped node
data Split (old new : ℕ → ℕ → ℕ → Type 0) (popped a q b : ℕ) : Type 0 where
  direct : Walk old a q b → Split old new popped a q b
  through : (p r : ℕ) → Walk old a p popped → Walk new popped r b → q ≡ max p r → Split old new popped a q b

split : (old new : ℕ → ℕ → ℕ → Type 0) (popped : ℕ) → ((b k c : ℕ) → b ≢ popped → new b k c → old b k c) → {a q b : ℕ}
    → Walk new a q b → Split old new popped a q b
split old new popped same stay = direct stay
split old new popped same {b = d} (go {a = a} {k = k} {b = b} {q = q} s w) =
    elim (ℕ_discrete a popped) [
      | yes e ↦ through 0 (max k q) (subst (λ x. Walk old a 0 x) e stay)
          (subst (λ x. Walk new x (max k q) d) e (go s w)) (omega arith)
      | no ne ↦ longer (same a k b ne s) (split old new popped same w)
    ]
  where
    longer : old a k b → Split old new popped b q d → Split old new popped a (max k q) d
    longer s' (direct v) = direct (go s' v)
    longer s' (through p r v x e) = through (max k p) r (go s' v) x (omega arith)

-- the same of a path
data PathSplit (old new : ℕ → ℕ → ℕ → Type 0) (popped a q b : ℕ) (on : List ℕ) : Type 0 where
  direct : Path old a q b on → PathSplit old new popped a q b on
  through : (p r : ℕ) (first second : List ℕ) → Path old a p popped first → Path new popped r b second → q ≡ max p r
      → ((x : ℕ) → Avoids on x → Avoids first x) → PathSplit old new popped a q b on

split_path : (old new : ℕ → ℕ → ℕ → Type 0) (popped : ℕ) → ((b k c : ℕ) → b ≢ popped → new b k c → old b k c)
    → {a q b : ℕ} {on : List ℕ} → Path new a q b on → PathSplit old new popped a q b on
split_path old new popped same end = PathSplit.direct end
split_path old new popped same {b = d} (then {a = a} {k = k} {b = b} {q = q} {on = on} s p avoids) =
    elim (ℕ_discrete a popped) [
      | yes e ↦ PathSplit.through 0 (max k q) (a ∷ []) (a ∷ on) (subst (λ x. Path old a 0 x (a ∷ [])) e end)
          (subst (λ x. Path new x (max k q) d (a ∷ on)) e (then s p avoids)) (omega arith) (λ x h. (h.0, tt))
      | no ne ↦ longer (same a k b ne s) (split_path old new popped same p)
    ]
  where
    longer : old a k b → PathSplit old new popped b q d on → PathSplit old new popped a (max k q) d (a ∷ on)
    longer s' (PathSplit.direct v) = PathSplit.direct (then s' v avoids)
    longer s' (PathSplit.through p' r first second v w e within) = PathSplit.through (max k p') r (a ∷ first) second
        (then s' v (within a avoids)) w (omega arith) (λ x h. (h.0, within x h.1))

module _ (nodes : List Node) (verdict : Verdict) (below : List Entry) (top : Entry)
    (path a : ℕ) (heads top_heads rebased : Heads)
    (top_use : Use nodes verdict below (path_kind below top.step) 0 top.node top_heads)
    (keeps : KeepsCycleKinds below top path heads top_heads) (includes : IncludesBelow (length below) heads rebased)
    (takes : TakesOver (length below) heads top_heads rebased)
    (u : Use nodes verdict (below ++ top ∷ []) (path_kind (below ++ top ∷ []) path) 0 a heads) where
  abbrev stack : List Entry
  stack = below ++ top ∷ []

  abbrev old : ℕ → ℕ → ℕ → Type 0
  old = Step nodes verdict stack

  abbrev new : ℕ → ℕ → ℕ → Type 0
  new = Step nodes verdict below

  elsewhere : (b k c : ℕ) → b ≢ top.node → new b k c → old b k c
  elsewhere b k c ne e = record {
    edge = e.edge;
    inner = λ l. elim (leaf_cases below top b l) [ inl x ↦ e.inner x | inr same ↦ ne (sym same) ];
  }

  split_at_top : {b q c : ℕ} → Walk new b q c → Split old new top.node b q c
  split_at_top w = split old new top.node elsewhere w

  placed : (b q : ℕ) → Split old new top.node a q b → IsLeaf below b ⊎ IsFinished nodes verdict b
  placed b q (direct v) = elim (u.open_graph.placed b q v) [
    | inl l ↦ elim (leaf_cases below top b l) [
      | inl x ↦ inl x
      | inr same ↦
          subst (λ x. IsLeaf below x ⊎ IsFinished nodes verdict x) same (top_use.open_graph.placed top.node 0 stay)
    ]
    | inr f ↦ inr f
  ]
  placed b q (through p r v w e) = top_use.open_graph.placed b r w

  closed_elsewhere : (b q k c r : ℕ) → Walk old a q b → new b k c → old b k c → Walk new c r b
      → Split old new top.node c r b → max k r ≡ cycle_kind verdict
  closed_elsewhere b q k c r v e e' x (direct y) = u.open_graph.closed b q k c r v e' y
  closed_elsewhere b q k c r v e e' x (through p s y z same) = top_use.open_graph.closed b s k c r z e x

  closed : (b q k c r : ℕ) → Split old new top.node a q b → new b k c → Walk new c r b → max k r ≡ cycle_kind verdict
  closed b q k c r (through p s v w same) e x = top_use.open_graph.closed b s k c r w e x
  closed b q k c r (direct v) e x = elim (ℕ_discrete b top.node) [
    | yes same ↦ top_use.open_graph.closed b 0 k c r (subst (λ y. Walk new y 0 b) same stay) e x
    | no ne ↦ closed_elsewhere b q k c r v e (elsewhere b k c ne e) x (split_at_top x)
  ]

  covered : (depth : ℕ) (entry : Entry) (q : ℕ) (on : List ℕ) → slice_get below depth ≡ Some entry
      → PathSplit old new top.node a q entry.node on
      → Recorded rebased depth (max 0 q) (max (max 0 q) (max path (path_kind below top.step depth)))
      × Accepts verdict entry (max (max 0 q) (max path (path_kind below top.step depth)))
  covered depth entry q on at (PathSplit.direct v) =
      let within : depth < length below = slice_get_within below depth entry at in
      let h = u.covered depth entry q on (get_left below (top ∷ []) depth entry at) v in
      let same : max (max 0 q) (path_kind stack path depth)
      ≡ max (max 0 q) (max path (path_kind below top.step depth)) =
      ap (λ x. max (max 0 q) x) (path_kind_below below top path depth within) in (
        recorded_at rebased depth (max 0 q) _ (max 0 q) _ (includes depth _ _ within h.0) refl same,
        accepts_at verdict entry _ _ h.1 same,
      )
  covered depth entry q on at (PathSplit.through p r first second v w e within) =
      let own = u.covered (length below) top p first (get_end below top) v in
      let its = top_use.covered depth entry r second at w in
      let heads_before = keeps depth (max 0 r) (max (max 0 r) (path_kind below top.step depth)) (max 0 p)
      (max (max 0 p) (path_kind stack path (length below))) its.0 own.0 in
      let same : max (max 0 r) (path_kind below top.step depth)
      ≡ max (max 0 q) (max path (path_kind below top.step depth)) = omega arith in (
        recorded_at rebased depth (max (max 0 p) (max 0 r)) (max (max 0 r) (path_kind below top.step depth)) (max 0 q)
            (max (max 0 q) (max path (path_kind below top.step depth)))
            (takes depth (max 0 r) (max (max 0 r) (path_kind below top.step depth)) (max 0 p)
            (max (max 0 p) (path_kind stack path (length below))) its.0 own.0) (omega arith) same,
        accepts_at verdict entry (max (max 0 r) (path_kind below top.step depth))
            (max (max 0 q) (max path (path_kind below top.step depth))) its.1 same,
      )

  pub rebased_use : Use nodes verdict below (λ depth. max path (path_kind below top.step depth)) 0 a rebased
  rebased_use = record {
    open_graph = record {
      placed = λ b q w. placed b q (split_at_top w);
      closed = λ b q k c r w e x. closed b q k c r (split_at_top w) e x;
    };
    covered = λ depth entry q on at w. covered depth entry q on at (split_path old new top.node elsewhere w);
  }

-- a provisional entry with the top as its highest head is used by the path kind through the top
from_top : (nodes : List Node) (verdict : Verdict) (below : List Entry) (top : Entry) (path a : ℕ) (heads : Heads)
    → ProvisionalUse nodes verdict (below ++ top ∷ []) (length below) path a heads
    → Use nodes verdict (below ++ top ∷ []) (path_kind (below ++ top ∷ []) path) 0 a heads
from_top nodes verdict below top path a heads s =
    along nodes verdict (below ++ top ∷ []) (path_through (below ++ top ∷ []) (length below) path)
    (path_kind (below ++ top ∷ []) path) a heads (length below) s.within
    (λ depth h. through_top below top path depth h) s.use_there

stored_below : (nodes : List Node) (verdict : Verdict) (below : List Entry) (top : Entry) (path a : ℕ) (rebased : Heads)
    (highest : ℕ) → highest < length below → HeadsWithin rebased highest
    → Use nodes verdict below (λ depth. max path (path_kind below top.step depth)) 0 a rebased
    → ProvisionalUse nodes verdict below highest (max path (path_kind below top.step highest)) a rebased
stored_below nodes verdict below top path a rebased highest on_stack within u = record {
  on_stack = on_stack;
  within = within;
  use_there = along nodes verdict below (λ depth. max path (path_kind below top.step depth))
      (path_through below highest (max path (path_kind below top.step highest))) a rebased highest within
      (λ depth h. sym (through_popped below top.step path highest depth h)) u;
}

-- When its highest head is popped with an answer of the same verdict, it stays where each cycle through the head keeps
-- its kind. It takes over the heads of the popped one.
pub rebase_keeps_stored :
    (nodes : List Node) (verdict : Verdict) (below : List Entry) (top : Entry) (path a : ℕ)
    (heads top_heads rebased : Heads) (highest : ℕ)
    → Use nodes verdict below (path_kind below top.step) 0 top.node top_heads
    → KeepsCycleKinds below top path heads top_heads → IncludesBelow (length below) heads rebased
    → TakesOver (length below) heads top_heads rebased → highest < length below → HeadsWithin rebased highest
    → ProvisionalUse nodes verdict (below ++ top ∷ []) (length below) path a heads
    → ProvisionalUse nodes verdict below highest (max path (path_kind below top.step highest)) a rebased
rebase_keeps_stored nodes verdict below top path a heads top_heads rebased highest top_use
    keeps includes takes on_stack within s =
    stored_below nodes verdict below top path a rebased highest on_stack within
    (rebased_use nodes verdict below top path a heads top_heads rebased top_use keeps includes takes
    (from_top nodes verdict below top path a heads s))

-- When its highest head is popped, it stays where it doesn't reach that head.
pub unreached_head_keeps_stored :
    (nodes : List Node) (verdict : Verdict) (below : List Entry) (top : Entry) (path a : ℕ) (heads rebased : Heads)
    (highest : ℕ)
    → Unreached nodes verdict (below ++ top ∷ []) a top.node → IncludesBelow (length below) heads rebased
    → highest < length below → HeadsWithin rebased highest
    → ProvisionalUse nodes verdict (below ++ top ∷ []) (length below) path a heads
    → ProvisionalUse nodes verdict below highest (max path (path_kind below top.step highest)) a rebased
unreached_head_keeps_stored nodes verdict below top path a heads rebased highest unreached includes on_stack within s =
    stored_below nodes verdict below top path a rebased highest on_stack within
    (heads_below_keep_use nodes verdict below (path_kind (below ++ top ∷ []) path)
    (λ depth. max path (path_kind below top.step depth)) 0 a heads rebased includes
    (λ depth _ _ lt _. path_kind_below below top path depth lt)
    (pop_keeps_use nodes verdict below top (path_kind (below ++ top ∷ []) path) 0 a heads unreached
    (from_top nodes verdict below top path a heads s)))
