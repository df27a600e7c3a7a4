-- The end of a run: its node gets its edges.
use Rattle.std.proofs.Common.{◌≡◌, ◌≢◌, ℕ, max, ◌<◌, List, [], ◌∷◌, ◌++◌, Some, length, slice_get, slice_set, arith}
use Rattle.std.proofs.Common.{refl, sym, subst, ◌∙◌, ◌⊎◌, inl, inr}
use Rattle.std.proofs.lemmas.Option.{slice_get_within}
use Rattle.open_graphs.specs.Words.{Verdict, cycle_kind, Edge, Node, Unfinished, Finished, IsFinished, Walk, stay, Path}
use Rattle.open_graphs.specs.Words.{end, then, Avoids, Entry, IsLeaf, Accepts, path_kind, Step, Heads, Recorded, Use}
use Rattle.open_graphs.specs.Words.{IsRunsNode, AllAnswered}
use Rattle.list_lemmas.proofs.Lists.{get_left, get_end, get_set_other, get_set_same}
use Rattle.open_graphs.proofs.Walks.{closed_walk, placed_walk}
use Rattle.open_graphs.proofs.Paths.{Covered, covered_walk, carried_past}
use Rattle.open_graphs.proofs.PathKinds.{path_kind_below, path_kind_top}
use Rattle.open_graphs.proofs.Keep.{leaf_cases, recorded_at, accepts_at}

module _ (nodes : List Node) (verdict : Verdict) (below : List Entry) (top : Entry)
    (n : ℕ) (edges : List Edge) (heads : Heads)
    (unfinished : slice_get nodes n ≡ Some Unfinished) (lower : ¬ IsLeaf below n) (run : IsRunsNode verdict top n)
    (answered : AllAnswered nodes verdict below top edges heads) where
  abbrev stack : List Entry
  stack = below ++ top ∷ []

  abbrev later : List Node
  later = slice_set nodes n (Finished verdict edges)

  abbrev old : ℕ → ℕ → ℕ → Type 0
  old = Step nodes verdict stack

  abbrev new : ℕ → ℕ → ℕ → Type 0
  new = Step later verdict below

  abbrev out : ℕ → ℕ → Type 0
  out k b = (i : ℕ) × (slice_get edges i ≡ Some (record { kind = k; target = b }))

  at_n : slice_get later n ≡ Some (Finished verdict edges)
  at_n = get_set_same nodes n Unfinished (Finished verdict edges) unfinished

  at_other : (b : ℕ) → b ≢ n → slice_get later b ≡ slice_get nodes b
  at_other b d = get_set_other nodes n (Finished verdict edges) b d

  from_new : (k b : ℕ) → new n k b → out k b
  from_new k b e =
      let now = e.edge.finished in let here = at_n in
      let same : e.edge.edges ≡ edges = cc in
      (e.edge.index, subst (λ x. slice_get x e.edge.index ≡ Some (record { kind = k; target = b })) same e.edge.edge)

  reach : (k a q : ℕ) (o : out k a) → Walk old a q top.node
      → Covered verdict (answered o.0 (record { kind = k; target = a }) o.1).answer top (length below) k
      (path_kind stack k (length below)) q
  reach k a q o w = let it = answered o.0 (record { kind = k; target = a }) o.1 in covered_walk nodes verdict stack
      (path_kind stack k) k a it.answer it.used (length below) top q (get_end below top) w

  -- the cycles that lead to the top lead to the new node
  top_is_n : (k a q : ℕ) → out k a → Walk old a q top.node → top.node ≡ n
  top_is_n k a q o w = elim run [
    | inl first ↦ first.0
    | inr other ↦ let h = reach k a q o w in
        elim h.accepted [ inl e ↦ absurd (other.2 e) | inr e ↦ absurd (other.1 e.0) ]
  ]

  no_leaf : (k a q b : ℕ) → out k a → Walk old a q b → b ≢ n → ¬ IsLeaf below b → ¬ IsLeaf stack b
  no_leaf k a q b o w d l l' = elim (leaf_cases below top b l') [
    | inl x ↦ l x
    | inr e ↦ d (sym e ∙ top_is_n k a q o (subst (λ x. Walk old a q x) (sym e) w))
  ]

  elsewhere : (k a q b r c : ℕ) → out k a → Walk old a q b → b ≢ n → new b r c → old b r c
  elsewhere k a q b r c o w d e = record {
    edge = record {
      edges = e.edge.edges;
      index = e.edge.index;
      finished = sym (at_other b d) ∙ e.edge.finished;
      edge = e.edge.edge;
    };
    inner = no_leaf k a q b o w d e.inner;
  }

  segment : (k a q : ℕ) → out k a → Walk old a q n → max k q ≡ cycle_kind verdict
  segment k a q o w =
      let u = (answered o.0 (record { kind = k; target = a }) o.1).used in
      elim run [
        | inl first ↦
            let h = reach k a q o (subst (λ x. Walk old a q x) (sym first.0) w) in
            let e : path_kind stack k (length below) ≡ k = path_kind_top below top k in
            let lo = h.above in let hi = h.below in
            elim h.accepted [
              | inl same ↦ absurd (let none = first.1 in cc)
              | inr same ↦ let e' = same.1 in omega arith
            ]
        | inr other ↦ elim (u.open_graph.placed n q w) [
          | inl l ↦ elim (leaf_cases below top n l) [ inl x ↦ absurd (lower x) | inr e ↦ absurd (other.0 e) ]
          | inr f ↦ let e = f.1 in absurd (cc)
        ]
      ]

  old_closed : (k a q b r c s : ℕ) → out k a → Walk old a q b → old b r c
      → Walk old c s b → max r s ≡ cycle_kind verdict
  old_closed k a q b r c s o w e x =
      (answered o.0 (record { kind = k; target = a }) o.1).used.open_graph.closed b q r c s w e x

  placed : (k a q b : ℕ) → out k a → Walk old a q b → b ≢ n → IsLeaf below b ⊎ IsFinished later verdict b
  placed k a q b o w d = elim ((answered o.0 (record { kind = k; target = a }) o.1).used.open_graph.placed b q w) [
    | inl l ↦ elim (leaf_cases below top b l) [
      | inl x ↦ inl x
      | inr e ↦ absurd (d (sym e ∙ top_is_n k a q o (subst (λ x. Walk old a q x) (sym e) w)))
    ]
    | inr f ↦ inr (f.0, at_other b d ∙ f.1)
  ]

  -- a path from the new node goes on by a path of the old steps from the target of an edge
  covered : (depth : ℕ) (entry : Entry) {q a : ℕ} {on : List ℕ} → slice_get below depth ≡ Some entry → a ≡ n
      → Path new a q entry.node on → Recorded heads depth (max 0 q) (max (max 0 q) (path_kind below top.step depth))
      × Accepts verdict entry (max (max 0 q) (path_kind below top.step depth))
  covered depth entry at e end = absurd (lower (depth, entry, at, e))
  covered depth entry at e (then {a = a} {k = k} {b = b} {q = q} {on = on} s p avoids) =
      let o : out k b = from_new k b (subst (λ x. new x k b) e s) in
      let it = answered o.0 (record { kind = k; target = b }) o.1 in
      let within : depth < length below = slice_get_within below depth entry at in
      let p' = carried_past old new n b (λ c r k' d w ne s'. elsewhere k b r c k' d o w ne s') 0
      (subst (λ x. Avoids on x) e avoids) stay p in
      let h = it.used.covered depth entry q on (get_left below (top ∷ []) depth entry at) p' in
      let same : path_kind stack k depth ≡ max k (path_kind below top.step depth) =
      path_kind_below below top k depth within in
      let same' : max (max k q) (path_kind stack k depth) ≡ max (max 0 (max k q)) (path_kind below top.step depth) =
      omega arith in (
        recorded_at heads depth (max k q) (max (max k q) (path_kind stack k depth)) (max 0 (max k q))
            (max (max 0 (max k q)) (path_kind below top.step depth))
            (it.among depth (max k q) (max (max k q) (path_kind stack k depth)) within h.0) (omega arith) same',
        accepts_at verdict entry (max (max k q) (path_kind stack k depth))
            (max (max 0 (max k q)) (path_kind below top.step depth)) h.1 same',
      )

  -- A run of the top entry ended with a verdict. Its node gets an edge for each answer of the verdict, and may then be
  -- used below the entry.
  pub finish_gives_use : Use later verdict below (path_kind below top.step) 0 n heads
  finish_gives_use = record {
    open_graph = record {
      placed = λ b q w. placed_walk old new out n (cycle_kind verdict) from_new elsewhere segment old_closed
          (λ b. IsLeaf below b ⊎ IsFinished later verdict b) (inr (edges, at_n)) placed b q w;
      closed = closed_walk old new out n (cycle_kind verdict) from_new elsewhere segment old_closed;
    };
    covered = λ depth entry q on at w. covered depth entry at refl w;
  }
