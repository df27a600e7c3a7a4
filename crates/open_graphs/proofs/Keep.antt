-- An answer may still be used after growth of the list, more heads, pushes, and pops and reruns of
-- what it doesn't reach.
use Rattle.std.proofs.Common.{◌≡◌, ℕ, max, List, [], ◌∷◌, ◌++◌, Some, length, slice_get, refl, ap, sym, subst, ◌∙◌, ◌⊎◌}
use Rattle.std.proofs.Common.{inl, inr, None, slice_set, ◌≢◌, ◌<◌}
use native.Mathlib.Decide.{ℕ_discrete}
use Rattle.std.proofs.lemmas.Option.{slice_get_within}
use Rattle.open_graphs.specs.Words.{Verdict, cycle_kind, Node, Unfinished, Finished, IsFinished, HasShapeEdge, Walk}
use Rattle.open_graphs.specs.Words.{Grown, Entry, IsLeaf, Accepts, Step, OpenGraph, Heads, Recorded, Use, Unreached}
use Rattle.open_graphs.specs.Words.{Includes, IncludesBelow, IsSameOrFresh, UsesNo}
use Rattle.list_lemmas.proofs.Lists.{get_left, get_end, get_cases, get_set_other}
use Rattle.open_graphs.proofs.Paths.{covered_walk}
use Rattle.open_graphs.proofs.Transfer.{same_walk, transfer_use}

-- An unfinished node is appended: the list has grown.
pub append_grows : (nodes : List Node) → Grown nodes (nodes ++ Unfinished ∷ [])
append_grows nodes a verdict edges e = get_left nodes (Unfinished ∷ []) a (Finished verdict edges) e

-- An unfinished node is finished: the list has grown.
pub finish_grows :
    (nodes : List Node) (n : ℕ) (node : Node)
    → slice_get nodes n ≡ Some Unfinished → Grown nodes (slice_set nodes n node)
finish_grows nodes n node unfinished a verdict edges e = elim (ℕ_discrete a n) [
  | yes same ↦ let e' : slice_get nodes n ≡ Some (Finished verdict edges) =
      subst (λ x. slice_get nodes x ≡ Some (Finished verdict edges)) same e in absurd (cc)
  | no d ↦ get_set_other nodes n node a d ∙ e
]

-- an edge of a node that was finished before was its edge before
pub edge_before : (before after : List Node) (verdict : Verdict) (b k c : ℕ) → Grown before after
    → IsFinished before verdict b → HasShapeEdge after verdict b k c → HasShapeEdge before verdict b k c
edge_before before after verdict b k c grown f e =
    let then = grown b verdict f.0 f.1 in
    let now = e.finished in
    let same : e.edges ≡ f.0 = cc in
    record {
      edges = e.edges;
      index = e.index;
      finished = f.1 ∙ ap (λ x. Some (Finished verdict x)) (sym same);
      edge = e.edge;
    }

module _ (before after : List Node) (verdict : Verdict) (stack : List Entry) (a : ℕ) (grown : Grown before after)
    (s : OpenGraph before verdict stack a) where
  pub growth_back : (b q k c : ℕ) → Walk (Step before verdict stack) a q b
      → Step after verdict stack b k c → Step before verdict stack b k c
  growth_back b q k c w e = elim (s.placed b q w) [
    | inl l ↦ absurd (e.inner l)
    | inr f ↦ record { edge = edge_before before after verdict b k c grown f e.edge; inner = e.inner }
  ]

  pub growth_place : (b q : ℕ) → Walk (Step before verdict stack) a q b → IsLeaf stack b ⊎ IsFinished before verdict b
      → IsLeaf stack b ⊎ IsFinished after verdict b
  growth_place b q w p = elim p [ inl l ↦ inl l | inr f ↦ inr (f.0, grown b verdict f.0 f.1) ]

-- A use stays while the list grows.
pub growth_keeps_use :
    (before after : List Node) (verdict : Verdict) (stack : List Entry) (from_head : ℕ → ℕ) (front a : ℕ)
    (heads : Heads)
    → Grown before after → Use before verdict stack from_head front a heads
    → Use after verdict stack from_head front a heads
growth_keeps_use before after verdict stack from_head front a heads grown u =
    transfer_use before after verdict stack stack a (growth_back before after verdict stack a grown u.open_graph)
    (growth_place before after verdict stack a grown u.open_graph) from_head front heads (λ depth entry q at w. at) u

pub recorded_at : (heads : Heads) (depth p c p' c' : ℕ) → Recorded heads depth p c → p ≡ p'
    → c ≡ c' → Recorded heads depth p' c'
recorded_at heads depth p c p' c' h e e' =
    subst (λ x. Recorded heads depth x c') e (subst (λ x. Recorded heads depth p x) e' h)

pub accepts_at : (verdict : Verdict) (entry : Entry) (c c' : ℕ)
    → Accepts verdict entry c → c ≡ c' → Accepts verdict entry c'
accepts_at verdict entry c c' h e = subst (λ x. Accepts verdict entry x) e h

-- It stays under more heads, and where the path kind from each recorded head is the same. What counts of heads is what
-- is recorded below the end of the stack.
pub heads_below_keep_use :
    (nodes : List Node) (verdict : Verdict) (stack : List Entry) (from_head other : ℕ → ℕ) (front a : ℕ)
    (heads more : Heads)
    → IncludesBelow (length stack) heads more
    → ((depth path cycle : ℕ) → depth < length stack → Recorded heads depth path cycle → from_head depth ≡ other depth)
    → Use nodes verdict stack from_head front a heads → Use nodes verdict stack other front a more
heads_below_keep_use nodes verdict stack from_head other front a heads more includes same u = record {
  open_graph = u.open_graph;
  covered = λ depth entry q on at w.
      let within : depth < length stack = slice_get_within stack depth entry at in
      let h = u.covered depth entry q on at w in
      let e : max (max front q) (from_head depth) ≡ max (max front q) (other depth) =
      ap (λ x. max (max front q) x) (same depth _ _ within h.0) in (
        recorded_at more depth (max front q) _ (max front q) _ (includes depth _ _ within h.0) refl e,
        accepts_at verdict entry _ _ h.1 e,
      );
}

pub heads_keep_use :
    (nodes : List Node) (verdict : Verdict) (stack : List Entry) (from_head other : ℕ → ℕ) (front a : ℕ)
    (heads more : Heads)
    → Includes heads more → ((depth path cycle : ℕ) → Recorded heads depth path cycle → from_head depth ≡ other depth)
    → Use nodes verdict stack from_head front a heads → Use nodes verdict stack other front a more
heads_keep_use nodes verdict stack from_head other front a heads more includes same u =
    heads_below_keep_use nodes verdict stack from_head other front a heads more
    (λ depth path cycle lt h. includes depth path cycle h) (λ depth path cycle lt h. same depth path cycle h) u

pub leaf_left : (stack : List Entry) (top : Entry) (b : ℕ) → IsLeaf stack b → IsLeaf (stack ++ top ∷ []) b
leaf_left stack top b l = (l.0, l.1, get_left stack (top ∷ []) l.0 l.1 l.2, l.3)

pub leaf_cases : (below : List Entry) (top : Entry) (b : ℕ)
    → IsLeaf (below ++ top ∷ []) b → IsLeaf below b ⊎ (top.node ≡ b)
leaf_cases below top b l = elim (get_cases below top l.0 l.1 l.2) [
  | inl at ↦ inl (l.0, l.1, at, l.3)
  | inr e ↦ inr (ap (λ x. x.node) e.1 ∙ l.3)
]

module _ (nodes : List Node) (verdict : Verdict) (stack : List Entry) (entry : Entry) (a : ℕ) where
  push_back : (b q k c : ℕ) → Walk (Step nodes verdict stack) a q b
      → Step nodes verdict (stack ++ entry ∷ []) b k c → Step nodes verdict stack b k c
  push_back b q k c w e = record { edge = e.edge; inner = λ l. e.inner (leaf_left stack entry b l) }

  push_place : (b q : ℕ) → Walk (Step nodes verdict stack) a q b → IsLeaf stack b ⊎ IsFinished nodes verdict b
      → IsLeaf (stack ++ entry ∷ []) b ⊎ IsFinished nodes verdict b
  push_place b q w p = elim p [ inl l ↦ inl (leaf_left stack entry b l) | inr f ↦ inr f ]

  pub push_unreached : (from_head : ℕ → ℕ) (front : ℕ) (heads : Heads) → Unreached nodes verdict stack a entry.node
      → Use nodes verdict stack from_head front a heads
      → Use nodes verdict (stack ++ entry ∷ []) from_head front a heads
  push_unreached from_head front heads un u =
      transfer_use nodes nodes verdict stack (stack ++ entry ∷ []) a push_back push_place from_head front heads
      (λ depth e q at w. elim (get_cases stack entry depth e at) [
        | inl at' ↦ at'
        | inr h ↦ absurd (un q (subst (λ x. Walk (Step nodes verdict stack) a q x.node) (sym h.1) w))
      ])
      u

-- an open graph reaches no unfinished node but leaves
pub fresh_unreached : (nodes : List Node) (verdict : Verdict) (stack : List Entry) (a b : ℕ)
    → OpenGraph nodes verdict stack a → slice_get nodes b ≡ Some Unfinished
    → ¬ IsLeaf stack b → Unreached nodes verdict stack a b
fresh_unreached nodes verdict stack a b s unfinished ne q w = elim (s.placed b q w) [
  | inl l ↦ ne l
  | inr f ↦ let e = f.1 in absurd (cc)
]

-- It stays when an entry with a fresh node is pushed.
pub push_keeps_use :
    (nodes : List Node) (verdict : Verdict) (stack : List Entry) (entry : Entry) (from_head : ℕ → ℕ) (front a : ℕ)
    (heads : Heads)
    → slice_get nodes entry.node ≡ Some Unfinished → ¬ IsLeaf stack entry.node
    → Use nodes verdict stack from_head front a heads
    → Use nodes verdict (stack ++ entry ∷ []) from_head front a heads
push_keeps_use nodes verdict stack entry from_head front a heads unfinished ne u =
    push_unreached nodes verdict stack entry a from_head front heads
    (fresh_unreached nodes verdict stack a entry.node u.open_graph unfinished ne) u

module _ (nodes : List Node) (verdict : Verdict) (below : List Entry) (top : Entry) (a : ℕ)
    (un : Unreached nodes verdict (below ++ top ∷ []) a top.node) where
  pub pop_back : (b q k c : ℕ) → Walk (Step nodes verdict (below ++ top ∷ [])) a q b → Step nodes verdict below b k c
      → Step nodes verdict (below ++ top ∷ []) b k c
  pop_back b q k c w e = record {
    edge = e.edge;
    inner = λ l. elim (leaf_cases below top b l) [
      | inl l' ↦ e.inner l'
      | inr same ↦ un q (subst (λ x. Walk (Step nodes verdict (below ++ top ∷ [])) a q x) (sym same) w)
    ];
  }

  pub pop_place : (b q : ℕ) → Walk (Step nodes verdict (below ++ top ∷ [])) a q b
      → IsLeaf (below ++ top ∷ []) b ⊎ IsFinished nodes verdict b → IsLeaf below b ⊎ IsFinished nodes verdict b
  pop_place b q w p = elim p [
    | inl l ↦ elim (leaf_cases below top b l) [
      | inl l' ↦ inl l'
      | inr same ↦ absurd (un q (subst (λ x. Walk (Step nodes verdict (below ++ top ∷ [])) a q x) (sym same) w))
    ]
    | inr f ↦ inr f
  ]

-- It stays when an entry is popped that it doesn't reach.
pub pop_keeps_use :
    (nodes : List Node) (verdict : Verdict) (below : List Entry) (top : Entry) (from_head : ℕ → ℕ) (front a : ℕ)
    (heads : Heads)
    → Unreached nodes verdict (below ++ top ∷ []) a top.node
    → Use nodes verdict (below ++ top ∷ []) from_head front a heads → Use nodes verdict below from_head front a heads
pop_keeps_use nodes verdict below top from_head front a heads un u =
    transfer_use nodes nodes verdict (below ++ top ∷ []) below a (pop_back nodes verdict below top a un)
    (pop_place nodes verdict below top a un) from_head front heads
    (λ depth e q at w. get_left below (top ∷ []) depth e at) u

-- It stays when such an entry is run again, with another provisional result and perhaps a fresh node.
pub rerun_keeps_use :
    (nodes : List Node) (verdict : Verdict) (below : List Entry) (top again : Entry) (from_head : ℕ → ℕ) (front a : ℕ)
    (heads : Heads)
    → IsSameOrFresh nodes below top again → Unreached nodes verdict (below ++ top ∷ []) a top.node
    → Use nodes verdict (below ++ top ∷ []) from_head front a heads
    → Use nodes verdict (below ++ again ∷ []) from_head front a heads
rerun_keeps_use nodes verdict below top again from_head front a heads new un u =
    let v = pop_keeps_use nodes verdict below top from_head front a heads un u in
    let back = pop_back nodes verdict below top a un in
    let place = pop_place nodes verdict below top a un in
    push_unreached nodes verdict below again a from_head front heads
    (elim new [
      | inl same ↦ λ q w. un q (same_walk nodes nodes verdict (below ++ top ∷ []) below a back place
          (subst (λ x. Walk (Step nodes verdict below) a q x) same w))
      | inr h ↦ fresh_unreached nodes verdict below a again.node v.open_graph h.0 h.1
    ])
    v

-- An entry isn't reached by what records no usage of it.
pub unused_is_unreached :
    (nodes : List Node) (verdict : Verdict) (below : List Entry) (top : Entry) (from_head : ℕ → ℕ) (front a : ℕ)
    (heads : Heads)
    → UsesNo heads (length below) → Use nodes verdict (below ++ top ∷ []) from_head front a heads
    → Unreached nodes verdict (below ++ top ∷ []) a top.node
unused_is_unreached nodes verdict below top from_head front a heads unused u q w =
    let h = covered_walk nodes verdict (below ++ top ∷ []) from_head front a heads u
    (length below) top q (get_end below top) w in
    unused _ _ h.recorded

-- Nor is it reached where its cycles were answered with another verdict: its provisional result has another one, or all
-- recorded usages of its first run are of a kind that gives another one.
pub other_is_unreached :
    (nodes : List Node) (verdict : Verdict) (below : List Entry) (top : Entry) (from_head : ℕ → ℕ) (front a : ℕ)
    (heads : Heads)
    → (top.provisional ≢ Some verdict)
    → (top.provisional ≡ None → (path : ℕ) → Recorded heads (length below) path (cycle_kind verdict) → ⊥)
    → Use nodes verdict (below ++ top ∷ []) from_head front a heads
    → Unreached nodes verdict (below ++ top ∷ []) a top.node
other_is_unreached nodes verdict below top from_head front a heads other first u q w =
    let h = covered_walk nodes verdict (below ++ top ∷ []) from_head front a heads u
    (length below) top q (get_end below top) w in
    elim h.accepted [
      | inl e ↦ other e
      | inr e ↦ first e.0 (max front h.path)
          (recorded_at heads (length below) _ _ (max front h.path) (cycle_kind verdict) h.recorded refl e.1)
    ]
