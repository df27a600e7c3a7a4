-- Paths, which come to no node twice: a walk is a path and closed walks.
use Rattle.std.proofs.Common.{◌≡◌, ◌≢◌, ℕ, max, ◌≤◌, List, [], ◌∷◌, Some, slice_get, arith, subst}
use native.Mathlib.Decide.{ℕ_discrete}
use Rattle.open_graphs.specs.Words.{Verdict, cycle_kind, Node, Walk, stay, go, Path, end, then, Avoids, Entry, Accepts}
use Rattle.open_graphs.specs.Words.{Step, Heads, Recorded, Use}
use Rattle.open_graphs.proofs.Walks.{then_step}

pub to_walk : (step : ℕ → ℕ → ℕ → Type 0) {a q b : ℕ} {on : List ℕ} → Path step a q b on → Walk step a q b
to_walk step end = stay
to_walk step (then s p new) = go s (to_walk step p)

-- a path by whether it comes to a node
data Cut (step : ℕ → ℕ → ℕ → Type 0) (b q c : ℕ) (on : List ℕ) (a : ℕ) : Type 0 where
  past : Avoids on a → Cut step b q c on a
  meets : (p r : ℕ) (rest : List ℕ) → Walk step b p a → Path step a r c rest → q ≡ max p r → Cut step b q c on a

cut : (step : ℕ → ℕ → ℕ → Type 0) {b q c : ℕ} {on : List ℕ} (a : ℕ) → Path step b q c on → Cut step b q c on a
cut step a (end {a = b}) = elim (ℕ_discrete b a) [
  | yes e ↦ meets 0 0 (b ∷ []) (subst (λ x. Walk step b 0 x) e stay)
      (subst (λ x. Path step x 0 b (b ∷ [])) e end) (omega arith)
  | no d ↦ past (d, tt)
]
cut step {c = c} a (then {a = b} {k = k} {b = b'} {q = q} {on = on} s p new) = elim (ℕ_discrete b a) [
  | yes e ↦ meets 0 (max k q) (b ∷ on) (subst (λ x. Walk step b 0 x) e stay)
      (subst (λ x. Path step x (max k q) c (b ∷ on)) e (then s p new)) (omega arith)
  | no d ↦ longer d (cut step a p)
]
  where
    longer : b ≢ a → Cut step b' q c on a → Cut step b (max k q) c (b ∷ on) a
    longer d (past h) = past (d, h)
    longer d (meets p' r rest v w e) = meets (max k p') r rest (go s v) w (omega arith)

-- a path from which a walk differs at most by closed walks of the kind `cycle`
pub record Erased (step : ℕ → ℕ → ℕ → Type 0) (cycle a q b : ℕ) : Type 0 where
  pub kind : ℕ
  pub on : List ℕ
  pub path : Path step a kind b on
  pub above : kind ≤ q
  pub below : q ≤ max kind cycle

pub erase : (step : ℕ → ℕ → ℕ → Type 0) (cycle : ℕ) {a q b : ℕ}
    → ((x p k c r : ℕ) → Walk step a p x → step x k c → Walk step c r x → max k r ≡ cycle)
    → Walk step a q b → Erased step cycle a q b
erase step cycle {a} closed stay =
    record { kind = 0; on = a ∷ []; path = end; above = omega arith; below = omega arith }
erase step cycle {b = c} closed (go {a = a} {k = k} {b = b} {q = q} s w) =
    shorten (erase step cycle (λ x p k' d r v e y. closed x (max k p) k' d r (go s v) e y) w)
  where
    choose : (h : Erased step cycle b q c) → Cut step b h.kind c h.on a → Erased step cycle a (max k q) c
    choose h (past new) = let lo = h.above in let hi = h.below in record {
      kind = max k h.kind;
      on = a ∷ h.on;
      path = then s h.path new;
      above = omega arith;
      below = omega arith;
    }
    choose h (meets p r rest v u e) =
        let lo = h.above in let hi = h.below in
        let round : max k p ≡ cycle = closed a 0 k b p stay s v in
        record { kind = r; on = rest; path = u; above = omega arith; below = omega arith }

    shorten : Erased step cycle b q c → Erased step cycle a (max k q) c
    shorten h = choose h (cut step a h.path)

-- carrying a path from one relation to another
pub carried_path : (old new : ℕ → ℕ → ℕ → Type 0) (a : ℕ) → ((b q k c : ℕ) → Walk old a q b → new b k c → old b k c)
    → {b q c : ℕ} {on : List ℕ} (p : ℕ) → Walk old a p b → Path new b q c on → Path old b q c on
carried_path old new a back p v end = end
carried_path old new a back p v (then {a = b} {k = k} {b = b'} s rest avoids) =
    let s' : old b k b' = back b p k b' v s in
    then s' (carried_path old new a back (max p k) (then_step old v s') rest) avoids

-- carrying a path that avoids a node
pub carried_past : (old new : ℕ → ℕ → ℕ → Type 0) (n a : ℕ)
    → ((b q k c : ℕ) → Walk old a q b → b ≢ n → new b k c → old b k c) → {b q c : ℕ} {on : List ℕ} (p : ℕ) → Avoids on n
    → Walk old a p b → Path new b q c on → Path old b q c on
carried_past old new n a back p past_n v end = end
carried_past old new n a back p past_n v (then {a = b} {k = k} {b = b'} s rest avoids) =
    let s' : old b k b' = back b p k b' v past_n.0 s in
    then s' (carried_past old new n a back (max p k) past_n.1 (then_step old v s') rest) avoids

-- A walk of kind `q` to the node of an entry is covered by a path from which it differs at most by closed walks.
pub record Covered (verdict : Verdict) (heads : Heads) (entry : Entry) (depth before from_head q : ℕ) : Type 0 where
  pub path : ℕ
  pub above : path ≤ q
  pub below : q ≤ max path (cycle_kind verdict)
  pub recorded : Recorded heads depth (max before path) (max (max before path) from_head)
  pub accepted : Accepts verdict entry (max (max before path) from_head)

pub covered_walk : (nodes : List Node) (verdict : Verdict) (stack : List Entry) (from_head : ℕ → ℕ) (before a : ℕ)
    (heads : Heads) → Use nodes verdict stack from_head before a heads → (depth : ℕ) (entry : Entry) (q : ℕ)
    → slice_get stack depth ≡ Some entry → Walk (Step nodes verdict stack) a q entry.node
    → Covered verdict heads entry depth before (from_head depth) q
covered_walk nodes verdict stack from_head before a heads u depth entry q at w =
    let e = erase (Step nodes verdict stack) (cycle_kind verdict) u.open_graph.closed w in
    let h = u.covered depth entry e.kind e.on at e.path in
    record { path = e.kind; above = e.above; below = e.below; recorded = h.0; accepted = h.1 }
