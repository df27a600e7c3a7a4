-- Walks over a relation: joining them, carrying them from one relation to another, and adding one node.
use Rattle.std.proofs.Common.{◌≡◌, ◌≢◌, ℕ, zero, max, ◌≤◌, arith, subst, sym, refl}
use native.Mathlib.Decide.{ℕ_discrete}
use Rattle.open_graphs.specs.Words.{Walk, stay, go}

pub of_kind : (step : ℕ → ℕ → ℕ → Type 0) {a q b : ℕ} (r : ℕ) → Walk step a q b → q ≡ r → Walk step a r b
of_kind step {a} {q} {b} r w e = subst (λ k. Walk step a k b) e w

pub join : (step : ℕ → ℕ → ℕ → Type 0) {a q b r c : ℕ} → Walk step a q b → Walk step b r c → Walk step a (max q r) c
join step {r = r} stay w = of_kind step (max zero r) w (omega arith)
join step {r = r} (go {k = k} {q = q} s v) w = of_kind step (max (max k q) r) (go s (join step v w)) (omega arith)

pub then_step : (step : ℕ → ℕ → ℕ → Type 0) {a q b k c : ℕ} → Walk step a q b → step b k c → Walk step a (max q k) c
then_step step {q = q} {k = k} w s = of_kind step (max q k) (join step w (go s stay)) (omega arith)

pub carried : (old new : ℕ → ℕ → ℕ → Type 0) (Known : ℕ → Type 0) → ((b k c : ℕ) → Known b → new b k c → old b k c)
    → ((b k c : ℕ) → Known b → old b k c → Known c) → {a q b : ℕ} → Known a → Walk new a q b → Walk old a q b
carried old new Known back next known stay = stay
carried old new Known back next {a} known (go {k = k} {b = b} s w) =
    go (back a k b known s) (carried old new Known back next (next a k b known (back a k b known s)) w)

-- a walk of the new relation from what the old one reaches from `a` is one of the old
pub carried_on : (old new : ℕ → ℕ → ℕ → Type 0) (a : ℕ) → ((b q k c : ℕ) → Walk old a q b → new b k c → old b k c)
    → {p b q c : ℕ} → Walk old a p b → Walk new b q c → Walk old b q c
carried_on old new a back {p} v w = carried old new (λ b. (q : ℕ) × Walk old a q b) (λ b k c h s. back b h.0 k c h.1 s)
    (λ b k c h s. (max h.0 k, then_step old h.1 s)) (p, v) w

-- a node that is reached from the target of an edge of the new node
pub record Behind (old : ℕ → ℕ → ℕ → Type 0) (out : ℕ → ℕ → Type 0) (b : ℕ) : Type 0 where
  pub kind : ℕ
  pub target : ℕ
  pub rest : ℕ
  pub edge : out kind target
  pub walk : Walk old target rest b

-- a walk from `a`, by whether it comes through the new node `n`: then its last part leaves `n` by an edge, and the
-- closed walks at `n` before it have the kind `cycle`
pub data Parts (old : ℕ → ℕ → ℕ → Type 0) (out : ℕ → ℕ → Type 0) (n cycle a q b : ℕ) : Type 0 where
  direct : Walk old a q b → Parts old out n cycle a q b
  through : (p k t r : ℕ) → Walk old a p n → out k t → Walk old t r b → max p (max k r) ≤ q
      → q ≤ max cycle (max p (max k r)) → Parts old out n cycle a q b

-- the last part of a walk from `n`
pub record Last (old : ℕ → ℕ → ℕ → Type 0) (out : ℕ → ℕ → Type 0) (cycle q b : ℕ) : Type 0 where
  pub kind : ℕ
  pub target : ℕ
  pub rest : ℕ
  pub edge : out kind target
  pub walk : Walk old target rest b
  pub above : max kind rest ≤ q
  pub below : q ≤ max cycle (max kind rest)

-- a new node `n` with the edges `out`, whose walks back to `n` by old steps have the kind `cycle`
module _ (old new : ℕ → ℕ → ℕ → Type 0) (out : ℕ → ℕ → Type 0) (n cycle : ℕ)
    (from_new : (k b : ℕ) → new n k b → out k b)
    (elsewhere : (k a q b r c : ℕ) → out k a → Walk old a q b → b ≢ n → new b r c → old b r c)
    (segment : (k a q : ℕ) → out k a → Walk old a q n → max k q ≡ cycle) where
  starts : {k b : ℕ} → out k b → Behind old out b
  starts {k} {b} o = record { kind = k; target = b; rest = 0; edge = o; walk = stay }

  goes_on : {b k c : ℕ} → Behind old out b → old b k c → Behind old out c
  goes_on {b} {k} {c} h s =
      record { kind = h.kind; target = h.target; rest = max h.rest k; edge = h.edge; walk = then_step old h.walk s }

  after_edge : (k a q b : ℕ) → out k a → Parts old out n cycle a q b → Last old out cycle (max k q) b
  after_edge k a q b o (direct w) =
      record { kind = k; target = a; rest = q; edge = o; walk = w; above = omega arith; below = omega arith }
  after_edge k a q b o (through p k' t r v o' w lo hi) =
      let e : max k p ≡ cycle = segment k a p o v in
      record { kind = k'; target = t; rest = r; edge = o'; walk = w; above = omega arith; below = omega arith }

  after_step : (a k b q c : ℕ) → old a k b → Parts old out n cycle b q c → Parts old out n cycle a (max k q) c
  after_step a k b q c s (direct w) = direct (go s w)
  after_step a k b q c s (through p k' t r v o w lo hi) =
      through (max k p) k' t r (go s v) o w (omega arith) (omega arith)

  at_node : (q b : ℕ) → Last old out cycle q b → Parts old out n cycle n q b
  at_node q b h = let lo : max h.kind h.rest ≤ q = h.above in let hi : q ≤ max cycle (max h.kind h.rest) = h.below in
      through 0 h.kind h.target h.rest stay h.edge h.walk (omega arith) (omega arith)

  pub parts : {a q b : ℕ} → Behind old out a → Walk new a q b → Parts old out n cycle a q b
  parts h stay = direct stay
  parts {b = c} h (go {a = a} {k = k} {b = b} {q = q} s w) =
      elim (ℕ_discrete a n) [
        | yes e ↦ let o : out k b = from_new k b (subst (λ x. new x k b) e s) in
            subst (λ x. Parts old out n cycle x (max k q) c) (sym e)
            (at_node (max k q) c (after_edge k b q c o (parts (starts o) w)))
        | no d ↦ let s' : old a k b = elsewhere h.kind h.target h.rest a k b h.edge h.walk d s in
            after_step a k b q c s' (parts (goes_on h s') w)
      ]

  pub from_node : {q b : ℕ} → b ≢ n → Walk new n q b → Last old out cycle q b
  from_node ne stay = absurd (ne refl)
  from_node {b = c} ne (go {k = k} {b = b} {q = q} s w) =
      let o : out k b = from_new k b s in after_edge k b q c o (parts (starts o) w)

  reached : {q b : ℕ} → b ≢ n → Walk new n q b → Behind old out b
  reached d w =
      let h = from_node d w in record { kind = h.kind; target = h.target; rest = h.rest; edge = h.edge; walk = h.walk }

  closed_at_node : (k c r : ℕ) → out k c → Parts old out n cycle c r n → max k r ≡ cycle
  closed_at_node k c r o (direct w) = segment k c r o w
  closed_at_node k c r o (through p k' t s v o' w lo hi) =
      let e : max k p ≡ cycle = segment k c p o v in let e' : max k' s ≡ cycle = segment k' t s o' w in omega arith

  module _
      (closed : (k a q b r c s : ℕ) → out k a → Walk old a q b → old b r c → Walk old c s b → max r s ≡ cycle) where
    closed_behind : (b k c r : ℕ) → Behind old out b → old b k c → Parts old out n cycle c r b → max k r ≡ cycle
    closed_behind b k c r h s (direct w) = closed h.kind h.target h.rest b k c r h.edge h.walk s w
    closed_behind b k c r h s (through p k' t s' v o w lo hi) =
        let e : max k' (max s' (max k p)) ≡ cycle = segment k' t (max s' (max k p)) o (join old w (go s v)) in
        omega arith

    pub closed_walk : (b q k c r : ℕ) → Walk new n q b → new b k c → Walk new c r b → max k r ≡ cycle
    closed_walk b q k c r v s w = elim (ℕ_discrete b n) [
      | yes e ↦ let o : out k c = from_new k c (subst (λ x. new x k c) e s) in
          closed_at_node k c r o (parts (starts o) (subst (λ x. Walk new c r x) e w))
      | no d ↦ let h : Behind old out b = reached d v in
          let s' : old b k c = elsewhere h.kind h.target h.rest b k c h.edge h.walk d s in
          closed_behind b k c r h s' (parts (goes_on h s') w)
    ]

    pub placed_walk : (Placed : ℕ → Type 0) → Placed n → ((k a q b : ℕ) → out k a → Walk old a q b → b ≢ n → Placed b)
        → (b q : ℕ) → Walk new n q b → Placed b
    placed_walk Placed here behind b q v = elim (ℕ_discrete b n) [
      | yes e ↦ subst Placed (sym e) here
      | no d ↦ let h : Behind old out b = reached d v in behind h.kind h.target h.rest b h.edge h.walk d
    ]
