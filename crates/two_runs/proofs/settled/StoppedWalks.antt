-- What walks come to that stop at leaves and at further nodes, as nodes are added and finished, the stack changes, and
-- other nodes become those at which walks stop.
use Rattle.std.proofs.Common.{◌≡◌, ◌≢◌, ℕ, List, ◌∷◌, ◌++◌, [], length, max, Some, slice_get, slice_set, refl, sym, ◌∙◌}
use Rattle.std.proofs.Common.{subst, ◌⊎◌, inl, inr}
use Rattle.open_graphs.specs.Graph as theory
use Rattle.open_graphs.specs.Run.{Again, Answered, Anew, Running, Without}
use Rattle.open_graphs.specs.Stack.{Entry, IsLeaf, path_kind}
use Rattle.open_graphs.specs.Use as theory_use
use Rattle.open_graphs.proofs.Keep.{edge_before, finish_grows, leaf_cases}
use Rattle.list_lemmas.proofs.Lists.{get_end, get_set_same}
use Rattle.open_graphs.proofs.Paths.{covered_walk}
use Rattle.open_graphs.proofs.Walks.{carried, carried_on, then_step}
use Rattle.two_runs.specs.Leads.{StepOn, WalksTo}

-- a walk that stops at further nodes is one that doesn't
pub unstopped : (nodes : List theory.Node) (v : theory.Verdict) (stack : List Entry) (Stops : ℕ → Type 0) {a q b : ℕ}
    → theory.Walk (StepOn nodes v stack Stops) a q b → theory.Walk (theory_use.Step nodes v stack) a q b
unstopped nodes v stack Stops w = carried (theory_use.Step nodes v stack) (StepOn nodes v stack Stops) (λ b. Unit {0})
    (λ b k c h s. s.step) (λ b k c h s. tt) tt w

-- a walk from a node at which walks stop goes nowhere
pub stops_here : (nodes : List theory.Node) (v : theory.Verdict) (stack : List Entry) (Stops Inner : ℕ → Type 0) (a : ℕ)
    → IsLeaf stack a ⊎ Stops a → WalksTo nodes v stack Stops Inner a
stops_here nodes v stack Stops Inner a there b q w = at there w
  where
    at : {b q : ℕ} → IsLeaf stack a ⊎ Stops a → theory.Walk (StepOn nodes v stack Stops) a q b
        → IsLeaf stack b ⊎ (Stops b ⊎ (theory.IsFinished nodes v b × Inner b))
    at (inl leaf) theory.stay = inl leaf
    at (inr stop) theory.stay = inr (inl stop)
    at (inl leaf) (theory.go s w) = absurd (s.step.inner leaf)
    at (inr stop) (theory.go s w) = absurd (s.on stop)

-- what is finished with two verdicts has one
pub walks_as : (nodes : List theory.Node) (w v : theory.Verdict) (stack : List Entry) (Stops Inner : ℕ → Type 0) (a : ℕ)
    → IsLeaf stack a ⊎ theory.IsFinished nodes v a → WalksTo nodes w stack Stops Inner a
    → WalksTo nodes v stack Stops Inner a
walks_as nodes w v stack Stops Inner a (inl leaf) walks = stops_here nodes v stack Stops Inner a (inl leaf)
walks_as nodes w v stack Stops Inner a (inr f) walks = elim (walks a 0 theory.stay) [
  | inl leaf ↦ stops_here nodes v stack Stops Inner a (inl leaf)
  | inr rest ↦ elim rest [
    | inl stop ↦ stops_here nodes v stack Stops Inner a (inr stop)
    | inr i ↦
        let both : Some (theory.Finished w i.0.0) ≡ Some (theory.Finished v f.0) = sym i.0.1 ∙ f.1 in
        let one : w ≡ v = cc in
        subst (λ u. WalksTo nodes u stack Stops Inner a) one walks
  ]
]

module _ (nodes after : List theory.Node) (v : theory.Verdict) (grown : theory.Grown nodes after)
    (stack other : List Entry) (Stops Later Inner Then : ℕ → Type 0)
    (inner : (b : ℕ) → theory.IsFinished nodes v b → Inner b → Then b) (a : ℕ)
    (walks : WalksTo nodes v stack Stops Inner a) where
  abbrev Old : ℕ → ℕ → ℕ → Type 0
  Old = StepOn nodes v stack Stops

  abbrev New : ℕ → ℕ → ℕ → Type 0
  New = StepOn after v other Later

  abbrev Placed : ℕ → Type 0
  Placed b = IsLeaf other b ⊎ (Later b ⊎ (theory.IsFinished after v b × Then b))

  still : (b : ℕ) → theory.IsFinished nodes v b × Inner b → Placed b
  still b i = inr (inr ((i.0.0, grown b v i.0.0 i.0.1), inner b i.0 i.1))

  -- walks that stop nowhere else come to nothing else
  module _ (leaves : (b : ℕ) → IsLeaf stack b → IsLeaf other b) (stops : (b : ℕ) → Stops b → Later b) where
    step_back : (b q k c : ℕ) → theory.Walk Old a q b → New b k c → Old b k c
    step_back b q k c w s = elim (walks b q w) [
      | inl leaf ↦ absurd (s.step.inner (leaves b leaf))
      | inr rest ↦ elim rest [
        | inl stop ↦ absurd (s.on (stops b stop))
        | inr i ↦ record {
          step = record {
            edge = edge_before nodes after v b k c grown i.0 s.step.edge;
            inner = λ l. s.step.inner (leaves b l);
          };
          on = λ t. s.on (stops b t);
        }
      ]
    ]

    pub walks_kept : WalksTo after v other Later Then a
    walks_kept b q w = elim (walks b q (carried_on Old New a step_back theory.stay w)) [
      | inl leaf ↦ inl (leaves b leaf)
      | inr rest ↦ elim rest [ inl stop ↦ inr (inl (stops b stop)) | inr i ↦ still b i ]
    ]

  -- Walks may go on where they stopped before, if it is known what is reached from there. Where they
  -- didn't stop, none stops.
  module _ (apart : (b : ℕ) → theory.IsFinished nodes v b → Inner b → (IsLeaf stack b → ⊥) × (Stops b → ⊥))
      (ends : (b q : ℕ) → theory.Walk New a q b → IsLeaf stack b ⊎ Stops b → WalksTo after v other Later Then b) where
    on_from : {c p r q b : ℕ} → theory.Walk Old a p c → theory.Walk New a r c → theory.Walk New c q b → Placed b
    on_from {c} {p} {r} past came theory.stay = elim (walks c p past) [
      | inl leaf ↦ ends c r came (inl leaf) c 0 theory.stay
      | inr rest ↦ elim rest [ inl stop ↦ ends c r came (inr stop) c 0 theory.stay | inr i ↦ still c i ]
    ]
    on_from {c} {p} {r} {q} {b} past came (theory.go {k = k} {b = d} {q = q'} s w) = elim (walks c p past) [
      | inl leaf ↦ ends c r came (inl leaf) b q (theory.go s w)
      | inr rest ↦ elim rest [
        | inl stop ↦ ends c r came (inr stop) b q (theory.go s w)
        | inr i ↦
            let none = apart c i.0 i.1 in
            on_from
            (then_step Old past (record {
              step = record { edge = edge_before nodes after v c k d grown i.0 s.step.edge; inner = none.0 };
              on = none.1;
            }))
            (then_step New came s) w
      ]
    ]

    pub walks_on : WalksTo after v other Later Then a
    walks_on b q w = on_from theory.stay theory.stay w

-- ---- the end of a run

module _ (nodes : List theory.Node) (below : List Entry) (top : Entry) (own : ℕ)
    (edges : theory.Verdict → List theory.Edge) (heads_before heads : theory_use.Heads) (v : theory.Verdict)
    (r : Running nodes below top own edges heads_before heads) (Stops Inner : ℕ → Type 0) (here : Inner own)
    (behind : (i : ℕ) (edge : theory.Edge) → slice_get (edges v) i ≡ Some edge
    → WalksTo nodes v (below ++ top ∷ []) Stops Inner edge.target) where
  -- a node that is reached from the target of an edge
  record Behind (c : ℕ) : Type 0 where
    place : ℕ
    edge : theory.Edge
    kind : ℕ
    is_at : slice_get (edges v) place ≡ Some edge
    walk : theory.Walk (StepOn nodes v (below ++ top ∷ []) Stops) edge.target kind c

  module _ (anew : top.provisional ≢ Some v) where
    abbrev later : List theory.Node
    later = slice_set nodes own (theory.Finished v (edges v))

    grown : theory.Grown nodes later
    grown = finish_grows nodes own (theory.Finished v (edges v)) r.unfinished

    own_finished : slice_get later own ≡ Some (theory.Finished v (edges v))
    own_finished = get_set_same nodes own theory.Unfinished (theory.Finished v (edges v)) r.unfinished

    -- the newest goal's cycles lead to the run's own node, or none was answered so
    top_is_own : (c : ℕ) → Behind c → top.node ≡ c → c ≡ own
    top_is_own c h same =
        let it = r.answered v h.place h.edge h.is_at in
        let w = unstopped nodes v (below ++ top ∷ []) Stops
        (subst (theory.Walk (StepOn nodes v (below ++ top ∷ []) Stops) h.edge.target h.kind) (sym same) h.walk) in
        let covered = covered_walk nodes v (below ++ top ∷ []) (path_kind (below ++ top ∷ []) h.edge.kind) h.edge.kind
        h.edge.target it.answer it.used (length below) top h.kind (get_end below top) w in
        elim covered.accepted [
          | inl again ↦ absurd (anew again)
          | inr first ↦ elim r.which_run [ inl own_run ↦ sym same ∙ own_run.0 | inr other ↦ absurd (other.1 first.0) ]
        ]

    abbrev Reached : ℕ → Type 0
    Reached c = (c ≡ own) ⊎ Behind c

    abbrev Going : ℕ → ℕ → ℕ → Type 0
    Going = StepOn later v below Stops

    abbrev PlacedThen : ℕ → Type 0
    PlacedThen b = IsLeaf below b ⊎ (Stops b ⊎ (theory.IsFinished later v b × Inner b))

    at_own : (c : ℕ) → c ≡ own → PlacedThen c
    at_own c same = subst PlacedThen (sym same) (inr (inr ((edges v, own_finished), here)))

    placed_then : (c : ℕ) → Reached c → PlacedThen c
    placed_then c (inl same) = at_own c same
    placed_then c (inr h) = elim (behind h.place h.edge h.is_at c h.kind h.walk) [
      | inl leaf ↦
          elim (leaf_cases below top c leaf) [ inl lower ↦ inl lower | inr same ↦ at_own c (top_is_own c h same) ]
      | inr rest ↦ elim rest [ inl stop ↦ inr (inl stop) | inr i ↦ inr (inr ((i.0.0, grown c v i.0.0 i.0.1), i.1)) ]
    ]

    from_own : (c k d : ℕ) → c ≡ own → Going c k d → Behind d
    from_own c k d same s =
        let at : slice_get later own ≡ Some (theory.Finished v s.step.edge.edges) =
        subst (λ x. slice_get later x ≡ Some (theory.Finished v s.step.edge.edges)) same s.step.edge.finished in
        let both : Some (theory.Finished v s.step.edge.edges) ≡ Some (theory.Finished v (edges v)) =
        sym at ∙ own_finished in
        let one : s.step.edge.edges ≡ edges v = cc in
        record {
          place = s.step.edge.index;
          edge = record { kind = k; target = d };
          kind = 0;
          is_at = subst (λ es. slice_get es s.step.edge.index ≡ Some (record { kind = k; target = d })) one
              s.step.edge.edge;
          walk = theory.stay;
        }

    from_behind : (c k d : ℕ) (h : Behind c) → Going c k d → theory.IsFinished nodes v c → Behind d
    from_behind c k d h s f = record {
      place = h.place;
      edge = h.edge;
      kind = max h.kind k;
      is_at = h.is_at;
      walk = then_step (StepOn nodes v (below ++ top ∷ []) Stops) h.walk
          (record {
            step = record {
              edge = edge_before nodes later v c k d grown f s.step.edge;
              inner = λ l. elim (leaf_cases below top c l) [
                | inl lower ↦ s.step.inner lower
                | inr same ↦
                    let is_own = top_is_own c h same in
                    let unfinished : slice_get nodes c ≡ Some theory.Unfinished =
                    subst (λ x. slice_get nodes x ≡ Some theory.Unfinished) (sym is_own) r.unfinished in
                    let closed : slice_get nodes c ≡ Some (theory.Finished v f.0) = f.1 in
                    absurd cc
              ];
            };
            on = s.on;
          });
    }

    goes_on : (c k d : ℕ) → Reached c → Going c k d → Reached d
    goes_on c k d (inl same) s = inr (from_own c k d same s)
    goes_on c k d (inr h) s = elim (behind h.place h.edge h.is_at c h.kind h.walk) [
      | inl leaf ↦ elim (leaf_cases below top c leaf) [
        | inl lower ↦ absurd (s.step.inner lower)
        | inr same ↦ inr (from_own c k d (top_is_own c h same) s)
      ]
      | inr rest ↦ elim rest [ inl stop ↦ absurd (s.on stop) | inr i ↦ inr (from_behind c k d h s i.0) ]
    ]

    walk_placed : {c q b : ℕ} → Reached c → theory.Walk Going c q b → PlacedThen b
    walk_placed {c} h theory.stay = placed_then c h
    walk_placed {c} h (theory.go {k = k} {b = d} s w) = walk_placed (goes_on c k d h s) w

  -- what the node of its result leads to
  pub answered_walks : {after : List theory.Node} {a : ℕ} → v ≢ theory.Neither → Answered nodes top own edges v after a
      → (top.provisional ≡ Some v → WalksTo nodes v below Stops Inner top.node) → WalksTo after v below Stops Inner a
  answered_walks definite (Again e) earlier = earlier e
  answered_walks definite (Anew ne) earlier = λ b q w. walk_placed ne (inl refl) w
  answered_walks definite (Without e) earlier = absurd (definite e)
