-- Closed walks and strongly connected components: a closed walk of a kind between two exists exactly if an edge of such
-- a kind stays in its component, in the graph of the edges up to the greater kind.
use Rattle.std.proofs.Common.{◌≡◌, ℕ, ◌+◌, ◌<◌, ◌≤◌, Bool, true, false, not, IsTrue, inl, inr, ◌↔◌, List, [], ◌∷◌}
use Rattle.std.proofs.Common.{filter, Option, Some, None, option_map, length, slice_get, get_or, All, Contains, nat_le}
use Rattle.std.proofs.Common.{refl, sym, ap, ◌∙◌, subst, arith}
use Rattle.std.proofs.lemmas.Bool.{cases_lt, false≢true, le-leb, leb-true}
use Rattle.std.proofs.lemmas.List.{length-map}
use Rattle.std.proofs.lemmas.List.Elements.{All-map, Contains-get_or}
use Rattle.std.proofs.lemmas.Option.{slice_get-map, slice_get-get_or, unwrap_or-slice_get}
use Rattle.std.specs.Option.{IsSomeAnd, unwrap_or}
use Rattle.graph_check.specs.Below.{PathKind, Inductive, ForcedAmbiguity, rank_of, Edge, GraphNode, HasEdge, IsWalk}
use Rattle.graph_check.specs.Below.{walk_kind, AreClosed, CyclesHaveKind, HasStep, Reaches, StaysInside, AreComponents}
use Rattle.graph_check.specs.Below.{stay, go}
use Rattle.strong_components.proofs.Walks.{falls_along, reaches-trans}
use Rattle.search_context.proofs.Copies.{HasEdge-within}
use Rattle.search_context.proofs.Graphs.{Contains-filtered, Contains-map, Contains-mapped}
use Rattle.search_context.proofs.Graphs.{filtered_member, HasGoal-within}
use Rattle.path_kinds.proofs.PathRanks.{each_kind, greater_rank, same_kind}
use Rattle.graph_check.specs.Words.{IsBetween, IsGreater, IsLesser, HasCycle, HasInnerEdge, steps_over, targets_over}

module _ {I : Type 0} (nodes : List (GraphNode I)) (most : PathKind) where
  abbrev graph : List (List ℕ)
  graph = steps_over most nodes

  -- the edge is of a kind up to `most`
  abbrev is_low : Edge I → Bool
  is_low e = nat_le (rank_of e.kind) (rank_of most)

  -- the successors of a place
  successors_at : (place : ℕ) → get_or graph place []
      ≡ unwrap_or (option_map (λ (n : GraphNode I). targets_over most n.edges) (slice_get nodes place)) []
  successors_at place =
      sym (unwrap_or-slice_get graph place [])
      ∙ ap (λ o. unwrap_or o []) (slice_get-map (λ (n : GraphNode I). targets_over most n.edges) nodes place)

  -- an edge of a low enough kind is a step
  step_of : (place : ℕ) (e : Edge I) → HasEdge nodes place e
      → rank_of e.kind ≤ rank_of most → HasStep graph place e.target
  step_of place e has low =
      subst (λ xs. Contains xs e.target) (sym (successors_at place)) (there (slice_get nodes place) has)
    where
      there : (o : Option (GraphNode I)) → IsSomeAnd o (λ n. Contains n.edges e)
          → Contains (unwrap_or (option_map (λ (n : GraphNode I). targets_over most n.edges) o) []) e.target
      there None h = absurd h
      there (Some n) h = Contains-mapped (λ (x : Edge I). x.target) (filter is_low n.edges) e
          (Contains-filtered is_low n.edges e h (le-leb (rank_of e.kind) (rank_of most) low))

  -- the edge behind a step
  record StepEdge (place to : ℕ) : Type 0 where
    edge : Edge I
    has : HasEdge nodes place edge
    low : rank_of edge.kind ≤ rank_of most
    target : edge.target ≡ to

  edge_of : (place to : ℕ) → HasStep graph place to → StepEdge place to
  edge_of place to h =
      let e = there (slice_get nodes place) (subst (λ xs. Contains xs to) (successors_at place) h) in
      record { edge = e.0; has = e.1; low = e.2; target = e.3 }
    where
      there : (o : Option (GraphNode I))
          → Contains (unwrap_or (option_map (λ (n : GraphNode I). targets_over most n.edges) o) []) to
          → (e : Edge I) × IsSomeAnd o (λ n. Contains n.edges e) × (rank_of e.kind ≤ rank_of most) × (e.target ≡ to)
      there None h = absurd (omega (arith, h.1))
      there (Some n) h =
          let e = Contains-map (λ (x : Edge I). x.target) (filter is_low n.edges) to h in
          let is = filtered_member is_low n.edges e.0 e.1 in
          (e.0, is.0, leb-true (rank_of e.0.kind) (rank_of most) is.1, e.2)

  -- a walk of low enough kind
  record LowWalk (from to : ℕ) : Type 0 where
    walk : List (Edge I)
    is : IsWalk nodes from walk to
    low : rank_of (walk_kind walk) ≤ rank_of most

  reach_of : (from to : ℕ) (walk : List (Edge I)) → IsWalk nodes from walk to
      → rank_of (walk_kind walk) ≤ rank_of most → Reaches graph from to
  reach_of from to [] w low = subst (λ x. Reaches graph from x) w stay
  reach_of from to (e ∷ rest) w low =
      let greater = greater_rank e.kind (walk_kind rest) in
      go (step_of from e w.0 (omega arith)) (reach_of e.target to rest w.1 (omega arith))

  walk_of : (from to : ℕ) → Reaches graph from to → LowWalk from to
  walk_of from to stay = record { walk = []; is = refl; low = omega arith }
  walk_of from to (go {b = b} step rest) =
      let e = edge_of from b step in
      let w = walk_of b to rest in
      let greater = greater_rank e.edge.kind (walk_kind w.walk) in
      record {
        walk = e.edge ∷ w.walk;
        is = (e.has, subst (λ x. IsWalk nodes x w.walk to) (sym e.target) w.is);
        low = omega arith;
      }

  -- an edge of a walk that has the walk's kind
  record Greatest (from to : ℕ) (kind : PathKind) : Type 0 where
    place : ℕ
    edge : Edge I
    has : HasEdge nodes place edge
    same : rank_of edge.kind ≡ rank_of kind
    before : Reaches graph from place
    after : Reaches graph edge.target to

  first_is_greatest : (from to : ℕ) (e : Edge I) (rest : List (Edge I)) → IsWalk nodes from (e ∷ rest) to
      → rank_of (walk_kind (e ∷ rest)) ≤ rank_of most
      → rank_of (walk_kind rest) ≤ rank_of e.kind → Greatest from to (walk_kind (e ∷ rest))
  first_is_greatest from to e rest w low above =
      let greater = greater_rank e.kind (walk_kind rest) in
      record {
        place = from;
        edge = e;
        has = w.0;
        same = omega arith;
        before = stay;
        after = reach_of e.target to rest w.1 (omega arith);
      }

  later_is_greatest : (from to : ℕ) (e : Edge I) (rest : List (Edge I)) → HasEdge nodes from e
      → rank_of e.kind < rank_of (walk_kind rest) → rank_of (walk_kind (e ∷ rest)) ≤ rank_of most
      → Greatest e.target to (walk_kind rest) → Greatest from to (walk_kind (e ∷ rest))
  later_is_greatest from to e rest has below low g =
      let greater = greater_rank e.kind (walk_kind rest) in
      record {
        place = g.place;
        edge = g.edge;
        has = g.has;
        same = omega (arith, g.same);
        before = go (step_of from e has (omega arith)) g.before;
        after = g.after;
      }

  greatest_edge : (from to : ℕ) (e : Edge I) (rest : List (Edge I)) → IsWalk nodes from (e ∷ rest) to
      → rank_of (walk_kind (e ∷ rest)) ≤ rank_of most → Greatest from to (walk_kind (e ∷ rest))
  greatest_edge from to e [] w low = first_is_greatest from to e [] w low (omega arith)
  greatest_edge from to e (f ∷ rest) w low =
      let greater = greater_rank e.kind (walk_kind (f ∷ rest)) in
      elim (cases_lt (rank_of e.kind) (rank_of (walk_kind (f ∷ rest)))) [
        | inl below ↦
            later_is_greatest from to e (f ∷ rest) w.0 below low (greatest_edge e.target to f rest w.1 (omega arith))
        | inr above ↦ first_is_greatest from to e (f ∷ rest) w low above
      ]

  -- where the edges of one place lead in a closed graph
  targets_inside : AreClosed nodes → (place : ℕ) (n : GraphNode I) → slice_get nodes place ≡ Some n
      → All (λ b. b < length graph) (targets_over most n.edges)
  targets_inside closed place n is = λ k d lt.
      let to = get_or (targets_over most n.edges) k d in
      let e = Contains-map (λ (x : Edge I). x.target) (filter is_low n.edges) to
      (Contains-get_or (targets_over most n.edges) k d lt) in
      let has : HasEdge nodes place e.0 =
      subst (λ o. IsSomeAnd o (λ m. Contains m.edges e.0)) (sym is) (filtered_member is_low n.edges e.0 e.1).0 in
      let there = HasGoal-within nodes e.0.target e.0.input (closed place e.0 has) in
      let size = length-map nodes (λ (m : GraphNode I). targets_over most m.edges) in
      subst (λ b. b < length graph) e.2 (omega arith)

  pub steps_inside : AreClosed nodes → StaysInside graph
  steps_inside closed =
      All-map (All (λ b. b < length graph)) (λ (n : GraphNode I). targets_over most n.edges) nodes
      (λ k d lt. targets_inside closed k (get_or nodes k d) (slice_get-get_or nodes k d lt))

  module _ (closed : AreClosed nodes) (numbers : List ℕ) (components : AreComponents graph numbers) where
    -- an edge as great as its closed walk stays in its component
    pub inner_of_cycle : (least : PathKind) → HasCycle (IsBetween least most) nodes
        → HasInnerEdge numbers least most nodes
    inner_of_cycle least c =
        let low = c.kind.to_most in
        let g = greatest_edge c.place c.place c.edge c.rest c.closed low in
        let back = falls_along graph numbers components.falls (reaches-trans graph g.after g.before) in
        let on = components.falls g.place g.edge.target (step_of g.place g.edge g.has (omega (arith, g.same))) in
        record {
          place = g.place;
          edge = g.edge;
          has = g.has;
          kind = record { from_least = omega (arith, c.kind.from_least, g.same); to_most = omega (arith, g.same) };
          same = omega arith;
        }

    -- an edge that stays in its component lies on a closed walk of its kind
    pub cycle_of_inner : (least : PathKind) → HasInnerEdge numbers least most nodes
        → HasCycle (IsBetween least most) nodes
    cycle_of_inner least inner =
        let size = length-map nodes (λ (n : GraphNode I). targets_over most n.edges) in
        let from = HasEdge-within nodes inner.place inner.edge inner.has in
        let to = HasGoal-within nodes inner.edge.target inner.edge.input (closed inner.place inner.edge inner.has) in
        let back = walk_of inner.edge.target inner.place
        (components.together inner.edge.target inner.place (omega arith) (omega arith) (sym inner.same)) in
        let greater = greater_rank inner.edge.kind (walk_kind back.walk) in
        record {
          place = inner.place;
          edge = inner.edge;
          rest = back.walk;
          closed = (inner.has, back.is);
          kind = record {
            from_least = omega (arith, inner.kind.from_least);
            to_most = omega (arith, inner.kind.to_most, back.low);
          };
        }

-- every closed walk has the kind exactly if none has a greater or a lesser one
pub cycles_have_kind : {I : Type 0} (nodes : List (GraphNode I)) (kind : PathKind)
    → (HasCycle (IsGreater kind) nodes → ⊥) → (HasCycle (IsLesser kind) nodes → ⊥) → CyclesHaveKind kind nodes
cycles_have_kind nodes kind no_greater no_lesser = λ place e rest closed.
    same_kind (walk_kind (e ∷ rest)) kind
    (elim (cases_lt (rank_of kind) (rank_of (walk_kind (e ∷ rest)))) [
      | inl greater ↦
          absurd (no_greater (record { place = place; edge = e; rest = rest; closed = closed; kind = greater }))
      | inr most ↦ elim (cases_lt (rank_of (walk_kind (e ∷ rest))) (rank_of kind)) [
        | inl lesser ↦
            absurd (no_lesser (record { place = place; edge = e; rest = rest; closed = closed; kind = lesser }))
        | inr least ↦ omega arith
      ]
    ])

pub no_other_kind : {I : Type 0} (nodes : List (GraphNode I)) (kind : PathKind) (IsOf : PathKind → Type 0)
    → (IsOf kind → ⊥) → CyclesHaveKind kind nodes → HasCycle IsOf nodes → ⊥
no_other_kind nodes kind IsOf other all c = other (subst IsOf (all c.place c.edge c.rest c.closed) c.kind)

rank_most : (k : PathKind) → rank_of k ≤ 3
rank_most = each_kind (λ k. rank_of k ≤ 3) (omega arith) (omega arith) (omega arith) (omega arith)

-- a kind is greater if it is from the next one up, and lesser if it is up to the one before
pub greater_from_next : (kind next : PathKind) → rank_of next ≡ rank_of kind + 1 → (k : PathKind)
    → IsBetween next ForcedAmbiguity k ↔ IsGreater kind k
greater_from_next kind next e k =
    (λ b. omega (arith, b.from_least), λ h. record { from_least = omega arith; to_most = rank_most k })

pub lesser_to_last : (kind last : PathKind) → rank_of last + 1 ≡ rank_of kind → (k : PathKind)
    → IsBetween Inductive last k ↔ IsLesser kind k
lesser_to_last kind last e k =
    (λ b. omega (arith, b.to_most), λ h. record { from_least = omega arith; to_most = omega arith })

-- what is found of a kind is found of the same kind in other words
pub found_of : {I : Type 0} (nodes : List (GraphNode I)) (P Q : PathKind → Type 0) → ((k : PathKind) → P k ↔ Q k)
    → (found : Bool) → IsTrue found ↔ HasCycle P nodes → IsTrue found ↔ HasCycle Q nodes
found_of nodes P Q same found is = (λ h. to (is.0 h), λ c. is.1 (from c))
  where
    to : HasCycle P nodes → HasCycle Q nodes
    to c = record {
      place = c.place;
      edge = c.edge;
      rest = c.rest;
      closed = c.closed;
      kind = (same (walk_kind (c.edge ∷ c.rest))).0 c.kind;
    }

    from : HasCycle Q nodes → HasCycle P nodes
    from c = record {
      place = c.place;
      edge = c.edge;
      rest = c.rest;
      closed = c.closed;
      kind = (same (walk_kind (c.edge ∷ c.rest))).1 c.kind;
    }

-- where no greater cycle is found, whether a lesser one is found tells whether all have the kind
pub all_of_kind : {I : Type 0} (nodes : List (GraphNode I)) (kind : PathKind) (greater lesser : Bool)
    → IsTrue greater ↔ HasCycle (IsGreater kind) nodes → IsTrue lesser
    ↔ HasCycle (IsLesser kind) nodes → greater ≡ false
    → IsTrue (not lesser) ↔ CyclesHaveKind kind nodes
all_of_kind nodes kind greater true is_greater is_lesser none = (
  λ h. absurd (false≢true h),
  λ all. absurd (no_other_kind nodes kind (IsLesser kind) (λ h. omega arith) all (is_lesser.0 refl)),
)
all_of_kind nodes kind greater false is_greater is_lesser none = (
  λ h. cycles_have_kind nodes kind (λ c. false≢true (sym none ∙ is_greater.1 c)) (λ c. false≢true (is_lesser.1 c)),
  λ all. refl,
)
