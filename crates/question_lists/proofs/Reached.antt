-- The places that are reached in a finite graph, as a list that is closed, and their goals.
use Rattle.std.proofs.Common.{◌≡◌, ℕ, zero, suc, ◌+◌, ◌<◌, ◌⊎◌, inl, inr, List, [], ◌∷◌, length, get_or, map, slice_get}
use Rattle.std.proofs.Common.{Contains, Option, None, Some, refl, sym, ap, ◌∙◌, subst, arith}
use Rattle.std.specs.Option.{IsSomeAnd, option_map}
use Rattle.std.proofs.lemmas.Bool.Decides.{eqb_tells}
use Rattle.std.proofs.lemmas.Option.{slice_get-get_or, get_or_from_slice_get}
use Rattle.list_lemmas.proofs.Members.{contains_later, first_or_later}
use Rattle.search_context.proofs.Pigeonhole.{pigeonhole}
use Rattle.search_context.proofs.Graphs.{Contains-map, Contains-mapped, goal_node, HasGoal-within, IsReached-step}
use Rattle.question_lists.specs.Below.{PathKind, Edge, GraphNode, HasEdge, HasGoal, IsReached, IsGraph}
use Rattle.question_lists.specs.Below.{IsWalk, Question}

-- whether a number is in the list
has : (xs : List ℕ) (n : ℕ) → Contains xs n ⊎ (Contains xs n → ⊥)
has [] n = inr (λ h. omega (arith, h.1))
has (x ∷ xs) n = elim (eqb_tells x n) [
  | inl w ↦ inl (0, omega arith, w.1)
  | inr w ↦ elim (has xs n) [
    | inl h ↦ inl (contains_later n x xs h)
    | inr h ↦ inr (λ c. elim (first_or_later x n xs c) [ inl e ↦ w.1 e | inr later ↦ h later ])
  ]
]

module _ {I : Type 0} where
  -- an edge that leads out of the list
  record LeadsOut (xs : List ℕ) (among : Edge I → Type 0) : Type 0 where
    edge : Edge I
    is_among : among edge
    is_out : Contains xs edge.target → ⊥

  -- all of them lead into it
  abbrev LeadIn : List ℕ → (Edge I → Type 0) → Type 0
  LeadIn xs among = (e : Edge I) → among e → Contains xs e.target

  seek_edge : (xs : List ℕ) (edges : List (Edge I)) → LeadsOut xs (Contains edges) ⊎ LeadIn xs (Contains edges)
  seek_edge xs [] = inr (λ e h. absurd (omega (arith, h.1)))
  seek_edge xs (e ∷ edges) = elim (has xs e.target) [
    | inr out ↦ inl (record { edge = e; is_among = (0, omega arith, refl); is_out = out })
    | inl into ↦ elim (seek_edge xs edges) [
      | inl w ↦ inl (record { edge = w.edge; is_among = contains_later w.edge e edges w.is_among; is_out = w.is_out })
      | inr all ↦ inr (λ f h. elim (first_or_later e f edges h) [
        | inl same ↦ subst (λ g. Contains xs g.target) same into
        | inr later ↦ all f later
      ])
    ]
  ]

  seek_node : (xs : List ℕ) (o : Option (GraphNode I)) → LeadsOut xs (λ e. IsSomeAnd o (λ n. Contains n.edges e))
      ⊎ LeadIn xs (λ e. IsSomeAnd o (λ n. Contains n.edges e))
  seek_node xs None = inr (λ e h. absurd h)
  seek_node xs (Some n) = elim (seek_edge xs n.edges) [
    | inl w ↦ inl (record { edge = w.edge; is_among = w.is_among; is_out = w.is_out })
    | inr all ↦ inr all
  ]

  module _ (nodes : List (GraphNode I)) where
    -- a place of the list with an edge that leads out of it
    record Leaves (xs places : List ℕ) : Type 0 where
      place : ℕ
      is_place : Contains places place
      edge : Edge I
      has_edge : HasEdge nodes place edge
      is_out : Contains xs edge.target → ⊥

    abbrev pub Stay : List ℕ → List ℕ → Type 0
    Stay xs places = (at : ℕ) (e : Edge I) → Contains places at → HasEdge nodes at e → Contains xs e.target

    seek : (xs places : List ℕ) → Leaves xs places ⊎ Stay xs places
    seek xs [] = inr (λ at e h. absurd (omega (arith, h.1)))
    seek xs (p ∷ places) = elim (seek_node xs (slice_get nodes p)) [
      | inl w ↦ inl (record {
        place = p;
        is_place = (0, omega arith, refl);
        edge = w.edge;
        has_edge = w.is_among;
        is_out = w.is_out;
      })
      | inr all ↦ elim (seek xs places) [
        | inl w ↦ inl (record {
          place = w.place;
          is_place = contains_later w.place p places w.is_place;
          edge = w.edge;
          has_edge = w.has_edge;
          is_out = w.is_out;
        })
        | inr stay ↦ inr (λ at e h f. elim (first_or_later p at places h) [
          | inl same ↦ all e (subst (λ x. HasEdge nodes x e) (sym same) f)
          | inr later ↦ stay at e later f
        ])
      ]
    ]

-- no number stands in the list twice
abbrev Distinct : List ℕ → Type 0
Distinct xs = (i j : ℕ) → i < j → j < length xs → get_or xs i 0 ≡ get_or xs j 0 → ⊥

at_place : (xs : List ℕ) (i : ℕ) → i < length xs → Contains xs (get_or xs i 0)
at_place xs i l = (i, l, get_or_from_slice_get xs i (get_or xs i 0) (get_or xs i 0) (slice_get-get_or xs i 0 l))

distinct_with : (x : ℕ) (xs : List ℕ) → Distinct xs → (Contains xs x → ⊥) → Distinct (x ∷ xs)
distinct_with x xs old out zero zero l m e = omega arith
distinct_with x xs old out zero (suc j) l m e = out (subst (Contains xs) (sym e) (at_place xs j (omega arith)))
distinct_with x xs old out (suc i) zero l m e = omega arith
distinct_with x xs old out (suc i) (suc j) l m e = old i j (omega arith) (omega arith) e

-- so it is no longer than its numbers are many
distinct_within : (xs : List ℕ) (n : ℕ) → Distinct xs → ((x : ℕ) → Contains xs x → x < n) → n < length xs → ⊥
distinct_within xs n distinct below l =
    let w = pigeonhole n (λ i. get_or xs i 0) (λ i h. below (get_or xs i 0) (at_place xs i (omega arith))) in
    distinct w.0 w.1 w.2 (let h = w.3 in omega arith) w.4

module _ {I : Type 0} (rule : I → List (Question I) → Type 0) (kind : PathKind) (nodes : List (GraphNode I)) (root : ℕ)
    (goal : I) (graph : IsGraph rule kind nodes root goal) where
  -- places that are reached, the root among them, and closed under edges
  pub record Reached : Type 0 where
    pub places : List ℕ
    pub has_root : Contains places root
    pub are_reached : (at : ℕ) → Contains places at → IsReached nodes root at
    pub stay : Stay nodes places places

  reached_within : (at : ℕ) (e : Edge I) → IsReached nodes root at → HasEdge nodes at e → e.target < length nodes
  reached_within at e r h = HasGoal-within nodes e.target e.input (graph.closed at e r h)

  grow : (fuel : ℕ) (xs : List ℕ) → length xs + fuel ≡ suc (length nodes) → Distinct xs → Contains xs root →
      ((at : ℕ) → Contains xs at → IsReached nodes root at) → ((at : ℕ) → Contains xs at → at < length nodes) → Reached
  grow zero xs size distinct rooted reached below =
      absurd (distinct_within xs (length nodes) distinct below (omega arith))
  grow (suc fuel) xs size distinct rooted reached below = elim (seek nodes xs xs) [
    | inr stay ↦ record { places = xs; has_root = rooted; are_reached = reached; stay = stay }
    | inl w ↦
        let n = w.edge.target in
        grow fuel (w.edge.target ∷ xs) (omega arith) (distinct_with w.edge.target xs distinct w.is_out)
        (contains_later root w.edge.target xs rooted)
        (λ at h. elim (first_or_later w.edge.target at xs h) [
          | inl same ↦ subst (IsReached nodes root) same
              (IsReached-step nodes root w.place w.edge (reached w.place w.is_place) w.has_edge)
          | inr later ↦ reached at later
        ])
        (λ at h. elim (first_or_later w.edge.target at xs h) [
          | inl same ↦
              subst (λ x. x < length nodes) same (reached_within w.place w.edge (reached w.place w.is_place) w.has_edge)
          | inr later ↦ below at later
        ])
  ]

  one_reached : (at : ℕ) → Contains (root ∷ []) at → root ≡ at
  one_reached at h = elim (first_or_later root at [] h) [ inl e ↦ e | inr later ↦ absurd (omega (arith, later.1)) ]

  pub reached : Reached
  reached =
      let l : root < length nodes = HasGoal-within nodes root goal graph.rooted in
      grow (length nodes) (root ∷ []) (omega arith) (λ i j h k e. omega arith) (0, omega arith, refl)
      (λ at h. subst (IsReached nodes root) (one_reached at h) ([], refl))
      (λ at h. subst (λ x. x < length nodes) (one_reached at h) l)

  -- and each has a node
  pub node_at : (at : ℕ) → IsReached nodes root at → (n : GraphNode I) × (slice_get nodes at ≡ Some n)
  node_at at w = node_after root goal graph.rooted ([], refl) at w.0 w.1
    where
      node_after : (from : ℕ) (asked : I) → HasGoal nodes from asked → IsReached nodes root from
          → (to : ℕ) (walk : List (Edge I)) → IsWalk nodes from walk to
          → (n : GraphNode I) × (slice_get nodes to ≡ Some n)
      node_after from asked h r to [] e =
          let w = goal_node (slice_get nodes from) asked h in (w.0, ap (slice_get nodes) (sym e) ∙ w.1)
      node_after from asked h r to (e ∷ rest) w =
          node_after e.target e.input (graph.closed from e r w.0) (IsReached-step nodes root from e r w.0) to rest w.1

  -- the goals of all places that are reached
  pub record ReachedGoals : Type 0 where
    pub goals : List I
    pub has : (at : ℕ) (asked : I) → IsReached nodes root at → HasGoal nodes at asked → Contains goals asked
    pub place_of : (asked : I) → Contains goals asked → (at : ℕ) × IsReached nodes root at × HasGoal nodes at asked

  stays_in : (all : Reached) (from to : ℕ) (walk : List (Edge I)) → Contains all.places from
      → IsWalk nodes from walk to → Contains all.places to
  stays_in all from to [] here w = subst (Contains all.places) w here
  stays_in all from to (e ∷ walk) here w = stays_in all e.target to walk (all.stay from e here w.0) w.1

  -- the goal of a node; each place that is reached has one
  abbrev goal_of : Option (GraphNode I) → I
  goal_of None = goal
  goal_of (Some n) = n.goal

  goal_of-is : (at : ℕ) (asked : I) → HasGoal nodes at asked → goal_of (slice_get nodes at) ≡ asked
  goal_of-is at asked h = let w = goal_node (slice_get nodes at) asked h in ap goal_of w.1 ∙ w.2

  goal_of-has : (at : ℕ) (asked : I) → IsReached nodes root at
      → goal_of (slice_get nodes at) ≡ asked → HasGoal nodes at asked
  goal_of-has at asked r e =
      let n = node_at at r in ap (option_map (λ x. x.goal)) n.1 ∙ ap Some (sym (ap goal_of n.1) ∙ e)

  goals_in : Reached → ReachedGoals
  goals_in all = record {
    goals = map (λ at. goal_of (slice_get nodes at)) all.places;
    has = λ at asked r h.
        subst (Contains (map (λ at. goal_of (slice_get nodes at)) all.places)) (goal_of-is at asked h)
        (Contains-mapped (λ at. goal_of (slice_get nodes at)) all.places at
        (stays_in all root at r.0 all.has_root r.1));
    place_of = λ asked h.
        let w = Contains-map (λ at. goal_of (slice_get nodes at)) all.places asked h in
        let r = all.are_reached w.0 w.1 in
        (w.0, r, goal_of-has w.0 asked r w.2);
  }

  pub reached_goals : ReachedGoals
  reached_goals = goals_in reached
