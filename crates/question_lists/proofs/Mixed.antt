-- Goals that ask over steps of several kinds: what has a proof graph is derivable, and what has a refutation graph is
-- refutable. No goal is both.
use Rattle.std.proofs.Common.{◌≡◌, ℕ, ◌⊎◌, inl, inr, true, List, [], ◌∷◌, map, slice_get, Contains, Option, None, Some}
use Rattle.std.proofs.Common.{refl, sym, ap, ap₂, ◌∙◌, subst}
use Rattle.std.specs.List.{filter}
use Rattle.std.specs.Option.{IsSomeAnd, option_map}
use Rattle.std.proofs.lemmas.Option.{slice_get-map}
use Rattle.list_lemmas.proofs.Members.{Contains-filtered, filtered_member}
use Rattle.path_kinds.specs.Path.{is_inductive}
use Rattle.question_lists.specs.Below.{Coinductive, Edge, ForcedAmbiguity, GraphNode, HasEdge, HasGoal, Inductive}
use Rattle.question_lists.specs.Below.{IsGraph, IsProofGraph, IsReached, IsRefutationGraph, IsWalk, Overlap, PathKind}
use Rattle.question_lists.specs.Below.{Question, Unknown, greater_kind, walk_kind}
use Rattle.question_lists.specs.Derivations.{Derives, IsDerivable, IsNotCoinductive, IsNotInductive, IsRefutable}
use Rattle.question_lists.specs.Derivations.{derive, refute}
use Rattle.question_lists.proofs.Inductive.{IsShown, holds_along, is_shown}
use Rattle.question_lists.proofs.Reached.{reached_goals, ReachedGoals}
use Rattle.question_lists.proofs.Walks.{IsReached-after, LeadsTo, both_not_coinductive, both_not_inductive, holds_at}
use Rattle.question_lists.proofs.Walks.{leads_after, leads_by, not_inductive_later}

module _ {I : Type 0} (proves : I → List (Question I) → Type 0) (nodes : List (GraphNode I)) (root : ℕ) (goal : I)
    (proof : IsProofGraph proves nodes root goal) where
  all : ReachedGoals proves Coinductive nodes root goal proof
  all = reached_goals proves Coinductive nodes root goal proof

  derived_at : (at : ℕ) (asked : I) → IsReached nodes root at → HasGoal nodes at asked → Derives proves all.goals asked
  derived_at =
      holds_along proves Coinductive nodes root goal proof IsNotCoinductive both_not_coinductive
      (λ n. n refl) (Derives proves all.goals)
      (λ at asked s led. derive s.shown s.by_rule
      (λ q has is. let a = s.follow q has in all.has a.edge.target q.goal a.is_reached a.has_goal) led)

  -- what has a proof graph is derivable from the goals of its places
  pub derivable_from : IsDerivable proves goal
  derivable_from = record {
    given = all.goals;
    are_derived = λ asked is. let w = all.place_of asked is in derived_at w.0 asked w.1 w.2;
    is_derived = derived_at root goal ([], refl) proof.rooted;
  }

inductive_by : (k : PathKind) → is_inductive k ≡ true → k ≡ Inductive
inductive_by Inductive e = refl
inductive_by Unknown e = absurd cc
inductive_by Coinductive e = absurd cc
inductive_by ForcedAmbiguity e = absurd cc

module _ {I : Type 0} where
  -- the node without edges that are not inductive
  abbrev near : GraphNode I → GraphNode I
  near n = record { goal = n.goal; edges = filter (λ e. is_inductive e.kind) n.edges }

  near_goal : (o : Option (GraphNode I)) → option_map (λ n. n.goal) (option_map near o) ≡ option_map (λ n. n.goal) o
  near_goal None = refl
  near_goal (Some n) = refl

  far_edge : (o : Option (GraphNode I)) (e : Edge I) → IsSomeAnd (option_map near o) (λ n. Contains n.edges e)
      → IsSomeAnd o (λ n. Contains n.edges e) × (e.kind ≡ Inductive)
  far_edge None e h = absurd h
  far_edge (Some n) e h =
      let w = filtered_member (λ x. is_inductive x.kind) n.edges e h in (w.0, inductive_by e.kind w.1)

  near_edge : (o : Option (GraphNode I)) (e : Edge I) → IsSomeAnd o (λ n. Contains n.edges e) → e.kind ≡ Inductive
      → IsSomeAnd (option_map near o) (λ n. Contains n.edges e)
  near_edge None e h k = absurd h
  near_edge (Some n) e h k = Contains-filtered (λ x. is_inductive x.kind) n.edges e h (ap is_inductive k)

module _ {I : Type 0} (refutes : I → List (Question I) → Type 0) (nodes : List (GraphNode I)) (root : ℕ) (goal : I)
    (refutation : IsRefutationGraph refutes nodes root goal) where
  -- the graph with its inductive edges alone
  abbrev near_nodes : List (GraphNode I)
  near_nodes = map near nodes

  has_goal_near : (at : ℕ) (asked : I) → HasGoal nodes at asked → HasGoal near_nodes at asked
  has_goal_near at asked h =
      ap (option_map (λ n. n.goal)) (slice_get-map near nodes at) ∙ near_goal (slice_get nodes at) ∙ h

  has_goal_far : (at : ℕ) (asked : I) → HasGoal near_nodes at asked → HasGoal nodes at asked
  has_goal_far at asked h =
      sym (near_goal (slice_get nodes at)) ∙ sym (ap (option_map (λ n. n.goal)) (slice_get-map near nodes at)) ∙ h

  has_edge_near : (at : ℕ) (e : Edge I) → HasEdge nodes at e → e.kind ≡ Inductive → HasEdge near_nodes at e
  has_edge_near at e h k = subst (λ o. IsSomeAnd o (λ n. Contains n.edges e)) (sym (slice_get-map near nodes at))
      (near_edge (slice_get nodes at) e h k)

  has_edge_far : (at : ℕ) (e : Edge I) → HasEdge near_nodes at e → HasEdge nodes at e × (e.kind ≡ Inductive)
  has_edge_far at e h = far_edge (slice_get nodes at) e
      (subst (λ o. IsSomeAnd o (λ n. Contains n.edges e)) (slice_get-map near nodes at) h)

  walk_far : (from to : ℕ) (w : List (Edge I)) → IsWalk near_nodes from w to
      → IsWalk nodes from w to × (walk_kind w ≡ Inductive)
  walk_far from to [] h = (h, refl)
  walk_far from to (e ∷ w) h =
      let here = has_edge_far from e h.0 in
      let rest = walk_far e.target to w h.1 in
      ((here.0, rest.0), ap₂ greater_kind here.1 rest.1)

  module _ (at : ℕ) (asked : I) (r : IsReached nodes root at) (has : HasGoal nodes at asked) where
    reached_far : (place : ℕ) → IsReached near_nodes at place → IsReached nodes root place
    reached_far place s = IsReached-after nodes root at place s.0 r (walk_far at place s.0 s.1).0

    near_graph : IsGraph (λ _ _. Unit {0}) Inductive near_nodes at asked
    near_graph = record {
      rooted = has_goal_near at asked has;
      closed = λ place e s h.
          has_goal_near e.target e.input (refutation.closed place e (reached_far place s) (has_edge_far place e h).0);
      is_shown = λ place n s h. tt;
      cycles = λ place e rest s h. (walk_far place place (e ∷ rest) h).1;
    }

    -- the goals to which inductive steps lead
    close : ReachedGoals (λ _ _. Unit {0}) Inductive near_nodes at asked near_graph
    close = reached_goals (λ _ _. Unit {0}) Inductive near_nodes at asked near_graph

    -- one of them, with its place and what refutes it
    record Fails (own : I) : Type 0 where
      place : ℕ
      is_near : IsReached near_nodes at place
      shown : IsShown refutes Inductive nodes root goal refutation place own

    fails : (own : I) → Contains close.goals own → Fails own
    fails own is =
        let w = close.place_of own is in
        record {
          place = w.0;
          is_near = w.1;
          shown = is_shown refutes Inductive nodes root goal refutation w.0 own
              (reached_far w.0 w.1) (has_goal_far w.0 own w.2);
        }

    refuted_by :
        ((to : ℕ) → LeadsTo nodes IsNotInductive at to → (own : I) → HasGoal nodes to own → IsRefutable refutes own)
        → IsRefutable refutes asked
    refuted_by led =
        refute close.goals (λ own is. (fails own is).shown.shown)
        (close.has at asked ([], refl) (has_goal_near at asked has))
        (λ own is. (fails own is).shown.by_rule)
        (λ own is q among k.
        let f = fails own is in
        let a = f.shown.follow q among in
        let e = has_edge_near f.place a.edge a.has_edge (a.is_kind ∙ k) in
        close.has a.edge.target q.goal
        (IsReached-after near_nodes at f.place a.edge.target (a.edge ∷ []) f.is_near (e, refl))
        (has_goal_near a.edge.target q.goal a.has_goal))
        (λ own is q among k.
        let f = fails own is in
        let a = f.shown.follow q among in
        led a.edge.target
        (leads_after nodes IsNotInductive not_inductive_later at f.place a.edge.target f.is_near.0
        (walk_far at f.place f.is_near.0 f.is_near.1).0
        (leads_by nodes IsNotInductive f.place a.edge a.has_edge (subst IsNotInductive (sym a.is_kind) k)))
        q.goal a.has_goal)

  -- what has a refutation graph is refutable
  pub refutable_from : IsRefutable refutes goal
  refutable_from =
      holds_at refutes Inductive nodes root goal refutation IsNotInductive both_not_inductive (λ n. n refl)
      (λ at. (asked : I) → HasGoal nodes at asked → IsRefutable refutes asked)
      (λ at r led asked has. refuted_by at asked r has led) root ([], refl) goal refutation.rooted

coinductive_or_not : (k : PathKind) → (k ≡ Coinductive) ⊎ IsNotCoinductive k
coinductive_or_not Inductive = inr (λ e. absurd cc)
coinductive_or_not Unknown = inr (λ e. absurd cc)
coinductive_or_not Coinductive = inl refl
coinductive_or_not ForcedAmbiguity = inr (λ e. absurd cc)

inductive_or_not : (k : PathKind) → (k ≡ Inductive) ⊎ IsNotInductive k
inductive_or_not Inductive = inl refl
inductive_or_not Unknown = inr (λ e. absurd cc)
inductive_or_not Coinductive = inr (λ e. absurd cc)
inductive_or_not ForcedAmbiguity = inr (λ e. absurd cc)

module _ {I : Type 0} (proves refutes : I → List (Question I) → Type 0)
    (clash : (asked : I) (held failed : List (Question I)) → proves asked held
    → refutes asked failed → Overlap held failed)
    (given : List I) (are_derived : (asked : I) → Contains given asked → Derives proves given asked) where
  -- The goals that fail together are derived, and one of them is so by a question that failed, and so on. This ends: an
  -- inductive step goes down in the derivation, and any other one leads to what was refuted before.
  module _ (among : List I) (failed : (asked : I) → Contains among asked → List (Question I))
      (by_rule : (asked : I) (is : Contains among asked) → refutes asked (failed asked is))
      (near_in : (asked : I) (is : Contains among asked) (q : Question I) → Contains (failed asked is) q
      → q.kind ≡ Inductive → Contains among q.goal)
      (before : (asked : I) (is : Contains among asked) (q : Question I) → Contains (failed asked is) q
      → IsNotInductive q.kind → Derives proves given q.goal → ⊥) where
    none_derived : (asked : I) → Derives proves given asked → Contains among asked → ⊥
    none_derived asked (derive held proved into led) is =
        let w = clash asked held (failed asked is) proved (by_rule asked is) in
        elim (inductive_or_not w.0.kind) [
          | inl k ↦ none_derived w.0.goal (led w.0 w.1 (λ e. absurd cc)) (near_in asked is w.0 w.2 k)
          | inr not ↦ before asked is w.0 w.2 not (elim (coinductive_or_not w.0.kind) [
            | inl k ↦ are_derived w.0.goal (into w.0 w.1 k)
            | inr other ↦ led w.0 w.1 other
          ])
        ]

  never_derived : (goal : I) → IsRefutable refutes goal → Derives proves given goal → ⊥
  never_derived goal (refute among failed is by_rule near_in before) derived =
      none_derived among failed by_rule near_in
      (λ asked own q has not. never_derived q.goal (before asked own q has not)) goal derived is

-- no goal is derivable and refutable
pub never_both : {I : Type 0} (proves refutes : I → List (Question I) → Type 0)
    (clash : (asked : I) (held failed : List (Question I)) → proves asked held
    → refutes asked failed → Overlap held failed)
    (goal : I) → IsDerivable proves goal → IsRefutable refutes goal → ⊥
never_both proves refutes clash goal d r = never_derived proves refutes clash d.given d.are_derived goal r d.is_derived
