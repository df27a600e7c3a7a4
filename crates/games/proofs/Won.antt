-- A proof graph of a position gives a strategy, and a refutation graph leaves none.
use Rattle.std.proofs.Common.{◌≡◌, ℕ, List, [], map, slice_get, Contains, Option, None, Some, refl, sym, ap}
use Rattle.std.proofs.Common.{subst, arith}
use Rattle.std.specs.Option.{IsSomeAnd, option_map_or}
use Rattle.search_context.proofs.Graphs.{Contains-map, Contains-mapped}
use Rattle.games.specs.Below.{Any, GraphNode, HasGoal, Inductive, IsProofGraph, IsReached, IsRefutationGraph, Needs}
use Rattle.games.specs.Below.{NodeId, Proves, Question, Refutes}
use Rattle.games.specs.Rule.{asks, needs_at, needs_of, questions_of}
use Rattle.games.specs.Strategy.{IsTurn, One, Player, Position, Strategy, Two, move, reply}
use Rattle.question_lists.proofs.Inductive.{holds_from, is_shown}

module _ (positions : List Position) where
  abbrev pub proves : ℕ → List (Question ℕ) → Type 0
  proves at held = Proves (needs_of positions at) (questions_of positions at) held

  abbrev pub refutes : ℕ → List (Question ℕ) → Type 0
  refutes at failed = Refutes (needs_of positions at) (questions_of positions at) failed

  -- One wins from where these questions ask
  abbrev AreWon : List (Question ℕ) → Type 0
  AreWon held = (q : Question ℕ) → Contains held q → q.kind ≡ Inductive → Strategy positions q.goal

  won_on : (at : ℕ) (position : Position) (player : Player) →
      slice_get positions at ≡ Some position → position.turn ≡ player →
      (held : List (Question ℕ)) → Proves (needs_at player) (map asks position.moves.items) held →
      AreWon held → Strategy positions at
  won_on at position One is turn held some won =
      let m = Contains-map asks position.moves.items some.0 some.1 in
      let next =
      subst (Strategy positions) (sym (ap (λ q. q.goal) m.2)) (won some.0 some.2 (sym (ap (λ q. q.kind) m.2))) in
      move position.moves.items m.0
      (record { position = position; is_position = is; is_turn = turn; has_moves = refl }) m.1 next
  won_on at position Two is turn held all won =
      reply position.moves.items (record { position = position; is_position = is; is_turn = turn; has_moves = refl })
      (λ next has. won (asks next) (all (asks next) (Contains-mapped asks position.moves.items next has)) refl)

  won_in : (at : ℕ) (o : Option Position) → slice_get positions at ≡ o → (held : List (Question ℕ)) →
      Proves (option_map_or (λ p. needs_at p.turn) o Any) (map asks (option_map_or (λ p. p.moves.items) o [])) held →
      AreWon held → Strategy positions at
  won_in at None is held some won = absurd (omega (arith, some.1.1))
  won_in at (Some position) is held shown won = won_on at position position.turn is refl held shown won

  -- what is shown by positions that are won is won
  won_by : (at : ℕ) (held : List (Question ℕ)) → proves at held → AreWon held → Strategy positions at
  won_by at held shown won = won_in at (slice_get positions at) refl held shown won

  -- what the rule says on a player's turn
  on_turn : (P : Needs → List (Question ℕ) → Type 0) (at : ℕ) (player : Player) (moves : List ℕ) →
      IsTurn positions at player moves →
      P (needs_of positions at) (questions_of positions at) → P (needs_at player) (map asks moves)
  on_turn P at player moves t h =
      let here =
      subst (λ o. P (option_map_or (λ p. needs_at p.turn) o Any) (map asks (option_map_or (λ p. p.moves.items) o [])))
      t.is_position h in
      let named = subst (λ x. P (needs_at x) (map asks t.position.moves.items)) t.is_turn here in
      subst (λ xs. P (needs_at player) (map asks xs)) t.has_moves named

  module _ (nodes : List (GraphNode ℕ)) (root at : ℕ) where
    pub won_from : IsProofGraph proves nodes root at → Strategy positions at
    won_from proof = holds_from proves nodes root at proof (Strategy positions) won_by

    -- no place of a refutation graph has a strategy
    lost_at : IsRefutationGraph refutes nodes root at → (number : ℕ) → Strategy positions number → (place : ℕ)
        → IsReached nodes root place → HasGoal nodes place number → ⊥
    lost_at refutation number (move moves next turn has rest) place reached goal =
        let s = is_shown refutes Inductive nodes root at refutation place number reached goal in
        let all = on_turn (λ needs questions. Refutes needs questions s.shown) number One moves turn s.by_rule in
        let a = s.follow (asks next) (all (asks next) (Contains-mapped asks moves next has)) in
        lost_at refutation next rest a.edge.target a.is_reached a.has_goal
    lost_at refutation number (reply moves turn all) place reached goal =
        let s = is_shown refutes Inductive nodes root at refutation place number reached goal in
        let some = on_turn (λ needs questions. Refutes needs questions s.shown) number Two moves turn s.by_rule in
        let m = Contains-map asks moves some.0 some.1 in
        let a = s.follow some.0 some.2 in
        lost_at refutation m.0 (all m.0 m.1) a.edge.target a.is_reached
        (subst (HasGoal nodes a.edge.target) (sym (ap (λ q. q.goal) m.2)) a.has_goal)

    pub lost_from : IsRefutationGraph refutes nodes root at → Strategy positions at → ⊥
    lost_from refutation strategy = lost_at refutation at strategy root ([], refl) refutation.rooted

  module _ (nodes : List (GraphNode ℕ)) (at : ℕ) where
    pub won_at_node : (o : Option NodeId)
        → IsSomeAnd o (λ root. IsProofGraph proves nodes root.0 at) → Strategy positions at
    won_at_node None h = absurd h
    won_at_node (Some root) h = won_from nodes root.0 at h

    pub lost_at_node : (o : Option NodeId)
        → IsSomeAnd o (λ root. IsRefutationGraph refutes nodes root.0 at) → Strategy positions at → ⊥
    lost_at_node None h strategy = absurd h
    lost_at_node (Some root) h strategy = lost_from nodes root.0 at h strategy
