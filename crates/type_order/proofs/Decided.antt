-- A proof graph of a pair gives a simulation, and a refutation graph leaves none.
use Rattle.std.proofs.Common.{◌≡◌, ℕ, ◌⊎◌, inl, inr, List, [], map, Contains, Option, None, Some, refl, sym, subst}
use Rattle.std.specs.Option.{IsSomeAnd}
use Rattle.search_context.proofs.Graphs.{Contains-map, Contains-mapped}
use Rattle.type_order.specs.Below.{Coinductive, GraphNode, IsProofGraph, IsRefutationGraph}
use Rattle.type_order.specs.Below.{Question, Needs, All, Any, Proves, Refutes}
use Rattle.search_context.specs.declared.context.NodeId.{NodeId}
use Rattle.search_context.specs.Decisive.{IsDecidedKind, IsDecisive}
use Rattle.search_context.specs.Verdicts.{IsDefinite}
use Rattle.delegate_parts.specs.declared.outcome.Outcome.TheVariants.{Maybe, No, Overflow, Yes}
use Rattle.type_order.specs.Below.{Outcome, outcome_verdicts}
use Rattle.question_lists.proofs.Ranked.{decisive, scripts}
use Rattle.type_order.specs.Subtypes.{Form, IsBelow, IsSimulation, IsSupportedPair}
use Rattle.type_order.specs.Rule.{asks, needs_of, pair, pairs_of, questions_of}
use Rattle.type_order.specs.declared.delegate.Pair.{Pair}
use Rattle.type_order.proofs.Follows.{follows, Follows, supported}
use Rattle.question_lists.proofs.Coinductive.{HoldsAllTheSame, never_refuted}
use Rattle.question_lists.proofs.Inductive.{IsShown, is_shown}
use Rattle.question_lists.proofs.Reached.{reached_goals, ReachedGoals}

module _ (forms : List Form) where
  abbrev pub proves : Pair → List (Question Pair) → Type 0
  proves goal held = Proves (needs_of forms goal) (questions_of forms goal) held

  abbrev pub refutes : Pair → List (Question Pair) → Type 0
  refutes goal failed = Refutes (needs_of forms goal) (questions_of forms goal) failed

  -- the numbers of both types
  abbrev both : Pair → ℕ × ℕ
  both goal = (goal.left, goal.right)

  module _ (nodes : List (GraphNode Pair)) (root : ℕ) (goal : Pair) (proof : IsProofGraph proves nodes root goal) where
    all : ReachedGoals proves Coinductive nodes root goal proof
    all = reached_goals proves Coinductive nodes root goal proof

    -- the list of the pairs of all places that are reached
    abbrev pairs : List (ℕ × ℕ)
    pairs = map both all.goals

    supported_at : (at : ℕ) (asked : Pair) → IsShown proves Coinductive nodes root goal proof at asked
        → IsSupportedPair forms pairs asked.left asked.right
    supported_at at asked s =
        supported forms pairs asked.left asked.right s.shown
        (λ x y h. let n = s.follow (asks (pair x y)) h in
        Contains-mapped both all.goals (pair x y) (all.has n.edge.target (pair x y) n.is_reached n.has_goal))
        s.by_rule

    is_simulation : IsSimulation forms pairs
    is_simulation l r h =
        let w = Contains-map both all.goals (l, r) h in
        let p = all.place_of w.0 w.1 in
        subst (λ n. IsSupportedPair forms pairs n.0 n.1) w.2
        (supported_at p.0 w.0 (is_shown proves Coinductive nodes root goal proof p.0 w.0 p.1 p.2))

    -- what is proved is below
    pub below_from : IsBelow forms goal.left goal.right
    below_from = record {
      pairs = pairs;
      is_simulation = is_simulation;
      has_pair = Contains-mapped both all.goals goal (all.has root goal ([], refl) proof.rooted);
    }

  -- the pair is below
  abbrev AreBelow : Pair → Type 0
  AreBelow goal = IsBelow forms goal.left goal.right

  -- what is below, and refuted, has a question that failed of a pair that is below, too
  failed_by : (needs : Needs) (asked : List Pair) (failed : List (Question Pair)) → Follows forms needs asked
      → Refutes needs (map asks asked) failed → HoldsAllTheSame AreBelow failed
  failed_by All asked failed below fails =
      let w = Contains-map asks asked fails.0 fails.1 in
      record {
        question = asks w.0;
        has_failed = subst (Contains failed) (sym w.2) fails.2;
        is_coinductive = refl;
        still = below w.0 w.1;
      }
  failed_by Any asked failed below fails =
      record {
        question = asks below.0;
        has_failed = fails (asks below.0) (Contains-mapped asks asked below.0 below.1);
        is_coinductive = refl;
        still = below.2;
      }

  goes_on : (goal : Pair) (failed : List (Question Pair)) → AreBelow goal
      → refutes goal failed → HoldsAllTheSame AreBelow failed
  goes_on goal failed below shown =
      failed_by (needs_of forms goal) (pairs_of forms goal) failed (follows forms goal.left goal.right below) shown

  -- what is refuted is not below
  never_below : (nodes : List (GraphNode Pair)) (root : ℕ) (goal : Pair)
      → IsRefutationGraph refutes nodes root goal → AreBelow goal → ⊥
  never_below nodes root goal refutation below = never_refuted refutes nodes root goal refutation AreBelow goes_on below

  -- the node, if there is one, is the root of a proof graph
  pub proved_below : (node : Option NodeId) (nodes : List (GraphNode Pair)) (goal : Pair)
      → IsSomeAnd node (λ root. IsProofGraph proves nodes root.0 goal) → IsBelow forms goal.left goal.right
  proved_below (Some root) nodes goal h = below_from nodes root.0 goal h
  proved_below None nodes goal h = absurd h

  pub refuted_not_below : (node : Option NodeId) (nodes : List (GraphNode Pair)) (goal : Pair)
      → IsSomeAnd node (λ root. IsRefutationGraph refutes nodes root.0 goal) → IsBelow forms goal.left goal.right → ⊥
  refuted_not_below (Some root) nodes goal h below = never_below nodes root.0 goal h below
  refuted_not_below None nodes goal h below = absurd h

  -- each question is asked coinductively, so pairs are decided where no limit is met
  pub pairs_are_decisive : IsDecisive outcome_verdicts (scripts (needs_of forms) (questions_of forms))
  pairs_are_decisive = decisive (needs_of forms) (questions_of forms) (λ goal q h.
      let w = Contains-map asks (pairs_of forms goal) q h in subst (λ x. IsDecidedKind x.kind) w.2 tt)

-- a definite outcome is yes or no
pub yes_or_no : (r : Outcome) → IsDefinite outcome_verdicts r → (r ≡ Yes) ⊎ (r ≡ No)
yes_or_no Yes h = inl refl
yes_or_no No h = inr refl
yes_or_no Maybe h = absurd (h refl)
yes_or_no Overflow h = absurd (h refl)
