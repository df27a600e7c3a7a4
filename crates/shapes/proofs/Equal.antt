-- A proof graph of a pair gives a bisimulation, and a refutation graph leaves none.
use Rattle.std.proofs.Common.{◌≡◌, ℕ, List, [], map, length, slice_get, Contains, Option, None, Some, refl, sym, ap}
use Rattle.std.proofs.Common.{◌∙◌, subst, arith}
use Rattle.search_context.proofs.Graphs.{Contains-map, Contains-mapped}
use Rattle.question_lists.specs.Told.{Contains-at}
use Rattle.shapes.specs.Below.{Coinductive, GraphNode, IsProofGraph, IsRefutationGraph, IsWithin, Overlap, Proves}
use Rattle.shapes.specs.Below.{Question, Refutes}
use Rattle.shapes.specs.Bisimulation.{AreEqual, Equation, IsBisimulation, IsMatchedPair}
use Rattle.shapes.specs.Rule.{asks, asks_each, matched_parts, needs_in, needs_of, questions_in, questions_of}
use Rattle.shapes.specs.declared.delegate.Pair.{Pair}
use Rattle.shapes.proofs.Pairs.{agree, Agree, asks_each-at, matched_by, parts_of}
use Rattle.question_lists.proofs.Coinductive.{HoldsAllTheSame, never_refuted}
use Rattle.question_lists.proofs.Inductive.{IsShown, is_shown}
use Rattle.question_lists.proofs.Reached.{reached_goals, ReachedGoals}

module _ (equations : List Equation) where
  abbrev pub proves : Pair → List (Question Pair) → Type 0
  proves pair held = Proves (needs_of equations pair) (questions_of equations pair) held

  abbrev pub refutes : Pair → List (Question Pair) → Type 0
  refutes pair failed = Refutes (needs_of equations pair) (questions_of equations pair) failed

  -- the numbers of both shapes
  abbrev both : Pair → ℕ × ℕ
  both pair = (pair.left, pair.right)

  -- a pair that is proved is matched
  record IsProvedPair (l r : ℕ) (held : List (Question Pair)) : Type 0 where
    ls : List ℕ
    rs : List ℕ
    are_parts : Agree equations l r ls rs
    within : IsWithin (asks_each ls rs) held

  proved_pair : (l r : ℕ) (held : List (Question Pair)) (o : Option (List ℕ × List ℕ)) → matched_parts equations l r ≡ o
      → Proves (needs_in o) (questions_in o) held → IsProvedPair l r held
  proved_pair l r held None e p = absurd (omega (arith, p.1.1))
  proved_pair l r held (Some parts) e p =
      record { ls = parts.0; rs = parts.1; are_parts = agree equations l r parts.0 parts.1 e; within = p }

  module _ (nodes : List (GraphNode Pair)) (root : ℕ) (pair : Pair) (proof : IsProofGraph proves nodes root pair) where
    all : ReachedGoals proves Coinductive nodes root pair proof
    all = reached_goals proves Coinductive nodes root pair proof

    -- the list of the pairs of all places that are reached
    abbrev pairs : List (ℕ × ℕ)
    pairs = map both all.goals

    matched : (at : ℕ) (asked : Pair) → IsShown proves Coinductive nodes root pair proof at asked
        → IsMatchedPair equations pairs asked.left asked.right
    matched at asked s =
        let w = proved_pair asked.left asked.right s.shown (matched_parts equations asked.left asked.right) refl
        s.by_rule in
        let a = w.are_parts in
        record {
          left = a.left;
          right = a.right;
          has_left = a.has_left;
          has_right = a.has_right;
          are_matched = record {
            label = a.label;
            number = ap length a.left_parts ∙ (a.number ∙ sym (ap length a.right_parts));
            parts = λ i x y e f.
                let q : slice_get (asks_each w.ls w.rs) i ≡ Some (asks x y) =
                asks_each-at w.ls w.rs i x y (ap (λ xs. slice_get xs i) (sym a.left_parts) ∙ e)
                (ap (λ xs. slice_get xs i) (sym a.right_parts) ∙ f) in
                let n = s.follow (asks x y) (w.within (asks x y) (Contains-at (asks_each w.ls w.rs) i (asks x y) q)) in
                Contains-mapped both all.goals (asks x y).goal
                (all.has n.edge.target (asks x y).goal n.is_reached n.has_goal);
          };
        }

    is_bisimulation : IsBisimulation equations pairs
    is_bisimulation l r h =
        let w = Contains-map both all.goals (l, r) h in
        let p = all.place_of w.0 w.1 in
        subst (λ n. IsMatchedPair equations pairs n.0 n.1) w.2
        (matched p.0 w.0 (is_shown proves Coinductive nodes root pair proof p.0 w.0 p.1 p.2))

    -- what is proved is equal
    pub equal_from : AreEqual equations pair.left pair.right
    equal_from = record {
      pairs = pairs;
      is_bisimulation = is_bisimulation;
      has_pair = Contains-mapped both all.goals pair (all.has root pair ([], refl) proof.rooted);
    }

  -- a pair that is refuted and matched has a question that failed
  failed_in : (l r : ℕ) (failed : List (Question Pair)) (parts : List ℕ × List ℕ) (o : Option (List ℕ × List ℕ))
      → o ≡ Some parts → Refutes (needs_in o) (questions_in o) failed → Overlap (asks_each parts.0 parts.1) failed
  failed_in l r failed parts None e h = absurd cc
  failed_in l r failed parts (Some own) e h =
      let same : own ≡ parts = cc in subst (λ p. Overlap (asks_each p.0 p.1) failed) same h

  module _ (nodes : List (GraphNode Pair)) (root : ℕ) (pair : Pair)
      (refutation : IsRefutationGraph refutes nodes root pair)
      (pairs : List (ℕ × ℕ)) (bisimulation : IsBisimulation equations pairs)
      (has_pair : Contains pairs (pair.left, pair.right)) where
    -- a pair of the list that is refuted has a question that failed, whose pair is in the list, too
    goes_on : (asked : Pair) (failed : List (Question Pair)) → Contains pairs (asked.left, asked.right)
        → refutes asked failed → HoldsAllTheSame (λ p. Contains pairs (p.left, p.right)) failed
    goes_on asked failed is_in shown =
        let m = bisimulation asked.left asked.right is_in in
        let by = matched_by equations asked.left asked.right m.left m.right m.has_left m.has_right
        m.are_matched.label m.are_matched.number in
        let o = failed_in asked.left asked.right failed (m.left.parts.items, m.right.parts.items)
        (matched_parts equations asked.left asked.right) by shown in
        let p = parts_of m.left.parts.items m.right.parts.items o.0 o.1 in
        record {
          question = o.0;
          has_failed = o.2;
          is_coinductive = ap (λ q. q.kind) p.same;
          still = subst (Contains pairs) (sym (ap (λ q. (q.goal.left, q.goal.right)) p.same))
              (m.are_matched.parts p.at p.left p.right p.has_left p.has_right);
        }

    -- what is refuted is not equal
    pub never_equal : ⊥
    never_equal =
        never_refuted refutes nodes root pair refutation (λ p. Contains pairs (p.left, p.right)) goes_on has_pair
