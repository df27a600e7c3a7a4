-- No goal has both a proof graph and a refutation graph. By the clash law the two have an edge of one question at
-- each pair of nodes that share a goal, so both can be walked in step. Some pair comes twice, which closes a walk in
-- each, and both walks have one kind.
use Rattle.std.proofs.Common.{◌≡◌, ℕ, zero, suc, ◌+◌, ◌-◌, ◌<◌, List, [], ◌∷◌, ◌++◌, map, length, slice_get, Option}
use Rattle.std.proofs.Common.{Some, option_map, Contains, refl, sym, ◌∙◌, ap, ap₂, subst, arith}
use Rattle.std.proofs.lemmas.Option.{slice_get_within}
pub use Rattle.list_lemmas.proofs.Lists.{mapped_some}
pub use Rattle.list_lemmas.proofs.Members.{Contains-filtered, Contains-map, Contains-mapped, filtered_member}
use Rattle.search_context.specs.Below.{PathKind, Inductive, Coinductive, greater_kind}
use Rattle.search_context.specs.Words.{Edge, Question, Overlap, GraphNode, question_of, HasGoal, HasEdge, IsWalk}
use Rattle.search_context.specs.Words.{IsReached, walk_kind, IsProofGraph, IsRefutationGraph}
use Rattle.search_context.proofs.Pigeonhole.{pair_twice}

-- the node behind a goal
pub goal_node : {I : Type 0} (o : Option (GraphNode I)) (goal : I) → option_map (λ n. n.goal) o ≡ Some goal
    → (n : GraphNode I) × (o ≡ Some n) × (n.goal ≡ goal)
goal_node o goal h = mapped_some (λ n. n.goal) o goal h

pub HasGoal-within : {I : Type 0} (nodes : List (GraphNode I)) (at : ℕ) (goal : I)
    → HasGoal nodes at goal → at < length nodes
HasGoal-within nodes at goal h = let w = goal_node (slice_get nodes at) goal h in slice_get_within nodes at w.0 w.1

pub HasEdge-from : {I : Type 0} (nodes : List (GraphNode I)) (at : ℕ) (n : GraphNode I) (e : Edge I)
    → slice_get nodes at ≡ Some n → Contains n.edges e → HasEdge nodes at e
HasEdge-from nodes at n e is has = rw is has

-- a walk goes on by one more
IsWalk-append : {I : Type 0} (nodes : List (GraphNode I)) (a b c : ℕ) (p q : List (Edge I)) → IsWalk nodes a p b
    → IsWalk nodes b q c → IsWalk nodes a (p ++ q) c
IsWalk-append nodes a b c [] q w v = subst (λ x. IsWalk nodes x q c) (sym w) v
IsWalk-append nodes a b c (e ∷ p) q w v = (w.0, IsWalk-append nodes e.target b c p q w.1 v)

pub IsReached-step : {I : Type 0} (nodes : List (GraphNode I)) (root at : ℕ) (e : Edge I) → IsReached nodes root at
    → HasEdge nodes at e → IsReached nodes root e.target
IsReached-step nodes root at e w h = (w.0 ++ e ∷ [], IsWalk-append nodes root at e.target w.0 (e ∷ []) w.1 (h, refl))

same_question : {I : Type 0} (e f : Edge I) (q : Question I) → question_of e ≡ q
    → question_of f ≡ q → question_of e ≡ question_of f
same_question e f q l r = l ∙ sym r

-- a kind is not both
Coinductive-apart : (k : PathKind) → k ≡ Coinductive → k ≡ Inductive → ⊥
Coinductive-apart k p q = cc

module _ {I : Type 0} (proves refutes : I → List (Question I) → Type 0)
    (clash : (goal : I) (yes no : List (Question I)) → proves goal yes → refutes goal no → Overlap yes no)
    (nodes others : List (GraphNode I)) (root top : ℕ) (first : I)
    (proof : IsProofGraph proves nodes root first) (refutation : IsRefutationGraph refutes others top first) where
  -- a place in each graph, with the same goal
  record Pair : Type 0 where
    left : ℕ
    right : ℕ
    goal : I
    left_reached : IsReached nodes root left
    right_reached : IsReached others top right
    left_goal : HasGoal nodes left goal
    right_goal : HasGoal others right goal

  -- an edge from each place of a pair, which ask the same
  record Step (from : Pair) : Type 0 where
    left_edge : Edge I
    right_edge : Edge I
    left_has : HasEdge nodes from.left left_edge
    right_has : HasEdge others from.right right_edge
    same : question_of left_edge ≡ question_of right_edge

  step_from : (from : Pair) (n m : GraphNode I) → slice_get nodes from.left ≡ Some n → n.goal ≡ from.goal
      → slice_get others from.right ≡ Some m → m.goal ≡ from.goal → Step from
  step_from from n m is_n goal_n is_m goal_m =
      let yes : proves from.goal (map question_of n.edges) =
      subst (λ g. proves g (map question_of n.edges)) goal_n (proof.is_shown from.left n from.left_reached is_n) in
      let no : refutes from.goal (map question_of m.edges) = subst (λ g. refutes g (map question_of m.edges)) goal_m
      (refutation.is_shown from.right m from.right_reached is_m) in
      let both = clash from.goal (map question_of n.edges) (map question_of m.edges) yes no in
      let l = Contains-map question_of n.edges both.0 both.1 in
      let r = Contains-map question_of m.edges both.0 both.2 in
      record {
        left_edge = l.0;
        right_edge = r.0;
        left_has = HasEdge-from nodes from.left n l.0 is_n l.1;
        right_has = HasEdge-from others from.right m r.0 is_m r.1;
        same = same_question l.0 r.0 both.0 l.2 r.2;
      }

  step : (from : Pair) → Step from
  step from =
      let n = goal_node (slice_get nodes from.left) from.goal from.left_goal in
      let m = goal_node (slice_get others from.right) from.goal from.right_goal in
      step_from from n.0 m.0 n.1 n.2 m.1 m.2

  abbrev next : (from : Pair) → Step from → Pair
  next from s = record {
    left = s.left_edge.target;
    right = s.right_edge.target;
    goal = s.left_edge.input;
    left_reached = IsReached-step nodes root from.left s.left_edge from.left_reached s.left_has;
    right_reached = IsReached-step others top from.right s.right_edge from.right_reached s.right_has;
    left_goal = proof.closed from.left s.left_edge from.left_reached s.left_has;
    right_goal =
        subst (λ q. HasGoal others s.right_edge.target q) (sym (ap (λ q. q.goal) s.same))
        (refutation.closed from.right s.right_edge from.right_reached s.right_has);
  }

  -- both graphs walked in step
  abbrev pair_at : ℕ → Pair
  pair_at zero = record {
    left = root;
    right = top;
    goal = first;
    left_reached = ([], refl);
    right_reached = ([], refl);
    left_goal = proof.rooted;
    right_goal = refutation.rooted;
  }
  pair_at (suc i) = next (pair_at i) (step (pair_at i))

  abbrev left_walk : ℕ → ℕ → List (Edge I)
  left_walk i zero = []
  left_walk i (suc n) = (step (pair_at i)).left_edge ∷ left_walk (suc i) n

  abbrev right_walk : ℕ → ℕ → List (Edge I)
  right_walk i zero = []
  right_walk i (suc n) = (step (pair_at i)).right_edge ∷ right_walk (suc i) n

  left_walk-is : (i n j : ℕ) → i + n ≡ j → IsWalk nodes (pair_at i).left (left_walk i n) (pair_at j).left
  left_walk-is i zero j e = let same : i ≡ j = omega arith in ap (λ k. (pair_at k).left) same
  left_walk-is i (suc n) j e = ((step (pair_at i)).left_has, left_walk-is (suc i) n j (omega arith))

  right_walk-is : (i n j : ℕ) → i + n ≡ j → IsWalk others (pair_at i).right (right_walk i n) (pair_at j).right
  right_walk-is i zero j e = let same : i ≡ j = omega arith in ap (λ k. (pair_at k).right) same
  right_walk-is i (suc n) j e = ((step (pair_at i)).right_has, right_walk-is (suc i) n j (omega arith))

  same_kinds : (i n : ℕ) → walk_kind (left_walk i n) ≡ walk_kind (right_walk i n)
  same_kinds i zero = refl
  same_kinds i (suc n) = ap₂ greater_kind (ap (λ q. q.kind) (step (pair_at i)).same) (same_kinds (suc i) n)

  closes : (i n j : ℕ) → i + suc n ≡ j → (pair_at i).left ≡ (pair_at j).left → (pair_at i).right ≡ (pair_at j).right → ⊥
  closes i n j e l r =
      Coinductive-apart (walk_kind (left_walk i (suc n)))
      (proof.cycles (pair_at i).left (step (pair_at i)).left_edge (left_walk (suc i) n) (pair_at i).left_reached
      (subst (λ x. IsWalk nodes (pair_at i).left (left_walk i (suc n)) x) (sym l) (left_walk-is i (suc n) j e)))
      (same_kinds i (suc n) ∙ refutation.cycles (pair_at i).right (step (pair_at i)).right_edge
      (right_walk (suc i) n) (pair_at i).right_reached
      (subst (λ x. IsWalk others (pair_at i).right (right_walk i (suc n)) x) (sym r) (right_walk-is i (suc n) j e)))

  pub never_both : ⊥
  never_both =
      let w = pair_twice (length nodes) (length others) (λ i. (pair_at i).left) (λ i. (pair_at i).right)
      (λ i. HasGoal-within nodes (pair_at i).left (pair_at i).goal (pair_at i).left_goal)
      (λ i. HasGoal-within others (pair_at i).right (pair_at i).goal (pair_at i).right_goal) in
      closes w.0 (w.1 - suc w.0) w.1 (omega (arith, w.2)) w.3 w.4
