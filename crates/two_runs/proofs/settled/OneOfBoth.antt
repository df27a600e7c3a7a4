-- Over one stack no goal has both an answer yes and an answer no, if no node inside their graphs has a goal that is on
-- the stack, or one of a node at which walks stop. By the clash law the two graphs have an edge of one question at each
-- pair of nodes of one goal, so both can be walked in step. A leaf of one graph is then met with the same leaf of the
-- other, by walks of one kind, and no cycle of that goal was answered both yes and no. Another node at which walks stop
-- is met with itself, and it is not both yes and no. Where neither is met, some
-- pair comes twice, which closes a walk of one kind in each graph.
use Rattle.std.proofs.Common.{◌≡◌, ℕ, zero, suc, ◌+◌, ◌-◌, ◌≤◌, max, Bool, List, [], ◌∷◌, map, length, slice_get}
use Rattle.std.proofs.Common.{Contains, Option, None, Some, option_map, ◌⊎◌, inl, inr, refl, sym, ap, ◌∙◌, subst, arith}
use Rattle.std.specs.Option.{IsSomeAnd}
use Rattle.std.proofs.lemmas.Option.{slice_get_within}
use Rattle.open_graphs.specs.Graph as theory
use Rattle.open_graphs.specs.Words.{Yes, No, Node, IsFinished, HasShapeEdge, Walk, stay, go, Entry, IsLeaf, Accepts}
use Rattle.open_graphs.specs.Words.{Step, Heads, Use}
use Rattle.open_graphs.proofs.Walks.{then_step}
use Rattle.open_graphs.proofs.Paths.{covered_walk}
use Rattle.open_graphs.proofs.Keep.{leaf_cases}
use Rattle.two_runs.specs.Below.{AreRuns, CacheNode, Coinductive, Edge, Inductive, IsNodeOf, NodeId, Overlap, PathKind}
use Rattle.two_runs.specs.Below.{Question, question_of, rank_of, Reply, Request, shapes_of, stack_of, Verdicts}
use Rattle.search_context.proofs.Rules.{KeepsRule}
use Rattle.search_context.proofs.Pigeonhole.{pair_twice}
use Rattle.search_context.proofs.Graphs.{Contains-map}
use Rattle.graph_nodes.proofs.Bridge.{Ended, IsSort, ended_finished, edge_step, shown_by_run, yes_sort, no_sort}
use Rattle.search_rules.specs.Words.{AreSupported, cycles_node, frame_of, frames_of, OpenRun}
use Rattle.two_runs.specs.Leads.{StepOn, WalksToGoals}
use Rattle.two_runs.specs.Settled.{IsOff}
use Rattle.two_runs.proofs.settled.StoppedWalks.{unstopped}
use Rattle.lean_runs.proofs.Places.{place_among}
use Rattle.search_rules.proofs.justified.Justified.{no_answers}

-- ---- shapes

-- Paths to one entry, in a graph for yes and in one for no, that the same walk leads along but for closed walks: cycles
-- of their kinds were not answered yes and no.
accepts_one : (entry : Entry) (s t p f : ℕ) → s ≤ p → p ≤ max t 0 → Accepts Yes entry (max (max 0 s) f)
    → Accepts No entry (max (max 0 t) f) → ⊥
accepts_one entry s t p f above below (inl y) (inl n) = absurd cc
accepts_one entry s t p f above below (inl y) (inr n) = let none = n.0 in absurd cc
accepts_one entry s t p f above below (inr y) (inl n) = let none = y.0 in absurd cc
accepts_one entry s t p f above below (inr y) (inr n) = let h = y.1 in let k = n.1 in omega arith

-- an edge from each of two nodes, of one kind, to two nodes that are alike again
record Shared (nodes : List Node) (Alike : ℕ → ℕ → Type 0) (x y : ℕ) : Type 0 where
  kind : ℕ
  left : ℕ
  right : ℕ
  left_edge : HasShapeEdge nodes Yes x kind left
  right_edge : HasShapeEdge nodes No y kind right
  alike : Alike left right

-- Two nodes are alike if they have one goal. Walks stop at leaves and at further nodes. Nodes that are alike, and that
-- walks of one kind lead to, are the same leaf if walks stop at one of them.
module _ (nodes : List Node) (stack : List Entry) (Stops : ℕ → Type 0) (from_head : ℕ → ℕ) (a b : ℕ) (ha hb : Heads)
    (proof : Use nodes Yes stack from_head 0 a ha) (refutation : Use nodes No stack from_head 0 b hb)
    (Alike : ℕ → ℕ → Type 0) (at_roots : Alike a b)
    (share : (x y : ℕ) → Alike x y → IsFinished nodes Yes x → IsFinished nodes No y → Shared nodes Alike x y)
    (meet : (x y p : ℕ) → Alike x y → Walk (StepOn nodes Yes stack Stops) a p x
    → Walk (StepOn nodes No stack Stops) b p y → (IsLeaf stack x ⊎ Stops x) ⊎ (IsLeaf stack y ⊎ Stops y)
    → (IsLeaf stack x → x ≡ y → ⊥) → ⊥) where
  -- walks of one kind lead to no leaf in both graphs
  no_leaf : (x p : ℕ) → Walk (Step nodes Yes stack) a p x → Walk (Step nodes No stack) b p x → IsLeaf stack x → ⊥
  no_leaf x p v w l =
      let y = covered_walk nodes Yes stack from_head 0 a ha proof l.0 l.1 p l.2
      (subst (Walk (Step nodes Yes stack) a p) (sym l.3) v) in
      let n = covered_walk nodes No stack from_head 0 b hb refutation l.0 l.1 p l.2
      (subst (Walk (Step nodes No stack) b p) (sym l.3) w) in
      accepts_one l.1 y.path n.path p (from_head l.0) y.above n.below y.accepted n.accepted

  -- a place in each graph, which are alike, and walks of one kind to them
  record Pair : Type 0 where
    left : ℕ
    right : ℕ
    kind : ℕ
    left_walk : Walk (StepOn nodes Yes stack Stops) a kind left
    right_walk : Walk (StepOn nodes No stack Stops) b kind right
    alike : Alike left right

  left_came : (p : Pair) → Walk (Step nodes Yes stack) a p.kind p.left
  left_came p = unstopped nodes Yes stack Stops p.left_walk

  right_came : (p : Pair) → Walk (Step nodes No stack) b p.kind p.right
  right_came p = unstopped nodes No stack Stops p.right_walk

  neither_stops : (p : Pair) → (IsLeaf stack p.left ⊎ Stops p.left) ⊎ (IsLeaf stack p.right ⊎ Stops p.right) → ⊥
  neither_stops p l =
      meet p.left p.right p.kind p.alike p.left_walk p.right_walk l
      (λ leaf same. no_leaf p.left p.kind (left_came p)
      (subst (Walk (Step nodes No stack) b p.kind) (sym same) (right_came p)) leaf)

  left_finished : (p : Pair) → IsFinished nodes Yes p.left
  left_finished p = elim (proof.open_graph.placed p.left p.kind (left_came p)) [
    | inl l ↦ absurd (neither_stops p (inl (inl l)))
    | inr f ↦ f
  ]

  right_finished : (p : Pair) → IsFinished nodes No p.right
  right_finished p = elim (refutation.open_graph.placed p.right p.kind (right_came p)) [
    | inl l ↦ absurd (neither_stops p (inr (inl l)))
    | inr f ↦ f
  ]

  shared : (p : Pair) → Shared nodes Alike p.left p.right
  shared p = share p.left p.right p.alike (left_finished p) (right_finished p)

  left_step : (p : Pair) → StepOn nodes Yes stack Stops p.left (shared p).kind (shared p).left
  left_step p = record {
    step = record { edge = (shared p).left_edge; inner = λ l. neither_stops p (inl (inl l)) };
    on = λ stop. neither_stops p (inl (inr stop));
  }

  right_step : (p : Pair) → StepOn nodes No stack Stops p.right (shared p).kind (shared p).right
  right_step p = record {
    step = record { edge = (shared p).right_edge; inner = λ l. neither_stops p (inr (inl l)) };
    on = λ stop. neither_stops p (inr (inr stop));
  }

  -- both graphs walked in step
  abbrev pair_at : ℕ → Pair
  pair_at zero = record { left = a; right = b; kind = 0; left_walk = stay; right_walk = stay; alike = at_roots }
  pair_at (suc i) = record {
    left = (shared (pair_at i)).left;
    right = (shared (pair_at i)).right;
    kind = max (pair_at i).kind (shared (pair_at i)).kind;
    left_walk = then_step (StepOn nodes Yes stack Stops) (pair_at i).left_walk (left_step (pair_at i));
    right_walk = then_step (StepOn nodes No stack Stops) (pair_at i).right_walk (right_step (pair_at i));
    alike = (shared (pair_at i)).alike;
  }

  -- the kind of so many steps from a pair
  abbrev kind_of : ℕ → ℕ → ℕ
  kind_of i zero = 0
  kind_of i (suc n) = max (shared (pair_at i)).kind (kind_of (suc i) n)

  left_walk : (i n j : ℕ) → i + n ≡ j → Walk (Step nodes Yes stack) (pair_at i).left (kind_of i n) (pair_at j).left
  left_walk i zero j e = let same : i ≡ j = omega arith in
      subst (λ k. Walk (Step nodes Yes stack) (pair_at i).left 0 (pair_at k).left) same stay
  left_walk i (suc n) j e = go (left_step (pair_at i)).step (left_walk (suc i) n j (omega arith))

  right_walk : (i n j : ℕ) → i + n ≡ j → Walk (Step nodes No stack) (pair_at i).right (kind_of i n) (pair_at j).right
  right_walk i zero j e = let same : i ≡ j = omega arith in
      subst (λ k. Walk (Step nodes No stack) (pair_at i).right 0 (pair_at k).right) same stay
  right_walk i (suc n) j e = go (right_step (pair_at i)).step (right_walk (suc i) n j (omega arith))

  closes : (i n j : ℕ) → i + suc n ≡ j → (pair_at i).left ≡ (pair_at j).left → (pair_at i).right ≡ (pair_at j).right → ⊥
  closes i n j e l r =
      let p = pair_at i in
      let two : kind_of i (suc n) ≡ 2 =
      proof.open_graph.closed p.left p.kind (shared p).kind (shared p).left
      (kind_of (suc i) n) (left_came p) (left_step p).step
      (subst (Walk (Step nodes Yes stack) (shared p).left (kind_of (suc i) n)) (sym l)
      (left_walk (suc i) n j (omega (arith, e)))) in
      let none : kind_of i (suc n) ≡ 0 =
      refutation.open_graph.closed p.right p.kind (shared p).kind (shared p).right
      (kind_of (suc i) n) (right_came p) (right_step p).step
      (subst (Walk (Step nodes No stack) (shared p).right (kind_of (suc i) n)) (sym r)
      (right_walk (suc i) n j (omega (arith, e)))) in
      omega (arith, two, none)

  -- there are not both a use for yes and a use for no
  never_both_used : ⊥
  never_both_used =
      let w = pair_twice (length nodes) (length nodes) (λ i. (pair_at i).left) (λ i. (pair_at i).right)
      (λ i. let f = left_finished (pair_at i) in slice_get_within nodes (pair_at i).left (theory.Finished Yes f.0) f.1)
      (λ i. let f = right_finished (pair_at i) in
      slice_get_within nodes (pair_at i).right (theory.Finished No f.0) f.1) in
      closes w.0 (w.1 - suc w.0) w.1 (omega (arith, w.2)) w.3 w.4

-- ---- goals

-- no two of the goals under evaluation are the same
abbrev pub HaveDistinctGoals : {I R : Type 0} → List (OpenRun I R) → Type 0
HaveDistinctGoals {I} {R} goals =
    (i j : ℕ) (o p : OpenRun I R) → slice_get goals i ≡ Some o → slice_get goals j ≡ Some p → o.goal ≡ p.goal → i ≡ j

-- a goal that is none of those under evaluation is not the one at a place of them
pub off_at : {I R : Type 0} (goals : List (OpenRun I R)) (goal : I) → IsOff goals goal → (i : ℕ) (o : OpenRun I R)
    → slice_get goals i ≡ Some o → o.goal ≡ goal → ⊥
off_at [] goal off i o at is = no_answers i o at
off_at (p ∷ below) goal off zero o at is =
    let one : p ≡ o = cc in off.0 (sym (ap (λ (x : OpenRun _ _). x.goal) one ∙ is))
off_at (p ∷ below) goal off (suc i) o at is = off_at below goal off.1 i o at is

module _ {I R : Type 0} (nodes : List (CacheNode I R)) where
  pub one_goal : (at : ℕ) (goal other : I) → IsNodeOf nodes at goal → IsNodeOf nodes at other → goal ≡ other
  one_goal at goal other is also = let same : Some goal ≡ Some other = sym is ∙ also in cc

  -- a goal under evaluation of which the node is a leaf
  pub record LeafOf (goals : List (OpenRun I R)) (n : ℕ) : Type 0 where
    pub index : ℕ
    pub run : OpenRun I R
    pub at : slice_get goals index ≡ Some run
    pub is : cycles_node run ≡ n
    pub home : IsNodeOf nodes n run.goal

  pub leads_home : (o : OpenRun I R) (lead : Option NodeId) → IsSomeAnd lead (λ n. IsNodeOf nodes n.0 o.goal)
      → IsNodeOf nodes (elim lead [ None ↦ o.own | Some n ↦ n.0 ]) o.goal
  leads_home o None h = absurd h
  leads_home o (Some n) h = h

  pub leaf_of : (says : Verdicts R) (goals : List (OpenRun I R)) → AreSupported says nodes goals → (n : ℕ)
      → IsLeaf (stack_of (frames_of says goals)) n → LeafOf goals n
  leaf_of says [] h n l = let none = l.2 in absurd cc
  leaf_of says (o ∷ below) h n l = elim (leaf_cases (stack_of (frames_of says below)) (frame_of says o).entry n l) [
    | inl lower ↦ let w = leaf_of says below h.1 n lower in
        record { index = suc w.index; run = w.run; at = w.at; is = w.is; home = w.home }
    | inr here ↦ record {
      index = 0;
      run = o;
      at = refl;
      is = here;
      home = subst (λ x. IsNodeOf nodes x o.goal) here (leads_home o o.cycles_lead h.0.lead_home);
    }
  ]

  -- two leaves of one goal are the same
  same_leaf : (goals : List (OpenRun I R)) → HaveDistinctGoals goals → (x y : ℕ) (goal : I) → IsNodeOf nodes x goal
      → IsNodeOf nodes y goal → LeafOf goals x → LeafOf goals y → x ≡ y
  same_leaf goals distinct x y goal is_x is_y l k =
      let same : l.run.goal ≡ k.run.goal =
      one_goal x l.run.goal goal l.home is_x ∙ one_goal y goal k.run.goal is_y k.home in
      let here : Some l.run ≡ Some k.run =
      sym l.at ∙ (ap (slice_get goals) (distinct l.index k.index l.run k.run l.at k.at same) ∙ k.at) in
      let run : l.run ≡ k.run = cc in
      sym l.is ∙ (ap cycles_node run ∙ k.is)

module _ {I R : Type 0} (says : Verdicts R) (scripts : I → List (Reply R) → Request I R)
    (nodes : List (CacheNode I R)) (runs : AreRuns says scripts nodes)
    (proves refutes : I → List (Question I) → Type 0)
    (clash : (goal : I) (held failed : List (Question I)) → proves goal held
    → refutes goal failed → Overlap held failed)
    (yes_is_proved : KeepsRule says.is_yes scripts proves) (no_is_refuted : KeepsRule says.is_no scripts refutes) where
  -- both nodes are of one goal
  abbrev Alike : ℕ → ℕ → Type 0
  Alike x y = (goal : I) × IsNodeOf nodes x goal × IsNodeOf nodes y goal

  -- a node of the verdict shows its goal by each rule that the verdict's runs keep
  shown_at : (verdict : theory.Verdict) (test : R → Bool) (kind : PathKind) → IsSort I says verdict test kind
      → (rule : I → List (Question I) → Type 0) → KeepsRule test scripts rule
      → (at : ℕ) (goal : I) → IsNodeOf nodes at goal → (n : Ended says verdict (slice_get nodes at))
      → rule goal (map question_of n.run.edges)
  shown_at verdict test kind sort rule law at goal is n =
      let of_goal : IsNodeOf nodes at n.node.goal = ap (option_map (λ m. m.goal)) n.is in
      subst (λ g. rule g (map question_of n.run.edges)) (one_goal nodes at n.node.goal goal of_goal is)
      (shown_by_run says scripts nodes verdict test kind sort rule law n.node.goal n.run
      (runs at n.node n.run n.is n.ended) n.sort)

  -- an edge of the node that asks the question
  record Asks (verdict : theory.Verdict) (at : ℕ) (q : Question I) : Type 0 where
    target : ℕ
    edge : HasShapeEdge (shapes_of says nodes) verdict at (rank_of q.kind) target
    home : IsNodeOf nodes target q.goal

  asks_by : (verdict : theory.Verdict) (at : ℕ) (n : Ended says verdict (slice_get nodes at)) (q : Question I) (i : ℕ)
      (e : Edge I) → slice_get n.run.edges i ≡ Some e → question_of e ≡ q → Asks verdict at q
  asks_by verdict at n q i e is same = record {
    target = e.target;
    edge = subst (λ k. HasShapeEdge (shapes_of says nodes) verdict at (rank_of k) e.target) (ap (λ q. q.kind) same)
        (edge_step says nodes verdict at n i e is);
    home = subst (IsNodeOf nodes e.target) (ap (λ q. q.goal) same) ((runs at n.node n.run n.is n.ended).targets i e is);
  }

  asks : (verdict : theory.Verdict) (at : ℕ) (n : Ended says verdict (slice_get nodes at)) (q : Question I)
      → Contains (map question_of n.run.edges) q → Asks verdict at q
  asks verdict at n q has =
      let e = Contains-map question_of n.run.edges q has in
      let i = place_among n.run.edges e.0 e.1 in
      asks_by verdict at n q i.0 e.0 i.1 e.2

  share : (x y : ℕ) → Alike x y → IsFinished (shapes_of says nodes) Yes x → IsFinished (shapes_of says nodes) No y
      → Shared (shapes_of says nodes) Alike x y
  share x y alike is_yes is_no =
      let n = ended_finished says nodes Yes x is_yes in
      let m = ended_finished says nodes No y is_no in
      let both = clash alike.0 (map question_of n.run.edges) (map question_of m.run.edges)
      (shown_at Yes says.is_yes Coinductive (yes_sort says) proves yes_is_proved x alike.0 alike.1 n)
      (shown_at No says.is_no Inductive (no_sort says) refutes no_is_refuted y alike.0 alike.2 m) in
      let l = asks Yes x n both.0 both.1 in
      let r = asks No y m both.0 both.2 in
      record {
        kind = rank_of both.0.kind;
        left = l.target;
        right = r.target;
        left_edge = l.edge;
        right_edge = r.edge;
        alike = (both.0.goal, l.home, r.home);
      }

  -- A goal does not have both a node that may be used for yes over the goals under evaluation and one that may be used
  -- for no, if no goal that their graphs come to is one of these goals, or one of a node at which walks stop. Two such
  -- nodes of one goal are the same.
  module _ (below : List (OpenRun I R)) (supported : AreSupported says nodes below) (distinct : HaveDistinctGoals below)
      (from_head : ℕ → ℕ) (goal : I) (a b : ℕ)
      (is_a : IsNodeOf nodes a goal) (is_b : IsNodeOf nodes b goal) (ha hb : Heads)
      (Stops : ℕ → Type 0) (Holds : I → Type 0)
      (off : (goal : I) → Holds goal → IsOff below goal)
      (past : (goal : I) → Holds goal → (n : ℕ) → Stops n → IsNodeOf nodes n goal → ⊥)
      (stop_off : (n : ℕ) → Stops n → (goal : I) → IsNodeOf nodes n goal → IsOff below goal)
      (stop_same : (x y : ℕ) → Stops x → Stops y → Alike x y → x ≡ y)
      (proof : Use (shapes_of says nodes) Yes (stack_of (frames_of says below)) from_head 0 a ha)
      (refutation : Use (shapes_of says nodes) No (stack_of (frames_of says below)) from_head 0 b hb)
      (yes_leads : WalksToGoals says nodes Stops Holds Yes (stack_of (frames_of says below)) a)
      (no_leads : WalksToGoals says nodes Stops Holds No (stack_of (frames_of says below)) b) where
    abbrev stack : List Entry
    stack = stack_of (frames_of says below)

    -- a leaf's goal is under evaluation
    not_off : (n : ℕ) → IsLeaf stack n → (goal : I) → IsNodeOf nodes n goal → IsOff below goal → ⊥
    not_off n leaf goal is goal_off = let l = leaf_of nodes says below supported n leaf in
        off_at below goal goal_off l.index l.run l.at (one_goal nodes n l.run.goal goal l.home is)

    both_stop : (x y p : ℕ) → Walk (StepOn (shapes_of says nodes) Yes stack Stops) a p x
        → Walk (StepOn (shapes_of says nodes) No stack Stops) b p y → (IsLeaf stack x → x ≡ y → ⊥) → x ≡ y → ⊥
    both_stop x y p v w apart same =
        elim (proof.open_graph.placed x p (unstopped (shapes_of says nodes) Yes stack Stops v)) [
          | inl leaf ↦ apart leaf same
          | inr f ↦ elim (refutation.open_graph.placed y p (unstopped (shapes_of says nodes) No stack Stops w)) [
            | inl leaf ↦ apart (subst (IsLeaf stack) (sym same) leaf) same
            | inr g ↦
                let yes : slice_get (shapes_of says nodes) y ≡ Some (theory.Finished Yes f.0) =
                subst (λ n. slice_get (shapes_of says nodes) n ≡ Some (theory.Finished Yes f.0)) same f.1 in
                let no : slice_get (shapes_of says nodes) y ≡ Some (theory.Finished No g.0) = g.1 in
                absurd cc
          ]
        ]

    meet :
        (x y p : ℕ) → Alike x y
        → Walk (StepOn (shapes_of says nodes) Yes stack Stops) a p x
        → Walk (StepOn (shapes_of says nodes) No stack Stops) b p y
        → (IsLeaf stack x ⊎ Stops x) ⊎ (IsLeaf stack y ⊎ Stops y) → (IsLeaf stack x → x ≡ y → ⊥) → ⊥
    meet x y p alike v w (inl (inl leaf)) apart = elim (no_leads y p w) [
      | inl other ↦ apart leaf (same_leaf nodes below distinct x y alike.0 alike.1 alike.2
          (leaf_of nodes says below supported x leaf) (leaf_of nodes says below supported y other))
      | inr rest ↦ elim rest [
        | inl stop ↦ not_off x leaf alike.0 alike.1 (stop_off y stop alike.0 alike.2)
        | inr i ↦ not_off x leaf alike.0 alike.1 (off alike.0 (i.1 alike.0 alike.2))
      ]
    ]
    meet x y p alike v w (inl (inr stop)) apart = elim (no_leads y p w) [
      | inl leaf ↦ not_off y leaf alike.0 alike.2 (stop_off x stop alike.0 alike.1)
      | inr rest ↦ elim rest [
        | inl other ↦ both_stop x y p v w apart (stop_same x y stop other alike)
        | inr i ↦ past alike.0 (i.1 alike.0 alike.2) x stop alike.1
      ]
    ]
    meet x y p alike v w (inr (inl leaf)) apart = elim (yes_leads x p v) [
      | inl other ↦ apart other (same_leaf nodes below distinct x y alike.0 alike.1 alike.2
          (leaf_of nodes says below supported x other) (leaf_of nodes says below supported y leaf))
      | inr rest ↦ elim rest [
        | inl stop ↦ not_off y leaf alike.0 alike.2 (stop_off x stop alike.0 alike.1)
        | inr i ↦ not_off y leaf alike.0 alike.2 (off alike.0 (i.1 alike.0 alike.1))
      ]
    ]
    meet x y p alike v w (inr (inr stop)) apart = elim (yes_leads x p v) [
      | inl leaf ↦ not_off x leaf alike.0 alike.1 (stop_off y stop alike.0 alike.2)
      | inr rest ↦ elim rest [
        | inl other ↦ both_stop x y p v w apart (stop_same x y other stop alike)
        | inr i ↦ past alike.0 (i.1 alike.0 alike.1) y stop alike.2
      ]
    ]

    pub one_of_both : ⊥
    one_of_both =
        never_both_used (shapes_of says nodes) stack Stops from_head a b ha hb proof
        refutation Alike (goal, is_a, is_b) share meet
