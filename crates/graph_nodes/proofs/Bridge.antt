-- From an open graph without heads to a graph of goals: where all that a node reaches has its verdict, and every cycle
-- has the verdict's kind, the node's goal has a proof graph or a refutation graph. The theory of open graphs knows
-- nodes by their shapes alone. What the graph of goals needs beside them are the runs: each goal is shown by its edges'
-- questions, which is the delegate's law, and each edge leads to a node of the goal that it asks.
use Rattle.std.proofs.Common.{◌≡◌, ℕ, zero, max, Bool, true, false, if◌then◌else◌, List, [], ◌∷◌, map, Option, None}
use Rattle.std.proofs.Common.{Some, option_map, slice_get, reverse, Contains, refl, sym, ◌∙◌, ap, subst}
use Rattle.std.specs.Option.{IsSome, IsSomeAnd}
use Rattle.std.proofs.lemmas.Option.{slice_get-map, slice_get-get_or}
use Rattle.open_graphs.specs.Graph as theory
use Rattle.graph_nodes.specs.Below.{Walk, stay, go, cycle_kind, PathKind, Inductive, Coinductive, rank_of, Request}
use Rattle.graph_nodes.specs.Below.{Reply, Edge, Question, progress_after, questions_answered, GraphNode, question_of}
use Rattle.graph_nodes.specs.Below.{HasGoal, HasEdge, IsWalk, IsReached, walk_kind, verdict_of, Verdicts}
use Rattle.graph_nodes.specs.Words.{EndedRun, CacheNode, IsNodeOf, IsRun, AreRuns, graph_node_of, graph_nodes_of}
use Rattle.graph_nodes.specs.Words.{IsWhole, edge_shape, shape_of, shapes_of}
use Rattle.open_graphs.proofs.Verdicts.{edges_of}
use Rattle.search_context.specs.Graph.{IsGraph}
use Rattle.path_kinds.proofs.PathRanks.{same_kind, greater_rank}
use Rattle.search_context.proofs.Rules.{KeepsRule}
use Rattle.graph_nodes.proofs.NodeLists.{node_at}

-- what is reached from the root of a graph is the root of one
graph_behind : (nodes : List theory.Node) (verdict : theory.Verdict) (a k b : ℕ)
    → theory.HasShapeEdge nodes verdict a k b → theory.IsClosedGraph nodes verdict a
    → theory.IsClosedGraph nodes verdict b
graph_behind nodes verdict a k b edge g = record {
  finished = λ c q w. g.finished c (max k q) (go edge w);
  closed = λ c q l d r w e x. g.closed c (max k q) l d r (go edge w) e x;
}

module _ {I R : Type 0} (says : Verdicts R) where
  -- a node whose run ended with the verdict
  pub record Ended (verdict : theory.Verdict) (o : Option (CacheNode I R)) : Type 0 where
    pub node : CacheNode I R
    pub run : EndedRun I R
    pub is : o ≡ Some node
    pub ended : node.run ≡ Some run
    pub sort : verdict_of says run.outcome ≡ verdict

  ended_run : (verdict : theory.Verdict) (n : CacheNode I R) (r : Option (EndedRun I R)) (edges : List theory.Edge)
      → Some (shape_of says (record n { run = r })) ≡ Some (theory.Finished verdict edges)
      → Ended verdict (Some (record n { run = r }))
  ended_run verdict n None edges e = absurd cc
  ended_run verdict n (Some run) edges e =
      record { node = record n { run = Some run }; run = run; is = refl; ended = refl; sort = cc }

  ended_node : (verdict : theory.Verdict) (o : Option (CacheNode I R)) (edges : List theory.Edge)
      → option_map (shape_of says) o ≡ Some (theory.Finished verdict edges) → Ended verdict o
  ended_node verdict None edges e = absurd cc
  ended_node verdict (Some n) edges e = ended_run verdict n n.run edges e

  module _ (nodes : List (CacheNode I R)) (verdict : theory.Verdict) where
    abbrev Known : ℕ → Type 0
    Known at = theory.IsClosedGraph (shapes_of says nodes) verdict at

    abbrev Step : ℕ → ℕ → ℕ → Type 0
    Step = theory.HasShapeEdge (shapes_of says nodes) verdict

    -- a node whose shape is finished with the verdict
    pub ended_finished : (at : ℕ) → theory.IsFinished (shapes_of says nodes) verdict at
        → Ended verdict (slice_get nodes at)
    ended_finished at f =
        ended_node verdict (slice_get nodes at) f.0 (sym (slice_get-map (shape_of says) nodes at) ∙ f.1)

    -- the root of a graph is finished with its verdict
    pub ended_at : (at : ℕ) → Known at → Ended verdict (slice_get nodes at)
    ended_at at g = ended_finished at (edges_of (shapes_of says nodes) verdict at (g.finished at 0 stay))

    -- the shape of an edge of its run
    pub edge_step : (at : ℕ) (n : Ended verdict (slice_get nodes at)) (i : ℕ) (e : Edge I)
        → slice_get n.run.edges i ≡ Some e → Step at (rank_of e.kind) e.target
    edge_step at n i e is = record {
      edges = map edge_shape n.run.edges;
      index = i;
      finished =
          slice_get-map (shape_of says) nodes at
          ∙ (ap (option_map (shape_of says)) n.is
          ∙ (ap (λ r. Some (shape_of says (record n.node { run = r }))) n.ended
          ∙ ap (λ v. Some (theory.Finished v (map edge_shape n.run.edges))) n.sort));
      edge = slice_get-map edge_shape n.run.edges i ∙ ap (option_map edge_shape) is;
    }

    graph_node_at : (at : ℕ) (n : Ended verdict (slice_get nodes at))
        → slice_get (graph_nodes_of nodes) at ≡ Some (record { goal = n.node.goal; edges = n.run.edges })
    graph_node_at at n =
        slice_get-map graph_node_of nodes at
        ∙ (ap (option_map graph_node_of) n.is
        ∙ ap (λ r. Some (graph_node_of (record n.node { run = r }))) n.ended)

    -- the place of an edge among those of its node
    edge_at : (at : ℕ) (n : Ended verdict (slice_get nodes at)) (e : Edge I) → HasEdge (graph_nodes_of nodes) at e
        → (i : ℕ) × (slice_get n.run.edges i ≡ Some e)
    edge_at at n e h =
        let has : Contains n.run.edges e = subst (λ o. IsSomeAnd o (λ m. Contains m.edges e)) (graph_node_at at n) h in
        (has.0, slice_get-get_or n.run.edges has.0 e has.1 ∙ ap Some has.2)

    step_of : (at : ℕ) → Known at → (e : Edge I)
        → HasEdge (graph_nodes_of nodes) at e → Step at (rank_of e.kind) e.target
    step_of at g e h =
        let n = ended_at at g in
        let i = edge_at at n e h in
        edge_step at n i.0 e i.1

    -- a walk over the edges, where it ends, and that what it comes to is the root of a graph
    walk_of : (from to : ℕ) (walk : List (Edge I)) → Known from → IsWalk (graph_nodes_of nodes) from walk to
        → Walk Step from (rank_of (walk_kind walk)) to × Known to
    walk_of from to [] g w = (subst (λ x. Walk Step from zero x) w stay, subst Known w g)
    walk_of from to (e ∷ rest) g w =
        let s = step_of from g e w.0 in
        let r =
        walk_of e.target to rest (graph_behind (shapes_of says nodes) verdict from (rank_of e.kind) e.target s g) w.1 in
        (subst (λ q. Walk Step from q to) (greater_rank e.kind (walk_kind rest)) (go s r.0), r.1)

    pub known_at : (root at : ℕ) → Known root → IsReached (graph_nodes_of nodes) root at → Known at
    known_at root at g w = (walk_of root at w.0 g w.1).1

    -- all that the root of a graph reaches is finished
    pub whole_from_graph : (root : ℕ) → Known root → IsWhole nodes root
    whole_from_graph root g at w =
        let n = ended_at at (known_at root at g w) in
        subst (λ o. IsSome (elim o [ None ↦ None | Some m ↦ elim m.run [ None ↦ None | Some run ↦ Some m ] ]))
        (sym n.is)
        (subst (λ r. IsSome (elim r [ None ↦ None | Some run ↦ Some n.node ])) (sym n.ended) refl)

  module _ (scripts : I → List (Reply R) → Request I R)
      (nodes : List (CacheNode I R)) (runs : AreRuns says scripts nodes)
      (verdict : theory.Verdict) (rule : I → List (Question I) → Type 0) (kind : PathKind)
      (cycles : rank_of kind ≡ cycle_kind verdict)
      (settles : (n : CacheNode I R) (run : EndedRun I R) → IsRun says (scripts n.goal) nodes run
      → verdict_of says run.outcome ≡ verdict → rule n.goal (map question_of run.edges)) where
    HasGoal-from : (at : ℕ) (goal : I) → IsNodeOf nodes at goal → HasGoal (graph_nodes_of nodes) at goal
    HasGoal-from at goal h =
        let w = node_at (slice_get nodes at) goal h in
        ap (option_map (λ n. n.goal)) (slice_get-map graph_node_of nodes at ∙ ap (option_map graph_node_of) w.1)
        ∙ ap Some w.2

    closed_at : (at : ℕ) (e : Edge I) → Known nodes verdict at → HasEdge (graph_nodes_of nodes) at e
        → HasGoal (graph_nodes_of nodes) e.target e.input
    closed_at at e g h =
        let n = ended_at nodes verdict at g in
        let i = edge_at nodes verdict at n e h in
        HasGoal-from e.target e.input ((runs at n.node n.run n.is n.ended).targets i.0 e i.1)

    shown_at : (at : ℕ) (m : GraphNode I) → Known nodes verdict at → slice_get (graph_nodes_of nodes) at ≡ Some m
        → rule m.goal (map question_of m.edges)
    shown_at at m g is =
        let n = ended_at nodes verdict at g in
        let both : Some (record { goal = n.node.goal; edges = n.run.edges }) ≡ Some m =
        sym (graph_node_at nodes verdict at n) ∙ is in
        let same : record { goal = n.node.goal; edges = n.run.edges } ≡ m = cc in
        subst (λ x. rule x.goal (map question_of x.edges)) same
        (settles n.node n.run (runs at n.node n.run n.is n.ended) n.sort)

    cycle_at : (at : ℕ) (e : Edge I) (rest : List (Edge I)) → Known nodes verdict at
        → IsWalk (graph_nodes_of nodes) at (e ∷ rest) at → walk_kind (e ∷ rest) ≡ kind
    cycle_at at e rest g w =
        let s = step_of nodes verdict at g e w.0 in
        let r = walk_of nodes verdict e.target at rest
        (graph_behind (shapes_of says nodes) verdict at (rank_of e.kind) e.target s g) w.1 in
        same_kind (walk_kind (e ∷ rest)) kind
        (sym (greater_rank e.kind (walk_kind rest))
        ∙ (g.closed at 0 (rank_of e.kind) e.target (rank_of (walk_kind rest)) stay s r.0 ∙ sym cycles))

    pub has_graph : (root : ℕ) (goal : I) → IsNodeOf nodes root goal → Known nodes verdict root
        → IsGraph rule kind (graph_nodes_of nodes) root goal
    has_graph root goal is g = record {
      rooted = HasGoal-from root goal is;
      closed = λ at e w h. closed_at at e (known_at nodes verdict root at g w) h;
      is_shown = λ at n w there. shown_at at n (known_at nodes verdict root at g w) there;
      cycles = λ at e rest w loop. cycle_at at e rest (known_at nodes verdict root at g w) loop;
    }

-- a verdict by a test of results: the results that say it pass, its cycles have the kind, and a run that passes has for
-- edges the questions whose answers pass
pub record IsSort (I : Type 0) {R : Type 0} (says : Verdicts R) (verdict : theory.Verdict)
    (test : R → Bool) (kind : PathKind) : Type 0 where
  pub passes : (r : R) → verdict_of says r ≡ verdict → test r ≡ true
  pub cycles : rank_of kind ≡ cycle_kind verdict
  pub edges : (nodes : List (CacheNode I R)) (script : List (Reply R) → Request I R) (run : EndedRun I R)
      → IsRun says script nodes run → test run.outcome ≡ true
      → map question_of run.edges ≡ questions_answered test (progress_after script (reverse run.replies))

yes_case : (y n : Bool) → (if y then theory.Yes else if n then theory.No else theory.Neither) ≡ theory.Yes → y ≡ true
yes_case true n e = refl
yes_case false true e = absurd cc
yes_case false false e = absurd cc

no_case : (y n : Bool) → (if y then theory.Yes else if n then theory.No else theory.Neither) ≡ theory.No → n ≡ true
no_case false true e = refl
no_case _ _ e = absurd cc

module _ {I R : Type 0} (says : Verdicts R) where
  pub yes_sort : IsSort I says theory.Yes says.is_yes Coinductive
  yes_sort = record {
    passes = λ r. yes_case (says.is_yes r) (says.is_no r);
    cycles = refl;
    edges = λ nodes script run h. h.yes;
  }

  pub no_sort : IsSort I says theory.No says.is_no Inductive
  no_sort =
      record { passes = λ r. no_case (says.is_yes r) (says.is_no r); cycles = refl; edges = λ nodes script run h. h.no }

-- a run that ended with a verdict shows its goal by each rule that the verdict's runs keep
pub shown_by_run : {I R : Type 0} (says : Verdicts R)
    (scripts : I → List (Reply R) → Request I R) (nodes : List (CacheNode I R))
    (verdict : theory.Verdict) (test : R → Bool) (kind : PathKind) → IsSort I says verdict test kind
    → (rule : I → List (Question I) → Type 0) → KeepsRule test scripts rule
    → (goal : I) (run : EndedRun I R) → IsRun says (scripts goal) nodes run → verdict_of says run.outcome ≡ verdict
    → rule goal (map question_of run.edges)
shown_by_run says scripts nodes verdict test kind sort rule law goal run h said =
    let passes = sort.passes run.outcome said in
    subst (rule goal) (sym (sort.edges nodes (scripts goal) run h passes))
    (law goal (reverse run.replies) run.outcome h.ends passes)

-- the root of a graph for a verdict has a graph by each rule that the verdict's runs keep
pub graph_by_rule : {I R : Type 0} (says : Verdicts R) (scripts : I → List (Reply R) → Request I R)
    (nodes : List (CacheNode I R)) (runs : AreRuns says scripts nodes) (root : ℕ) (goal : I) → IsNodeOf nodes root goal
    → (verdict : theory.Verdict) (test : R → Bool) (kind : PathKind) → IsSort I says verdict test kind
    → (rule : I → List (Question I) → Type 0) → KeepsRule test scripts rule
    → theory.IsClosedGraph (shapes_of says nodes) verdict root → IsGraph rule kind (graph_nodes_of nodes) root goal
graph_by_rule says scripts nodes runs root goal is verdict test kind sort rule law g =
    has_graph says scripts nodes runs verdict rule kind sort.cycles
    (λ n. shown_by_run says scripts nodes verdict test kind sort rule law n.goal)
    root goal is g
