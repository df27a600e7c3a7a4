-- What is live stays as it is when other nodes are let go: runs stay runs, and a live node keeps its graph.
use Rattle.std.proofs.Common.{◌≡◌, ℕ, ◌<◌, Bool, List, Option, None, Some, option_map, map, slice_get, Contains, ◌⊎◌}
use Rattle.std.proofs.Common.{sym, ◌∙◌, ap, subst, inl, inr}
use Rattle.std.specs.Prelude.{IsTrue}
use Rattle.std.specs.Option.{IfSome, IsSomeAnd}
use Rattle.std.proofs.lemmas.Option.{get_or_from_slice_get, slice_get-map, slice_get_within}
use Rattle.open_graphs.specs.Graph as theory
use Rattle.open_graphs.specs.Collected as shape
use Rattle.open_graphs.proofs.Collecting.{collecting_keeps_graph}
use Rattle.list_lemmas.proofs.Lists.{mapped_some}
use Rattle.graph_nodes.specs.Below.{Edge, NodeId, Request, Reply, verdict_of, Verdicts}
use Rattle.graph_nodes.specs.Words.{EndedRun, CacheNode, AreLive, AreRuns, Collected, edge_shape, graph_node_of}
use Rattle.graph_nodes.specs.Words.{graph_nodes_of, HasGraph, IsGone, IsNodeOf, shape_of, shapes_of}
use Rattle.graph_nodes.proofs.Bridge.{ended_finished}

-- a node before the first place, or of a root, is live
pub root_is_live : {I R : Type 0} (live : ℕ → Bool) (nodes : List (CacheNode I R)) (first : ℕ) (roots : List NodeId)
    → AreLive nodes first roots live → (goal : I) (node : Option NodeId)
    → IfSome node (λ n. (n.0 < first) ⊎ Contains roots n)
    → IfSome node (λ n. IsNodeOf nodes n.0 goal → IsTrue (live n.0))
root_is_live live nodes first roots lives goal None h = tt
root_is_live live nodes first roots lives goal (Some n) h = λ of_goal. elim h [
  | inl before ↦ lives.earlier n.0 before
  | inr root ↦ lives.rooted n root
]

module _ {I R : Type 0} (live : ℕ → Bool) (old new : List (CacheNode I R)) (collected : Collected live old new) where
  -- a live node keeps its goal
  pub live_goal_stays : (at : ℕ) (goal : I) → IsTrue (live at) → IsNodeOf old at goal → IsNodeOf new at goal
  live_goal_stays at goal is h = ap (option_map (λ n. n.goal)) (collected.same at is) ∙ h

  -- each run that is left was there before
  pub run_is_live : (at : ℕ) (n : CacheNode I R) (run : EndedRun I R) → slice_get new at ≡ Some n
      → n.run ≡ Some run → IsTrue (live at)
  run_is_live at n run is ended = collected.left at (λ gone. let none : n.run ≡ None = (subst IsGone is gone).0 in cc)

  -- an edge of a node that is live
  pub edge_is_live : (at : ℕ) (n : CacheNode I R) (run : EndedRun I R) (e : Edge I) → IsTrue (live at)
      → slice_get old at ≡ Some n → n.run ≡ Some run → Contains run.edges e → IsTrue (live e.target)
  edge_is_live at n run e is there ended has =
      collected.closed at e is (subst (λ o. IsSomeAnd o (λ m. Contains m.edges e)) (sym node) has)
    where
      node : slice_get (graph_nodes_of old) at ≡ Some (record { goal = n.goal; edges = run.edges })
      node = slice_get-map graph_node_of old at
          ∙ (ap (option_map graph_node_of) there ∙ ap (λ r. Some (graph_node_of (record n { run = r }))) ended)

  module _ (says : Verdicts R) where
    shape_stays : (at : ℕ) → IsTrue (live at) → slice_get (shapes_of says new) at ≡ slice_get (shapes_of says old) at
    shape_stays at is = slice_get-map (shape_of says) new at
        ∙ (ap (option_map (shape_of says)) (collected.same at is) ∙ sym (slice_get-map (shape_of says) old at))

    -- the same of the shapes
    pub shapes_collected : shape.Collected live (shapes_of says old) (shapes_of says new)
    shapes_collected = record {
      same = shape_stays;
      left = λ at verdict edges is.
          let n = ended_finished says new verdict at (edges, is) in
          run_is_live at n.node n.run n.is n.ended;
      closed = λ verdict at k c is e.
          let n = ended_finished says old verdict at (e.edges, e.finished) in
          let shape : Some (theory.Finished verdict e.edges)
          ≡ Some (theory.Finished (verdict_of says n.run.outcome) (map edge_shape n.run.edges)) =
          sym e.finished
          ∙ (slice_get-map (shape_of says) old at
          ∙ (ap (option_map (shape_of says)) n.is
          ∙ ap (λ r. Some (shape_of says (record n.node { run = r }))) n.ended)) in
          let edges : e.edges ≡ map edge_shape n.run.edges = cc in
          let x = mapped_some edge_shape (slice_get n.run.edges e.index) _
          (sym (slice_get-map edge_shape n.run.edges e.index) ∙ (ap (λ l. slice_get l e.index) (sym edges) ∙ e.edge)) in
          subst (λ t. IsTrue (live t)) (ap (λ s. s.target) x.2)
          (edge_is_live at n.node n.run x.0 is n.is n.ended (
            e.index,
            slice_get_within n.run.edges e.index x.0 x.1,
            get_or_from_slice_get n.run.edges e.index x.0 x.0 x.1,
          ));
    }

    -- the graph of a live node
    pub HasGraph-live : (goal : I) (r : R) (node : Option NodeId)
        → IfSome node (λ n. IsNodeOf old n.0 goal → IsTrue (live n.0))
        → HasGraph says old goal r node → HasGraph says new goal r node
    HasGraph-live goal r None is has = record { definite = has.definite; neither = has.neither }
    HasGraph-live goal r (Some n) is has = record {
      definite = λ definite.
          let h = has.definite definite in (
            live_goal_stays n.0 goal (is h.0) h.0,
            collecting_keeps_graph live (shapes_of says old) (shapes_of says new) shapes_collected
                (verdict_of says r) n.0 (is h.0) h.1,
          );
      neither = has.neither;
    }

    module _ (scripts : I → List (Reply R) → Request I R) where
      -- runs stay runs
      pub AreRuns-collected : AreRuns says scripts old → AreRuns says scripts new
      AreRuns-collected runs at n run is ended =
          let alive = run_is_live at n run is ended in
          let there : slice_get old at ≡ Some n = sym (collected.same at alive) ∙ is in
          let was = runs at n run there ended in
          record {
            ends = was.ends;
            yes = was.yes;
            no = was.no;
            asked = was.asked;
            targets = λ i e at_i.
                live_goal_stays e.target e.input
                (edge_is_live at n run e alive there ended
                (i, slice_get_within run.edges i e at_i, get_or_from_slice_get run.edges i e e at_i))
                (was.targets i e at_i);
          }
