-- Nodes whose runs have ended stay as they are.
use Rattle.std.proofs.Common.{◌≡◌, ℕ, List, Option, None, Some, option_map, slice_get, refl, sym, ap, ◌∙◌}
use native.Mathlib.Decide.{ℕ_discrete}
use Rattle.std.specs.Option.{IsSomeAnd}
use Rattle.std.proofs.lemmas.Option.{slice_get-map}
use Rattle.open_graphs.specs.Graph as theory
use Rattle.graph_nodes.specs.Below.{Verdicts}
use Rattle.graph_nodes.specs.Words.{EndedRun, CacheNode, open_goal, finished_node, with_run, KeepsNodes, KeepsFinished}
use Rattle.graph_nodes.specs.Words.{run_shape, shape_of, shapes_of}
use Rattle.graph_nodes.proofs.NodeLists.{before, others_are}

-- the list stays, or stays twice
pub KeepsFinished-same : {I R : Type 0} (nodes more : List (CacheNode I R)) → more ≡ nodes → KeepsFinished nodes more
KeepsFinished-same nodes more same at n h = ap (λ l. finished_node l at) same ∙ h

pub KeepsFinished-then : {I R : Type 0} (nodes more most : List (CacheNode I R)) → KeepsFinished nodes more
    → KeepsFinished more most → KeepsFinished nodes most
KeepsFinished-then nodes more most first second at n h = second at n (first at n h)

there_still : {I R : Type 0} (o p : Option (CacheNode I R)) (n : CacheNode I R)
    → ((m : CacheNode I R) → o ≡ Some m → p ≡ Some m)
    → elim o [ None ↦ None | Some m ↦ elim m.run [ None ↦ None | Some run ↦ Some m ] ] ≡ Some n
    → elim p [ None ↦ None | Some m ↦ elim m.run [ None ↦ None | Some run ↦ Some m ] ] ≡ Some n
there_still None p n kept h = absurd cc
there_still (Some m) p n kept h =
    ap (λ x. elim x [ None ↦ None | Some k ↦ elim k.run [ None ↦ None | Some run ↦ Some k ] ]) (kept m refl) ∙ h

-- each node stays
pub KeepsFinished-nodes : {I R : Type 0} (nodes more : List (CacheNode I R))
    → KeepsNodes nodes more → KeepsFinished nodes more
KeepsFinished-nodes nodes more kept at n h = there_still (slice_get nodes at) (slice_get more at) n (kept at) h

open_is_not_finished : {I R : Type 0} (n m : CacheNode I R) (run : Option (EndedRun I R)) → run ≡ None
    → elim run [ None ↦ None | Some r ↦ Some n ] ≡ Some m → ⊥
open_is_not_finished n m None e h = cc
open_is_not_finished n m (Some r) e h = cc

-- the run of an open node ends
pub KeepsFinished-ended : {I R : Type 0} (nodes : List (CacheNode I R)) (k : ℕ) (run : EndedRun I R) (P : I → Type 0)
    → IsSomeAnd (open_goal nodes k) P → KeepsFinished nodes (with_run nodes k run)
KeepsFinished-ended nodes k run P is_open at n h =
    elim (ℕ_discrete at k) [
      | yes e ↦
          let w = before nodes k run P is_open in
          let there : slice_get nodes at ≡ Some w.0 = ap (slice_get nodes) e ∙ w.1 in
          let shown : elim w.0.run [ None ↦ None | Some r ↦ Some w.0 ] ≡ Some n = sym
          (ap (λ x. elim x [ None ↦ None | Some m ↦ elim m.run [ None ↦ None | Some r ↦ Some m ] ]) there) ∙ h in
          absurd (open_is_not_finished w.0 n w.0.run w.2 shown)
      | no d ↦ ap (λ x. elim x [ None ↦ None | Some m ↦ elim m.run [ None ↦ None | Some r ↦ Some m ] ])
          (others_are nodes k run P is_open at d) ∙ h
    ]

finished_at : {I R : Type 0} (m n : CacheNode I R) (run : Option (EndedRun I R))
    → elim run [ None ↦ None | Some r ↦ Some m ] ≡ Some n → Some m ≡ Some n
finished_at m n None h = absurd cc
finished_at m n (Some r) h = h

-- a finished node is at its place
pub found_finished : {I R : Type 0} (o : Option (CacheNode I R)) (n : CacheNode I R)
    → elim o [ None ↦ None | Some m ↦ elim m.run [ None ↦ None | Some run ↦ Some m ] ] ≡ Some n → o ≡ Some n
found_finished None n h = absurd cc
found_finished (Some m) n h = finished_at m n m.run h

module _ {I R : Type 0} (says : Verdicts R) where
  has_run : (m : CacheNode I R) (run : Option (EndedRun I R)) (verdict : theory.Verdict) (edges : List theory.Edge)
      → elim run [ None ↦ theory.Unfinished | Some r ↦ run_shape says r ] ≡ theory.Finished verdict edges
      → elim run [ None ↦ None | Some r ↦ Some m ] ≡ Some m
  has_run m None verdict edges h = absurd cc
  has_run m (Some r) verdict edges h = refl

  finished_stay : (o p : Option (CacheNode I R)) (verdict : theory.Verdict) (edges : List theory.Edge)
      → ((n : CacheNode I R) → elim o [ None ↦ None | Some m ↦ elim m.run [ None ↦ None | Some run ↦ Some m ] ] ≡ Some n
      → elim p [ None ↦ None | Some m ↦ elim m.run [ None ↦ None | Some run ↦ Some m ] ] ≡ Some n)
      → option_map (shape_of says) o ≡ Some (theory.Finished verdict edges) → p ≡ o
  finished_stay None p verdict edges kept is = absurd cc
  finished_stay (Some m) p verdict edges kept is =
      let shape : shape_of says m ≡ theory.Finished verdict edges = cc in
      found_finished p m (kept m (has_run m m.run verdict edges shape))

  module _ (nodes more : List (CacheNode I R)) (kept : KeepsFinished nodes more) where
    -- a node whose shape is finished stays
    pub finished_stays : (at : ℕ) (verdict : theory.Verdict) (edges : List theory.Edge)
        → slice_get (shapes_of says nodes) at ≡ Some (theory.Finished verdict edges)
        → slice_get more at ≡ slice_get nodes at
    finished_stays at verdict edges is =
        finished_stay (slice_get nodes at) (slice_get more at) verdict edges (kept at)
        (sym (slice_get-map (shape_of says) nodes at) ∙ is)

    -- so the list has grown
    pub Grown-finished : theory.Grown (shapes_of says nodes) (shapes_of says more)
    Grown-finished at verdict edges is =
        slice_get-map (shape_of says) more at
        ∙ (ap (option_map (shape_of says)) (finished_stays at verdict edges is)
        ∙ (sym (slice_get-map (shape_of says) nodes at) ∙ is))
