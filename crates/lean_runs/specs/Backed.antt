-- Which edges may stand in the node of a run.
use Rattle.std.specs.Prelude.{◌≡◌, ◌<◌, ℕ, Bool, true, List, Some, slice_get}
use Rattle.open_graphs.specs.Graph as theory
use Rattle.lean_runs.specs.Below.{Verdict, Yes, No, Neither, Edge, rank_of, CacheNode, IsNodeOf, shapes_of}
use Rattle.lean_runs.specs.Below.{DefiniteAnswer, counted_by, Verdicts}

-- a verdict in the theory's words
abbrev pub verdict_shape : Verdict → theory.Verdict
verdict_shape Yes = theory.Yes
verdict_shape No = theory.No
verdict_shape Neither = theory.Neither

-- The edge may stand in the node of a run that had these answers: it is that of one of them which has the verdict and
-- is outside ignored candidates. Or it leads one step further than such a one, where both steps are of the kind of the
-- verdict's cycles, from a node that was written after the run's own.
pub data IsBacked {I R : Type 0} (says : Verdicts R) (nodes : List (CacheNode I R)) (own : ℕ)
    (answers : List (DefiniteAnswer I)) (ignored : List Bool) (verdict : theory.Verdict) (e : Edge I) : Type 0 where
  OfAnswer :
      (j : ℕ) (a : DefiniteAnswer I)
      → slice_get answers j ≡ Some a → verdict_shape a.verdict ≡ verdict
      → counted_by ignored a.candidate ≡ true → a.edge ≡ e
      → IsBacked says nodes own answers ignored verdict e
  Beyond :
      (j : ℕ) (a : DefiniteAnswer I)
      → slice_get answers j ≡ Some a → verdict_shape a.verdict ≡ verdict → counted_by ignored a.candidate ≡ true
      → own < a.edge.target → rank_of a.edge.kind ≡ theory.cycle_kind verdict
      → rank_of e.kind ≡ theory.cycle_kind verdict
      → theory.HasShapeEdge (shapes_of says nodes) verdict a.edge.target (theory.cycle_kind verdict) e.target
      → IsNodeOf nodes e.target e.input
      → IsBacked says nodes own answers ignored verdict e
