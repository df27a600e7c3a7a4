-- Why each definite answer below the goals under evaluation is right: its node has an open graph, as the theory of open
-- graphs has it, and each edge leads to a node of the goal that it asks.
use Rattle.std.specs.Prelude.{◌≡◌, ◌≢◌, ◌≤◌, ℕ, Bool, true, if◌then◌else◌, List, [], ◌∷◌, length, map, is_some, Option}
use Rattle.std.specs.Prelude.{None, Some, slice_get}
use Rattle.std.specs.Option.{IsSomeAnd, option_map}
use Rattle.open_graphs.specs.Graph as theory
use Rattle.search_rules.specs.Below.{IsAnsweredEdge, RunningGoal, stack_of, IsSoundState, PathKind, Request, Evaluate}
use Rattle.search_rules.specs.Below.{Reply, Answer, NodeId, Edge, heads_shape, rank_of, CacheNode, open_goal, IsNodeOf}
use Rattle.search_rules.specs.Below.{verdict_of, edge_shape, shapes_of, DefiniteAnswer, counted_by, Verdicts}
use Rattle.search_rules.specs.Below.{IsBacked, verdict_shape}
use Rattle.search_rules.specs.Tallies.{Tally, IsTallied, spare_heads, heads_of}

-- A goal under evaluation: the step by which it was asked; the node of its present run, and the one to which
-- the answers of its cycles lead, with the result that they have; what it counts of the goals on the stack;
-- whether a candidate is open, and which of the finished ones are ignored; the last request of its run, and the
-- run's definite answers.
pub record OpenRun (I R : Type 0) : Type 0 where
  pub goal : I
  pub step : PathKind
  pub own : ℕ
  pub cycles_lead : Option NodeId
  pub provisional : Option R
  pub tally : Tally
  pub is_open : Bool
  pub ignored : List Bool
  pub request : Option (Request I R)
  pub answers : List (DefiniteAnswer I)

-- the place of the node to which the answers of a goal's cycles lead
abbrev pub cycles_node : {I R : Type 0} → OpenRun I R → ℕ
cycles_node o = elim o.cycles_lead [ None ↦ o.own | Some n ↦ n.0 ]

-- The run as a frame of the theory: its heads are those used outside candidates, in this run or earlier. The run's
-- answers stand beside it, since they rest on other heads than these.
abbrev pub frame_of : {I R : Type 0} → Verdicts R → OpenRun I R → RunningGoal
frame_of says o = record {
  entry =
      record { step = rank_of o.step; provisional = option_map (verdict_of says) o.provisional; node = cycles_node o };
  own = o.own;
  edges = λ verdict. [];
  heads_before = spare_heads o.tally;
  heads = heads_shape o.tally.heads;
}

-- the runs as frames
abbrev pub frames_of : {I R : Type 0} → Verdicts R → List (OpenRun I R) → List RunningGoal
frames_of says goals = map (frame_of says) goals

-- the node of each goal's run is open
abbrev pub AreOpen : {I R : Type 0} → List (CacheNode I R) → List (OpenRun I R) → Type 0
AreOpen nodes [] = Unit {0}
AreOpen nodes (o ∷ below) = (open_goal nodes o.own ≡ Some o.goal) × AreOpen nodes below

-- the edge of each answer leads to a node of the goal that it asks
abbrev pub LeadToGoals : {I R : Type 0} → List (CacheNode I R) → List (DefiniteAnswer I) → Type 0
LeadToGoals nodes answers =
    (i : ℕ) (a : DefiniteAnswer _) → slice_get answers i ≡ Some a → IsNodeOf nodes a.edge.target a.edge.input

-- the same for all of these edges
abbrev pub AreEdges : {I R : Type 0} → Verdicts R → List (CacheNode I R) → ℕ → List (DefiniteAnswer I) → List Bool
    → theory.Verdict → List (Edge I) → Type 0
AreEdges {I} says nodes own answers ignored verdict edges =
    (i : ℕ) (e : Edge I) → slice_get edges i ≡ Some e → IsBacked says nodes own answers ignored verdict e

-- none of the goals' cycles leads past this place
abbrev pub LeadUpTo : {I R : Type 0} → ℕ → List (OpenRun I R) → Type 0
LeadUpTo place [] = Unit {0}
LeadUpTo place (o ∷ below) = (cycles_node o ≤ place) × LeadUpTo place below

-- the node of each goal's run was written last: its cycles lead to no later one, nor do those of the goals below it
abbrev pub AreInOrder : {I R : Type 0} → List (OpenRun I R) → Type 0
AreInOrder [] = Unit {0}
AreInOrder (o ∷ below) = LeadUpTo o.own (o ∷ below) × AreInOrder below

-- the newest goal asked for this goal by this step; an outer call asks for anything
abbrev pub NewestAsks : {I R : Type 0} → List (OpenRun I R) → PathKind → I → Type 0
NewestAsks [] step goal = Unit {0}
NewestAsks (o ∷ below) step goal = o.request ≡ Some (Evaluate step goal)

-- each goal was asked for by the one below it
abbrev pub AreAskedBelow : {I R : Type 0} → List (OpenRun I R) → Type 0
AreAskedBelow [] = Unit {0}
AreAskedBelow (o ∷ below) = NewestAsks below o.step o.goal × AreAskedBelow below

-- what the goal counts agrees, and its candidates are those on record
pub record HasTally {I R : Type 0} (parent : ℕ) (o : OpenRun I R) : Type 0 where
  pub tallied : IsTallied parent o.tally
  pub open_is : is_some o.tally.current ≡ o.is_open
  pub finished_are : length o.tally.finished ≡ length o.ignored

-- the same for all goals
abbrev pub HaveTallies : {I R : Type 0} → List (OpenRun I R) → Type 0
HaveTallies [] = Unit {0}
HaveTallies (o ∷ below) = HasTally (length below) o × HaveTallies below

-- Each answer of the goal outside ignored candidates may be used: it rests on goals that are counted outside candidates
-- or by its own candidate.
abbrev pub AreCharged : {I R : Type 0} → Verdicts R → List (CacheNode I R) → OpenRun I R → List (OpenRun I R) → Type 0
AreCharged {I} says nodes o below =
    (i : ℕ) (a : DefiniteAnswer I) → slice_get o.answers i ≡ Some a → counted_by o.ignored a.candidate ≡ true →
    IsAnsweredEdge (shapes_of says nodes) (verdict_shape a.verdict) (stack_of (frames_of says below))
    (frame_of says o).entry (edge_shape a.edge) (heads_of o.tally a.candidate)

-- The answers of the goal's cycles lead to a node of the goal, the edges of its answers to nodes of the goals that they
-- ask, and each answer outside ignored candidates may be used.
pub record IsSupported {I R : Type 0} (says : Verdicts R) (nodes : List (CacheNode I R)) (o : OpenRun I R)
    (below : List (OpenRun I R)) : Type 0 where
  pub lead_home : IsSomeAnd o.cycles_lead (λ n. IsNodeOf nodes n.0 o.goal)
  pub placed : LeadToGoals nodes o.answers
  pub charged : AreCharged says nodes o below

-- the same for all goals
abbrev pub AreSupported : {I R : Type 0} → Verdicts R → List (CacheNode I R) → List (OpenRun I R) → Type 0
AreSupported says nodes [] = Unit {0}
AreSupported says nodes (o ∷ below) = IsSupported says nodes o below × AreSupported says nodes below

-- what holds of the goals between two moves
pub record AreJustified {I R : Type 0} (says : Verdicts R) (nodes : List (CacheNode I R))
    (goals : List (OpenRun I R)) : Type 0 where
  pub sound : IsSoundState (shapes_of says nodes) (frames_of says goals) [] []
  pub are_open : AreOpen nodes goals
  pub supported : AreSupported says nodes goals
  pub asked : AreAskedBelow goals
  pub tallies : HaveTallies goals
  pub in_order : AreInOrder goals

-- the candidate in which the goal asks now, if one is open
abbrev pub asked_now : {I R : Type 0} → OpenRun I R → Option ℕ
asked_now o = if o.is_open then Some (length o.ignored) else None

-- the node has the goal, and answers the newest goal's question by a step of this kind with the verdict
pub record MayAnswer {I R : Type 0} (says : Verdicts R) (nodes : List (CacheNode I R)) (o : OpenRun I R)
    (below : List (OpenRun I R)) (verdict : theory.Verdict) (kind : PathKind) (goal : I) (node : ℕ) : Type 0 where
  pub of_goal : IsNodeOf nodes node goal
  pub answered : IsAnsweredEdge (shapes_of says nodes) verdict (stack_of (frames_of says below)) (frame_of says o).entry
      (record { kind = rank_of kind; target = node }) (heads_of o.tally (asked_now o))

-- a definite answer for the newest goal comes with a node that may answer its question
abbrev pub IsFit : {I R : Type 0} → Verdicts R → List (CacheNode I R)
    → List (OpenRun I R) → Reply R → Option NodeId → Type 0
IsFit says nodes [] reply target = Unit {0}
IsFit says nodes (o ∷ below) reply target =
    (r : _) (kind : PathKind) (goal : _) → reply ≡ Answer r → NewestAsks (o ∷ below) kind goal →
    verdict_of says r ≢ theory.Neither →
    IsSomeAnd target (λ a. MayAnswer says nodes o below (verdict_of says r) kind goal a.0)
