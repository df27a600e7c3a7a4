-- The goals under evaluation as runs with nodes, and what becomes of a run that is done.
use Rattle.std.specs.Prelude.{◌≡◌, ◌≢◌, ◌<◌, ◌≤◌, ℕ, List, [], ◌∷◌, ◌++◌, length, map, slice_get, Option, None, Some}
use Rattle.std.specs.Option.{option_map, option_or}
use Rattle.open_graphs.specs.Graph as theory
use Rattle.search_context.specs.declared.context.Answer.{Answer}
use Rattle.search_rules.specs.Below.{NodeId, Request, Done, Reply, OpenGoal, EndedRun, CacheNode, open_goal, open_node}
use Rattle.search_rules.specs.Below.{rerun_with, with_no_record, with_run, verdict_of, Next, Step, Finished, RunRecord}
use Rattle.search_rules.specs.Below.{acted, HasGraph, Verdicts, CameTo}
use Rattle.search_rules.specs.Tallies.{tally_of}
use Rattle.search_rules.specs.Justified.{OpenRun, AreJustified, IsFit, AreEdges}

-- the node of what comes next, which is the reply for the goals, or the answer of the only goal
abbrev pub node_given : {R : Type 0} → Next R → Option NodeId
node_given (Step given) = given.node
node_given (Finished answer) = answer.node

-- the property holds of what comes next, if that is the answer
abbrev pub IfFinished : {R : Type 0} → Next R → (Answer R → Type 0) → Type 0
IfFinished (Step given) P = Unit {0}
IfFinished (Finished answer) P = P answer

-- the nodes before this place are as they were
abbrev pub KeepsFirst : {I R : Type 0} → ℕ → (old new : List (CacheNode I R)) → Type 0
KeepsFirst first old new = (at : ℕ) → at < first → slice_get new at ≡ slice_get old at

-- each node but this one is as it was
abbrev pub KeepsBut : {I R : Type 0} → ℕ → (old new : List (CacheNode I R)) → Type 0
KeepsBut but old new = (at : ℕ) → (at ≡ but → ⊥) → slice_get new at ≡ slice_get old at

module _ {X F I R A T : Type 0} where
  -- the nodes of the goals' runs stand at this place of the list or later
  abbrev pub AreFrom : ℕ → List (OpenGoal X F I R A T) → Type 0
  AreFrom first [] = Unit {0}
  AreFrom first (s ∷ below) = (first ≤ s.1.node.0) × AreFrom first below

  -- nodes that were there before those of the goals' runs are as they were
  abbrev pub KeepsEarlier : List (OpenGoal X F I R A T) → (old new : List (CacheNode I R)) → Type 0
  KeepsEarlier goals old new = (first : ℕ) → first ≤ length old → AreFrom first goals → KeepsFirst first old new

  -- no goal's run has a node from before those, nor from before the end of the list
  abbrev pub StayFrom : List (CacheNode I R) → (old new : List (OpenGoal X F I R A T)) → Type 0
  StayFrom nodes old new = (first : ℕ) → first ≤ length nodes → AreFrom first old → AreFrom first new

module _ {X F I R A T : Type 0} where
  -- an item as a run with its nodes
  abbrev pub run_of : OpenGoal X F I R A T → OpenRun I R
  run_of s = record {
    goal = s.0.input;
    step = s.0.step_kind_from_parent;
    own = s.1.node.0;
    cycles_lead = s.0.state.node;
    provisional = s.0.state.provisional_result;
    tally = tally_of s.0.state s.1.candidates;
    is_open = (acted s.1.progress).is_open;
    ignored = (acted s.1.progress).ignored;
    request = s.1.progress.request;
    answers = s.1.progress.answers;
  }

  -- the items as runs
  abbrev pub runs_of : List (OpenGoal X F I R A T) → List (OpenRun I R)
  runs_of goals = map run_of goals

  -- what comes next is justified
  abbrev pub IsJustifiedNext : Verdicts R → List (CacheNode I R) → List (OpenGoal X F I R A T)
      → List (OpenGoal X F I R A T) → Next R → Type 0
  IsJustifiedNext says nodes old goals (Step given) =
      AreJustified says nodes (runs_of goals) × IsFit says nodes (runs_of goals) given.reply given.node
  IsJustifiedNext says nodes [] goals (Finished answer) = ⊥
  IsJustifiedNext says nodes (s ∷ below) goals (Finished answer) =
      HasGraph says nodes s.0.input answer.result answer.node

-- the newest goal's run came to this result
abbrev pub EndsNewest : {X F I R A T : Type 0} → Verdicts R → (I → List (Reply R) → Request I R)
    → List (OpenGoal X F I R A T) → R → Type 0
EndsNewest says scripts [] r = ⊥
EndsNewest says scripts (s ∷ below) r = CameTo says (scripts s.0.input) s.1.progress r

-- a definite result of a goal's run: the run of its open node came to it
pub record EndsRun {I R : Type 0} (says : Verdicts R) (scripts : I → List (Reply R) → Request I R)
    (nodes : List (CacheNode I R)) (node : NodeId) (p : RunRecord I R) (r : R) : Type 0 where
  pub goal : I
  pub is_open : open_goal nodes node.0 ≡ Some goal
  pub ends : CameTo says (scripts goal) p r

-- the result says what the provisional one says
abbrev pub SaysAgain : {R : Type 0} → Verdicts R → Option R → R → Type 0
SaysAgain says earlier r = option_map (verdict_of says) earlier ≡ Some (verdict_of says r)

-- The node of a result: of a definite one that says what the provisional one said, the node of that; of any
-- other definite one the run's own, which was finished by edges that the run's answers back; and none of a
-- result that isn't definite.
pub data HasResultNode {I R : Type 0} (says : Verdicts R) (before after : List (CacheNode I R)) (earlier : Option R)
    (node : NodeId) (cycles_lead : Option NodeId) (p : RunRecord I R) (r : R) : Option NodeId → Type 0 where
  Again :
      verdict_of says r ≢ theory.Neither → SaysAgain says earlier r → after ≡ before
      → HasResultNode says before after earlier node cycles_lead p r cycles_lead
  Ended :
      (run : EndedRun I R)
      → run.outcome ≡ r → p.request ≡ Some (Done r) → verdict_of says r ≢ theory.Neither
      → (SaysAgain says earlier r → ⊥) → after ≡ with_run before node.0 run
      → AreEdges says before node.0 p.answers p.ignored (verdict_of says r) run.edges
      → HasResultNode says before after earlier node cycles_lead p r (Some node)
  LeftOpen : verdict_of says r ≡ theory.Neither → after ≡ before
      → HasResultNode says before after earlier node cycles_lead p r None

module _ {X F I R A T : Type 0} where
  -- the node of the newest goal's result
  abbrev pub HasNewestNode : Verdicts R → (before after : List (CacheNode I R))
      → List (OpenGoal X F I R A T) → R → Option NodeId → Type 0
  HasNewestNode says before after [] r target = ⊥
  HasNewestNode says before after (s ∷ below) r target =
      HasResultNode says before after s.0.state.provisional_result s.1.node s.0.state.node s.1.progress r target

-- The newest goal is run again: its result has its node in the list as the run ended, the answers of its cycles lead
-- there from then on, and the new run's own node comes next.
pub record RerunsWithNode {X F I R A T : Type 0} (says : Verdicts R) (before after : List (CacheNode I R)) (r : R)
    (old new : List (OpenGoal X F I R A T)) : Type 0 where
  pub item : OpenGoal X F I R A T
  pub below : List (OpenGoal X F I R A T)
  pub ended : List (CacheNode I R)
  pub target : Option NodeId
  pub frame : F
  pub own : NodeId
  pub was : old ≡ item ∷ below
  pub node : HasResultNode says before ended item.0.state.provisional_result item.1.node
      item.0.state.node item.1.progress r target
  pub opened : after ≡ ended ++ open_node item.0.input ∷ []
  pub place : own.0 ≡ length ended
  pub is : new ≡ rerun_with r (option_or target item.0.state.node) frame own (with_no_record item) ∷ below
