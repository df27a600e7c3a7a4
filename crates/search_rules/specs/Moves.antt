-- The moves that push a goal, answer it over a cycle, run it again, and pop it.
use Rattle.std.specs.Prelude.{◌≡◌, ◌+◌, ◌<◌, ◌≤◌, ◌^◌, ◌||◌, Bool, false, List, [], ◌∷◌, ◌++◌, length, map, reverse}
use Rattle.std.specs.Prelude.{Option, Some, slice_get, unwrap_or}
use Rattle.run_records.specs.declared.runs.Fate.{Fate}
use Rattle.search_rules.specs.Below.{DelegateOf, CxOf, Received, CacheNode, open_node, Answer, NodeId, PathKind}
use Rattle.search_rules.specs.Below.{AvailableDepth, StackDepth, EvaluationResult, OpenGoal, StackEntry, path_kind_from}
use Rattle.search_rules.specs.Below.{cycle_head, first_entry, AnswersNewest, NestedPaths, NestsAnswer, NestsHead}
use Rattle.search_rules.specs.Below.{rerun_with, with_no_record, no_record, Item, Run, Next, Step, Finished}

module _ {D C V P F I R A T : Type 0} (G : DelegateOf D C V P F I R A T) (X : CxOf C I R A T) (cx : C) where
  -- a frame of the goal that has had no reply
  pub record IsFresh (frame : F) (goal : I) : Type 0 where
    pub stood : G.stands frame cx goal []
    pub within : G.left frame ≤ G.width cx

  -- the run that a goal begins with
  abbrev pub first_run : F → NodeId → Fate R → Run C F I R A T
  first_run frame own becomes = record {
    frame = frame;
    node = own;
    progress = no_record;
    finished_runs = 0;
    met_overflow_before = false;
    candidates = [];
    fate = becomes;
  }

  -- the goal was pushed, with a node of its own and a frame that begins
  pub record Pushes (input : I) (kind : PathKind) (depth : AvailableDepth) (before after : List (CacheNode I R))
      (old new : List (Item G X cx)) : Type 0 where
    pub frame : F
    pub own : NodeId
    pub becomes : Fate R
    pub place : own.0 ≡ length before
    pub opened : after ≡ before ++ open_node input ∷ []
    pub is : new ≡ (first_entry input kind depth own, first_run frame own becomes) ∷ old
    pub fresh : IsFresh frame input

  -- the newest goal is run again under a result
  pub record Reruns (r : R) (old new : List (Item G X cx)) : Type 0 where
    pub item : Item G X cx
    pub below : List (Item G X cx)
    pub target : Option NodeId
    pub frame : F
    pub own : NodeId
    pub was : old ≡ item ∷ below
    pub is : new ≡ rerun_with r target frame own (with_no_record item) ∷ below
    pub fresh : IsFresh frame item.0.input

  -- The newest goal's question by the step was answered by the goal at `head`, by its provisional result or the initial
  -- one of the kind of the cycle that the step closed. The newest goal takes over that head, whose goal is one of its
  -- nested goals from now on.
  pub record ClosesCycle (same : I → I → Bool) (step : PathKind) (goal : I) (head : StackDepth) (received : Received R)
      (old new : List (Item G X cx)) : Type 0 where
    pub entry : StackEntry C I R A T
    pub is_at : slice_get (reverse (map (λ s. s.0) old)) head.0 ≡ Some entry
    pub of_goal : entry.input ≡ goal
    pub is : received ≡ record {
      reply = Answer (unwrap_or entry.state.provisional_result
          (G.initial_result cx (path_kind_from (reverse (map (λ s. s.0) old)) head.0 step) goal));
      node = entry.state.node;
    }
    pub takes : AnswersNewest step 0 false
        ((head, cycle_head step (path_kind_from (reverse (map (λ s. s.0) old)) head.0 step)) ∷ []) old new
    pub nested : NestsHead same step goal old new

module _ {X F I R A T : Type 0} where
  -- the newest goal may be popped: if a goal is below it, one more than the depth that it required
  -- is a number of a word
  abbrev pub CanLeave : List (OpenGoal X F I R A T) → Type 0
  CanLeave [] = ⊥
  CanLeave (s ∷ []) = Unit {0}
  CanLeave (s ∷ p ∷ below) = s.0.state.required_depth + 1 < 2 ^ 64

  -- The answer was given to the newest goal, which asked by the step. Where there is none, it is
  -- the answer to the call.
  abbrev pub GivesAnswer : PathKind → EvaluationResult X I R A T → List (OpenGoal X F I R A T) → Next R
      → List (OpenGoal X F I R A T) → Type 0
  GivesAnswer step answer [] next new =
      (next ≡ Finished (record { result = answer.result; node = answer.node })) × (new ≡ [])
  GivesAnswer step answer (p ∷ below) next new =
      (next ≡ Step (record { reply = Answer answer.result; node = answer.node }))
      × AnswersNewest step answer.required_depth answer.encountered_overflow answer.heads (p ∷ below) new

  -- the goal that gets the answer takes over these nested goals of it, each after the step
  abbrev pub GivesNested : (I → I → Bool) → PathKind → NestedPaths I → List (OpenGoal X F I R A T)
      → List (OpenGoal X F I R A T) → Type 0
  GivesNested same step nested [] new = Unit {0}
  GivesNested same step nested (p ∷ below) new = NestsAnswer same step nested (p ∷ below) new

  -- the goal below the newest one, which was popped, takes over the nested goals of this
  abbrev pub LeavesNested : (I → I → Bool) → List (OpenGoal X F I R A T) → List (OpenGoal X F I R A T) → Type 0
  LeavesNested same [] new = ⊥
  LeavesNested same (s ∷ below) new = GivesNested same s.0.step_kind_from_parent s.0.state.nested_goals below new

  -- The newest goal was popped with this result, which is the answer to the goal below it, if there is one. Overflow
  -- that any of its runs met goes with it.
  abbrev pub NewestLeaves : R → List (OpenGoal X F I R A T) → Next R → List (OpenGoal X F I R A T) → Type 0
  NewestLeaves r [] next new = ⊥
  NewestLeaves r (s ∷ []) next new =
      (target : Option NodeId) × (next ≡ Finished (record { result = r; node = target })) × (new ≡ [])
  NewestLeaves r (s ∷ p ∷ below) next new =
      (target : Option NodeId) × (next ≡ Step (record { reply = Answer r; node = target }))
      × AnswersNewest s.0.step_kind_from_parent s.0.state.required_depth
      (s.0.state.encountered_overflow || s.1.met_overflow_before) s.0.state.heads (p ∷ below) new
