-- What a call does, from its beginning to its end: a stored result answers its goal, or the goal is worked out. What is
-- promised of a call follows of this.
use Rattle.std.specs.Prelude.{◌≡◌, ◌<◌, ◌≤◌, ◌^◌, ℕ, Bool, true, [], None, Option, Some, Result, Ok}
use Rattle.global_cache.specs.Sound.{IsSoundCache}
use Rattle.path_kinds.specs.declared.path.PathKind.TheVariants.{Inductive}
use Rattle.search_context.specs.declared.context.Answer.{Answer}
use Rattle.search_graph.specs.Below.{Cache, CxOf, DelegateOf, Fault, first_accepted, Hit, IsFated, PathKind}
use Rattle.search_graph.specs.Below.{usable, verdicts}
use Rattle.search_graph.specs.Graph.{Graph}
use Rattle.search_graph.specs.Laws.{AreLaws}
use Rattle.search_graph.specs.Ran.{ended, Ran}
use Rattle.search_graph.specs.Turns.{IsAtOutset}
use Rattle.search_rules.specs.Words.{answered_by, fate_for, IsUsable}
use Rattle.search_state.specs.declared.drafts.Drafts.{Drafts}
use Rattle.search_state.specs.declared.evaluation.Evaluation.{Evaluation}

-- what a call works with: the graph, the cache, and how many frames were started
pub record State (C I R A T : Type 0) : Type 0 where
  pub graph : Graph
  pub cache : Cache C I R T
  pub starts : ℕ

-- A call for a goal: whether its builder is a no-op, whether a stored result of the goal is looked for, what it
-- works with before and after, and what it comes to. By which kind of step the goal is asked is no part of it:
-- nothing depends on that.
pub record Called (C I R A T : Type 0) : Type 0 where
  pub goal : I
  pub noop : Bool
  pub looks_up : Bool
  pub before : State C I R A T
  pub result : Result (Answer R) (Fault I R)
  pub after : State C I R A T

-- the stored result that may be used for the goal at this depth where no goal is under evaluation
abbrev pub found_in : {C I R T : Type 0} → (I → I → Bool) → Cache C I R T → I → ℕ → Option (Hit I R T)
found_in same cache goal depth = first_accepted (λ nested. true) (usable same cache.results goal depth)

module _ {D C V P F I R A T : Type 0} (G : DelegateOf D C V P F I R A T) (X : CxOf C I R A T)
    (same : I → I → Bool) (same_result : R → R → Bool) where
  -- the evaluation of goals that get the graph's depth, as it begins
  abbrev pub begun : Graph → Drafts → Evaluation D C V P F I R A T
  begun graph drafts = record {
    goals = [];
    scopes = [];
    provisional = [];
    root_depth = record { 0 = graph.root_depth };
    limits_met = graph.limits_met;
    drafts = drafts;
    spare = tt;
    lean = tt;
  }

  -- A stored result that is looked for, and found, answers the goal, unless it is to be validated; then nothing
  -- changes. Else the goal is worked out, and its result is stored, compared with the stored one, or neither.
  pub data Evaluated (noop looks_up : Bool) (kind : PathKind) (goal : I) (old : Cache C I R T)
      (e : Evaluation D C V P F I R A T) (starts : ℕ) : Result (Answer R) (Fault I R) → Cache C I R T
      → Evaluation D C V P F I R A T → ℕ → Type 0 where
    WasStored :
        (hit : Hit I R T)
        → answered_by looks_up (G.scoped old.cx goal) (found_in same old goal e.root_depth.0) ≡ Some hit
        → IsUsable same (G.script old.cx) old.results goal e.root_depth.0 hit
        → Evaluated noop looks_up kind goal old e starts
        (Ok (record { result = hit.result; node = hit.node })) old e starts
    WasWorkedOut :
        (result : Result (Answer R) (Fault I R)) (new : Cache C I R T)
        (after : Evaluation D C V P F I R A T) (later : ℕ)
        → answered_by looks_up (G.scoped old.cx goal) (found_in same old goal e.root_depth.0) ≡ None
        → IsFated (G.scoped old.cx) (G.script old.cx) same old.results noop (record {
          goal = goal;
          depth = e.root_depth.0;
          fate = fate_for looks_up (G.scoped old.cx goal) (found_in same old goal e.root_depth.0);
        })
        → Ran G X same same_result noop kind goal
        (fate_for looks_up (G.scoped old.cx goal) (found_in same old goal e.root_depth.0)) old e
        starts (ended result) new after later
        → Evaluated noop looks_up kind goal old e starts result new after later

  -- the call was made, over a sound cache, which it left sound
  pub record HasRun (call : Called C I R A T) : Type 0 where
    pub laws : AreLaws G X same same_result
    pub fits : call.before.graph.root_depth < 2 ^ 64
    pub was_sound : IsSoundCache same (verdicts X) G.script call.before.cache
    pub is_sound : IsSoundCache same (verdicts X) G.script call.after.cache
    pub at_least : call.before.starts ≤ call.after.starts
    pub same_depth : call.after.graph.root_depth ≡ call.before.graph.root_depth
    pub drafts : Drafts
    pub left : Evaluation D C V P F I R A T
    pub at_outset : IsAtOutset call.before.cache (begun call.before.graph drafts)
    pub evaluated : Evaluated call.noop call.looks_up Inductive call.goal call.before.cache
        (begun call.before.graph drafts) call.before.starts call.result call.after.cache
        (record left { limits_met = call.after.graph.limits_met }) call.after.starts
