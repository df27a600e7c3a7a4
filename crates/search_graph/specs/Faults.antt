-- Whose fault it is that a call fails.
use Rattle.std.specs.Prelude.{◌≡◌, ◌⊎◌, ℕ, Bool, true, [], List, ◌∷◌, Result, Some}
use Rattle.std.specs.Option.{option_map}
use Rattle.run_records.specs.declared.runs.Fate.{Fate}
use Rattle.search_context.specs.declared.context.Answer.{Answer}
use Rattle.search_context.specs.declared.context.Fault.TheVariants.{Conflict, Validation}
use Rattle.search_context.specs.Run.{fault_after, IsFitting, request_after}
use Rattle.search_graph.specs.Below.{Cache, CxOf, DelegateOf, Done, Fault, Memory, Next, OpenGoal, PathKind, Protocol}
use Rattle.search_graph.specs.Below.{Reply, Store, stored_at, StoredResult}
use Rattle.search_graph.specs.Called.{Called, Evaluated, HasRun, WasStored, WasWorkedOut}
use Rattle.search_graph.specs.Ran.{Began, NotBegun, Ran, Then}
use Rattle.search_graph.specs.Reaching.{MayReach}
use Rattle.search_rules.specs.Results.{place_of_item}
use Rattle.search_state.specs.declared.evaluation.Evaluation.{Evaluation}

module _ {D C V P F I R A T : Type 0} (G : DelegateOf D C V P F I R A T) (same : I → I → Bool) (cx : C)
    (results : Store I (StoredResult I R T)) (met : Bool) where
  -- the goal's script came to the result after replies that fit; or it is that of a goal that had its most
  -- runs, and one had them
  abbrev pub HasComeTo : I → R → Type 0
  HasComeTo goal r =
      ((replies : List (Reply R)) × IsFitting (G.script cx goal) replies
      × (request_after (G.script cx goal) replies ≡ Some (Done r)))
      ⊎ ((r ≡ G.fixpoint_overflow cx goal) × (met ≡ true))

  -- Where memory isn't out: the goal's script made a request out of order after replies that fit; or the goal came to
  -- another result than is stored, which stands where its own belongs, or is the one that it was compared with.
  abbrev pub IsFaultOf : OpenGoal C F I R A T → Fault I R → Type 0
  IsFaultOf s Memory = Unit {0}
  IsFaultOf s (Protocol number) = (replies : List (Reply R)) × IsFitting (G.script cx s.0.input) replies
      × (fault_after (G.script cx s.0.input) replies ≡ Some number)
  IsFaultOf s (Conflict goal stored found) = (goal ≡ s.0.input) × HasComeTo s.0.input found
      × (option_map (λ r. r.result.result) (stored_at same results s.0.input (place_of_item s)) ≡ Some stored)
  IsFaultOf s (Validation goal stored found) = (goal ≡ s.0.input) × HasComeTo s.0.input found

  -- memory is out, or it is the fault of the newest of these goals, which the call's goal may reach by questions
  pub data FailsFor (top : I) (goals : List (OpenGoal C F I R A T)) (fault : Fault I R) : Type 0 where
    MemoryIsOut : fault ≡ Memory → FailsFor top goals fault
    IsOfNewest :
        (s : OpenGoal C F I R A T) (below : List (OpenGoal C F I R A T))
        → goals ≡ s ∷ below → MayReach (G.script cx) top s.0.input → IsFaultOf s fault
        → FailsFor top goals fault

module _ {D C V P F I R A T : Type 0} {G : DelegateOf D C V P F I R A T} {X : CxOf C I R A T}
    {same : I → I → Bool} {same_result : R → R → Bool} where
  module _ {noop : Bool} where
    -- the goals that were under evaluation before the last turn, the newest first
    abbrev pub last_goals : {kind : PathKind} {goal : I} {fate : Fate R} {old : Cache C I R T}
        {e : Evaluation D C V P F I R A T} {starts : ℕ} {result : Result (Next R) (Fault I R)} {new : Cache C I R T}
        {after : Evaluation D C V P F I R A T} {later : ℕ}
        → Ran G X same same_result noop kind goal fate old e starts result new after later → List (OpenGoal C F I R A T)
    last_goals (Began goals held nodes later pushes fates holds nodes_kept one counted) = []
    last_goals (NotBegun goals held later least one) = []
    last_goals (Then given mid between now result new after later ran turned) = between.goals

    abbrev pub last_goals_of : {looks_up : Bool} {kind : PathKind} {goal : I} {old : Cache C I R T}
        {e : Evaluation D C V P F I R A T} {starts : ℕ} {result : Result (Answer R) (Fault I R)} {new : Cache C I R T}
        {after : Evaluation D C V P F I R A T} {later : ℕ}
        → Evaluated G X same same_result noop looks_up kind goal old e starts result new after later
        → List (OpenGoal C F I R A T)
    last_goals_of (WasStored hit found usable) = []
    last_goals_of (WasWorkedOut result new after later none fated ran) = last_goals ran

  -- those of the call, as it ended
  abbrev pub goals_at_end : {call : Called C I R A T} → HasRun G X same same_result call → List (OpenGoal C F I R A T)
  goals_at_end ran = last_goals_of ran.evaluated
