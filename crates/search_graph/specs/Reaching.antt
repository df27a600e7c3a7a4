-- Which goals ask which.
use Rattle.std.specs.Prelude.{◌≡◌, [], ◌∷◌, List, Some}
use Rattle.search_context.specs.Run.{IsFitting, request_after}
use Rattle.search_graph.specs.Below.{Evaluate, OpenGoal, PathKind, Reply, Request}

module _ {I R : Type 0} (scripts : I → List (Reply R) → Request I R) where
  -- the goal's script asks this question after some replies
  pub record MayAsk (goal : I) (kind : PathKind) (asked : I) : Type 0 where
    pub replies : List (Reply R)
    pub fitting : IsFitting (scripts goal) replies
    pub asks : request_after (scripts goal) replies ≡ Some (Evaluate kind asked)

  -- a walk of questions leads from the first goal to the second, perhaps one of no step
  pub data MayReach : I → I → Type 0 where
    here : {goal : I} → MayReach goal goal
    on : {goal : I} {kind : PathKind} {asked : I} {other : I} → MayAsk goal kind asked
        → MayReach asked other → MayReach goal other

  -- the newest goal asks this question; an outer call asks for anything
  abbrev pub AsksNewest : {X F A T : Type 0} → List (OpenGoal X F I R A T) → PathKind → I → Type 0
  AsksNewest [] kind goal = Unit {0}
  AsksNewest (s ∷ below) kind goal = MayAsk s.0.input kind goal
