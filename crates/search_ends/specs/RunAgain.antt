-- A goal is run again.
use Rattle.std.specs.Prelude.{◌≡◌, ◌<◌, ◌+◌, ◌-◌, ◌^◌, Bool, not, length, IfSome}
use Rattle.std.specs.List.{filter}
use Rattle.search_ends.specs.Below.{DelegateOf, CxOf, Cache, entries_at, depends_on, newest, verdicts, IsRight}
use Rattle.search_state.specs.declared.evaluation.Evaluation.{Evaluation}
use Rattle.search_rules.specs.Moves.{Reruns}
use Rattle.search_rules.specs.Runs.{EndsNewest, RerunsWithNode, StayFrom}

module _ {D C V P F I R A T : Type 0} (G : DelegateOf D C V P F I R A T) (X : CxOf C I R A T) (same : I → I → Bool)
    (outcome : R) (old : Cache C I R T) (before : Evaluation D C V P F I R A T) where
  -- the newest goal may be run again: its run came to the result, and one more can be counted
  pub record MayRunAgain : Type 0 where
    pub some : 0 < length before.goals
    pub fits : IfSome (newest before.goals) (λ s. s.1.finished_runs + 1 < 2 ^ 64)
    pub ends : EndsNewest (verdicts X) (G.script old.cx) before.goals outcome
    pub right : IsRight G X same old.cx old before

  -- it runs again with a new node, its cycles lead to the node of its result, and the entries that used
  -- its result are cleared
  pub record RunsAgain (new : Cache C I R T) (after : Evaluation D C V P F I R A T) : Type 0 where
    pub reran : Reruns G X old.cx outcome before.goals after.goals
    pub stays : StayFrom old.nodes before.goals after.goals
    pub cleared : (input : I) → entries_at same after.provisional input
        ≡ filter (λ entry. not (depends_on (record { 0 = length before.goals - 1 }) entry))
        (entries_at same before.provisional input)
    pub results : new.results ≡ old.results
    pub with_node : RerunsWithNode (verdicts X) old.nodes new.nodes outcome before.goals after.goals
    pub right : IsRight G X same old.cx new after
