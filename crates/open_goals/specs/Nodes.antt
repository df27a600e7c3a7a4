-- The nodes to which a goal under evaluation leads.
use Rattle.std.specs.Prelude.{All, Contains, List}
use Rattle.std.specs.Option.{IfSome}
use Rattle.open_goals.specs.Below.{NodeId, StackEntry}
use Rattle.goal_changes.specs.OpenGoal.{OpenGoal}

-- its run's own, the one to which the answers of its cycles lead, and those of its run's definite answers, also of
-- those in ignored candidates
pub record HasNodes {X F I R A T : Type 0} (nodes : List NodeId) (s : OpenGoal X F I R A T) : Type 0 where
  pub own : Contains nodes s.1.node
  pub cycles : IfSome s.0.state.node (Contains nodes)
  pub answers : All (λ a. Contains nodes (record { 0 = a.edge.target })) s.1.progress.answers

-- the one to which the answers of its cycles lead
abbrev pub HasCycleNode : {X I R A T : Type 0} → List NodeId → StackEntry X I R A T → Type 0
HasCycleNode nodes entry = IfSome entry.state.node (Contains nodes)
