-- The nodes to which a run leads.
use Rattle.std.specs.Prelude.{All, Contains, List}
use Rattle.run_records.specs.Below.{NodeId}
use Rattle.run_records.specs.declared.progress.DefiniteAnswer.{DefiniteAnswer}
use Rattle.run_records.specs.declared.runs.Run.{Run}

-- the one to which a definite answer leads
abbrev pub HasTarget : {I : Type 0} → List NodeId → DefiniteAnswer I → Type 0
HasTarget nodes answer = Contains nodes (record { 0 = answer.edge.target })

-- those of a run: its own, and those of its definite answers
pub record HasRunNodes {X F I R A T : Type 0} (nodes : List NodeId) (run : Run X F I R A T) : Type 0 where
  pub own : Contains nodes run.node
  pub answers : All (HasTarget nodes) run.progress.answers
