use Rattle.lean_runs.proofs.LeanRuns.{lean_for_told, told_for_itself}
use Rattle.lean_runs.proofs.lean.Replayed.record_for_node.Goals as goal

pub returns-then-not-is_worth : goal.returns-then-not-is_worth
returns-then-not-is_worth g c = told_for_itself _ _ _ _ _ _ _ c.requires

pub returns-then-succeeds : goal.returns-then-succeeds
returns-then-succeeds g c = lean_for_told _ _ _ _ _ _ _ _ (c.replay-succeeds.ensures c.if-succeeds.true)

pub returns : goal.returns
returns g c = told_for_itself _ _ _ _ _ _ _ c.requires
