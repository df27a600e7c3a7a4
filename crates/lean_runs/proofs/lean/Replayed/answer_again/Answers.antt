use Rattle.std.proofs.Common.{sym, ◌∙◌}
use Rattle.lean_runs.specs.Words.{OnRecord}
use Rattle.lean_runs.proofs.LeanRuns.{edge_on_record}
use Rattle.lean_runs.proofs.lean.Replayed.answer_again.Goals as goal

pub lead-node-requires-clause-answer : goal.lead-node-requires-clause-answer
lead-node-requires-clause-answer g c = edge_on_record _ _ _ _ _ c.in_ok-known.ensures.on_record
    c.in_ok-known.ensures.asks (sym c.is_rested_on.ensures ∙ c.if-not-is_rested_on.false)

pub returns-clause-answered : goal.returns-clause-answered
returns-clause-answered g c = OnRecord _ _ c.lead-node.ensures.backed
