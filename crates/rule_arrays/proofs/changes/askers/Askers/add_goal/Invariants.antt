use Rattle.std.proofs.Common.{◌≡◌, map, take}
use Rattle.rule_arrays.specs.Askers.{AddsAskers}
use Rattle.rule_arrays.specs.Changes.{IsAskedBy}
use Rattle.rule_arrays.specs.Table.{candidate_with}
use Rattle.rule_arrays.proofs.changes.askers.Askers.add_goal.Given as goal

abbrev pub invariant-loop-row : goal.invariant-loop-row
invariant-loop-row l = AddsAskers (λ asked asker. (asker ≡ l.goal)
    × IsAskedBy (map (candidate_with l.candidates.questions.now) (take l.row-index l.candidates.rows.now)) asked)
    l.fn.self l.self
