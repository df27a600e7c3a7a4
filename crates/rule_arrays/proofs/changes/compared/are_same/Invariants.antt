use Rattle.std.proofs.Common.{◌≡◌, map, take}
use Rattle.rule_arrays.specs.Table.{candidate_with}
use Rattle.rule_arrays.proofs.changes.compared.are_same.Given as goal

abbrev pub invariant-loop-place : goal.invariant-loop-place
invariant-loop-place l = map (candidate_with l.old.questions.now) (take l.place l.old.rows.now)
    ≡ map (candidate_with l.new.questions.now) (take l.place l.new.rows.now)
