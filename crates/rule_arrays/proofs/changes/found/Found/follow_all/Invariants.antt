use Rattle.rule_arrays.proofs.Finding.{AreFollowed}
use Rattle.rule_arrays.proofs.changes.found.Found.follow_all.Given as goal

abbrev pub invariant-loop-place : goal.invariant-loop-place
invariant-loop-place l = AreFollowed l.askers l.fn.self l.self l.place
