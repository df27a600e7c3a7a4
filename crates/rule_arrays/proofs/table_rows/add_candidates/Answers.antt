use Rattle.std.proofs.Common.{sym, arith}
use Rattle.rule_arrays.proofs.Adding.{adds_at, adds_none, never_none}
use Rattle.rule_arrays.proofs.table_rows.add_candidates.Goals as goal
use Rattle.rule_arrays.proofs.table_rows.add_candidates.Goals.{in-Some+in_ok-add_candidate, in_default}

pub loop-place-init : goal.loop-place-init
loop-place-init c = adds_none c.args.candidates.now.items c.args.questions.now.items

pub loop-place-preserved : goal.loop-place-preserved
loop-place-preserved c = elim c.match-get.branch [
  | in-Some+in_ok-add_candidate w ↦
      rw (w.candidates-is, w.questions-is)
      (adds_at c.args.candidates.now.items c.loop-place.candidates.items w.add_candidate.new.candidates.items
      c.args.questions.now.items c.loop-place.questions.items w.add_candidate.new.questions.items c.args.all.now
      c.loop-place.place w.in-Some.candidate (sym w.in-Some.ensures.value) c.loop-place.invariant
      w.in_ok-add_candidate.ensures)
  | in_default w ↦
      absurd (never_none c.args.all.now c.loop-place.place w.in_default.ensures.value
      (omega (arith, c.count-place-end.ensures)))
]
