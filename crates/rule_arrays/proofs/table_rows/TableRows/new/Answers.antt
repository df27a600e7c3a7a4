use Rattle.std.proofs.Common.{subst, ap, ◌∙◌, arith}
use Rattle.std.proofs.lemmas.Bool.{false≢true}
use Rattle.rule_arrays.proofs.Adding.{more_have}
use Rattle.line_texts.specs.Lines.{lines_of}
use Rattle.rule_arrays.proofs.NamesLines.{names_lines}
use Rattle.rule_arrays.proofs.InOrder.{in_order}
use Rattle.rule_arrays.proofs.Same.{rows_are}
use Rattle.rule_arrays.specs.Rows.{AddsGoal}
use Rattle.rule_arrays.proofs.table_rows.TableRows.new.Goals as goal
use Rattle.rule_arrays.proofs.table_rows.TableRows.new.Goals.{in-Some+in_ok-add_goal, in_default}

pub loop-number-preserved : goal.loop-number-preserved
loop-number-preserved c = elim c.match-goal_at.branch [
  | in-Some+in_ok-add_goal w ↦
      rw (w.goals-is, w.candidates-is, w.questions-is)
      (more_have c.args.rules.now c.loop-number.goals.items w.add_goal.new.goals.items c.loop-number.candidates.items
      w.add_goal.new.candidates.items c.loop-number.questions.items w.add_goal.new.questions.items c.loop-number.number
      w.in-Some.goal w.in-Some.ensures.number c.loop-number.invariant
      (subst (AddsGoal c.loop-number.goals.items w.add_goal.new.goals.items c.loop-number.candidates.items
      w.add_goal.new.candidates.items c.loop-number.questions.items w.add_goal.new.questions.items)
      w.candidates-all.ensures w.in_ok-add_goal.ensures))
  | in_default w ↦ absurd (false≢true (w.in_default.ensures.some.1 (omega (arith, c.count-number-end.ensures))))
]

pub returns-clause-rows : goal.returns-clause-rows
returns-clause-rows c =
    rows_are c.args.rules.now c.loop-number.goals.items c.loop-number.candidates.items c.loop-number.questions.items
    c.loop-number.number (omega (arith, c.count-number-end.ensures)) c.loop-number.invariant

pub returns-clause-in_order : goal.returns-clause-in_order
returns-clause-in_order c = λ text reads.
    in_order text c.args.rules.now c.loop-number.goals.items c.loop-number.candidates.items
    c.loop-number.questions.items c.loop-number.number reads (omega (arith, c.count-number-end.ensures))
    (omega (arith, c.count-number-end.ensures)) c.loop-number.invariant

pub returns-clause-lines : goal.returns-clause-lines
returns-clause-lines c = λ text reads. ap lines_of c.in_ok-names.ensures ∙ names_lines text c.args.rules.now reads
