use Rattle.rule_arrays.specs.Rows.{HaveRows}
use Rattle.rule_arrays.proofs.table_rows.TableRows.new.Given as goal

abbrev pub invariant-loop-number : goal.invariant-loop-number
invariant-loop-number l = HaveRows l.rules l.goals.items l.candidates.items l.questions.items l.number
