use Rattle.std.proofs.Common.{arith}
use Rattle.rule_arrays.proofs.Adding.{adds_goal}
use Rattle.rule_arrays.proofs.table_rows.add_goal.Goals as goal

pub returns : goal.returns
returns c =
    adds_goal c.args.goals.now.items c.push.new.self.items c.args.candidates.now.items
    c.add_candidates.new.candidates.items c.args.questions.now.items c.add_candidates.new.questions.items c.args.all.now
    (record { first = c.in_ok-first.first; count = c.in_ok-count.count }) c.in_ok-push.ensures.items
    (omega (arith, c.in_ok-first.ensures)) (omega (arith, c.in_ok-count.ensures)) (omega (arith, c.in_ok-count.ensures))
    c.in_ok-add_candidates.ensures
