use Rattle.std.proofs.Common.{◌∙◌, [], length, sym, ap}
use Rattle.goal_changes.specs.Words.{paired}
use Rattle.open_goals.proofs.goals.OpenGoals.new.Goals as goal

pub invariant_of-result : goal.invariant_of-result
invariant_of-result g c = ap length c.new.ensures ∙ sym (ap length c.new-2.ensures.items)

pub returns : goal.returns
returns g c = ap (λ es. paired [] es c.new-2.result.items) c.new.ensures
