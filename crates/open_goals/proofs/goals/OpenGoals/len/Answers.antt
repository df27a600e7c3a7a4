use Rattle.std.proofs.Common.{arith, []}
use Rattle.std.proofs.lemmas.Grind.{common_steps}
use Rattle.open_goals.proofs.Pairs.{length-paired}
use Rattle.open_goals.proofs.goals.OpenGoals.len.Goals as goal

pub returns : goal.returns
returns g c =
    grind (arith, common_steps, length-paired [] c.self.inside.stack c.self.inside.runs.items c.self.invariant)
