use Rattle.early_scripts.proofs.EarlySteps.{fresh_within}
use Rattle.early_scripts.proofs.early.EarlyFrames.start.Goals as goal

pub returns-clause-within : goal.returns-clause-within
returns-clause-within g c = rw c.new.ensures (fresh_within (g.T.Lends.lent_by c.args.cx.lender) c.args.input)
