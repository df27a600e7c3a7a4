use Rattle.std.proofs.Common.{rules}
use Rattle.graph_texts.proofs.Plans.{walk_left}
use Rattle.graph_texts.proofs.plan.Walk.leave.Goals as goal

pub returns-in-Some-Open-clause-walk : goal.returns-in-Some-Open-clause-walk
returns-in-Some-Open-clause-walk c = walk_left _ _ _ _ (search rules) c.requires
