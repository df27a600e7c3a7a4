use Rattle.graph_texts.proofs.Plans.{walk_again}
use Rattle.graph_texts.proofs.plan.Walk.again.Goals as goal

pub returns-clause-walk : goal.returns-clause-walk
returns-clause-walk c = rw c.in_ok-push.ensures.items (walk_again _ _ _ _ _ _ c.requires.marked c.requires.walk)
