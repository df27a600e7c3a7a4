use Rattle.proof_trees.proofs.Recorded.{nothing_seen}
use Rattle.proof_trees.proofs.law.new_recorder_has_seen_none.Goals as goal

pub returns : goal.returns
returns g c = λ recorder goal recording empty next. nothing_seen recorder goal recording empty next
