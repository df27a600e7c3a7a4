use Rattle.proof_trees.proofs.Recorded.{recorded_is_whole}
use Rattle.proof_trees.proofs.law.recorded_is_whole.Goals as goal

pub returns : goal.returns
returns g c = λ goal next entries recorded same self. recorded_is_whole goal next entries recorded same self
