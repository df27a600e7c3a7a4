use Rattle.proof_trees.specs.Recorder.{entries_of, next_of}
use Rattle.proof_trees.proofs.Recorded.{recorded_is_whole}
use Rattle.proof_trees.proofs.law.answered_is_whole.Goals as goal

pub returns : goal.returns
returns g c = λ recorder goal seen same self.
    recorded_is_whole goal (next_of recorder) (entries_of recorder) seen.recorded same self
