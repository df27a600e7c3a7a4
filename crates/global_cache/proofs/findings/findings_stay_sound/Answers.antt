use Rattle.global_cache.proofs.Changed.{AreSoundFindings-changed}
use Rattle.global_cache.proofs.findings.findings_stay_sound.Goals as goal

pub returns : goal.returns
returns g c = AreSoundFindings-changed g.I.PartialEq.eq
