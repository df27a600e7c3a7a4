use Rattle.global_cache.proofs.Sound.{AreSoundFindings-empty}
use Rattle.global_cache.proofs.findings.Findings.new.Goals as goal

pub returns-clause-sound : goal.returns-clause-sound
returns-clause-sound g c = λ says scripts. AreSoundFindings-empty g.I.PartialEq.eq says scripts
    c.new.result c.new-2.result c.new.ensures c.new-2.ensures
