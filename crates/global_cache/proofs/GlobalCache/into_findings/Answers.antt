use Rattle.std.proofs.Common.{subst}
use Rattle.global_cache.specs.Below.{verdicts}
use Rattle.global_cache.specs.Words.{AreSoundFindings, Cache}
use Rattle.global_cache.proofs.GlobalCache.into_findings.Goals as goal

pub returns-clause-sound : goal.returns-clause-sound
returns-clause-sound g c =
    subst (λ (v : Cache _ _ _ _). AreSoundFindings g.D.Cx.Input.PartialEq.eq (verdicts g.D.Cx.Cx)
    (g.D.Delegate.script v.cx) (record { nodes = c.self.inside.nodes; results = c.self.inside.results }))
    c.self.view_is c.self.invariant
