use Rattle.std.proofs.Common.{subst}
use Rattle.global_cache.specs.Words.{Findings, is_among, KeepsOtherNodes, KeepsOtherResults}
use Rattle.global_cache.proofs.findings.Findings.forget.Goals as goal

pub returns-clause-results : goal.returns-clause-results
returns-clause-results g c =
    subst (λ (f : Findings _ _ _). KeepsOtherResults g.I.PartialEq.eq
    (is_among g.I.PartialEq.eq c.args.gone.now.keys) f.results c.forget-2.new.self)
    c.self.view_is c.forget-2.ensures

pub returns-clause-nodes : goal.returns-clause-nodes
returns-clause-nodes g c =
    subst (λ (f : Findings _ _ _). KeepsOtherNodes (is_among g.I.PartialEq.eq c.args.gone.now.keys)
    f.nodes c.forget.new.self) c.self.view_is c.forget.ensures
