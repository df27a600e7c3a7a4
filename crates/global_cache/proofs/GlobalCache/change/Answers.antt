use Rattle.std.proofs.Common.{subst, sym}
use Rattle.global_cache.specs.Below.{verdicts}
use Rattle.global_cache.specs.Words.{Cache, is_among, KeepsOtherNodes, KeepsOtherResults, KeepsOthers}
use Rattle.global_cache.proofs.Changed.{AreSoundFindings-changed}
use Rattle.global_cache.proofs.GlobalCache.change.Goals as goal

pub invariant_of-self : goal.invariant_of-self
invariant_of-self g c =
    let is_gone = is_among g.D.Cx.Input.PartialEq.eq c.args.gone.now.keys in
    AreSoundFindings-changed g.D.Cx.Input.PartialEq.eq (verdicts g.D.Cx.Cx) (g.D.Delegate.script c.self.inside.cx)
    (g.D.Delegate.script c.args.cx) is_gone
    (record { nodes = c.self.inside.nodes; results = c.self.inside.results })
    (record { nodes = c.forget.new.self; results = c.forget-2.new.self })
    (subst (λ (v : Cache _ _ _ _). KeepsOthers is_gone (g.D.Delegate.script v.cx) (g.D.Delegate.script c.args.cx))
    (sym c.self.view_is) c.requires) c.forget.ensures c.forget-2.ensures c.self.invariant

pub returns-clause-results : goal.returns-clause-results
returns-clause-results g c =
    subst (λ (v : Cache _ _ _ _). KeepsOtherResults g.D.Cx.Input.PartialEq.eq
    (is_among g.D.Cx.Input.PartialEq.eq c.args.gone.now.keys) v.results c.forget-2.new.self)
    c.self.view_is c.forget-2.ensures

pub returns-clause-nodes : goal.returns-clause-nodes
returns-clause-nodes g c =
    subst (λ (v : Cache _ _ _ _). KeepsOtherNodes (is_among g.D.Cx.Input.PartialEq.eq c.args.gone.now.keys)
    v.nodes c.forget.new.self) c.self.view_is c.forget.ensures
