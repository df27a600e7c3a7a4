use Rattle.std.proofs.Common.{◌≡◌, ◌∙◌, if◌then◌else◌, ap, sym, subst}
use Rattle.global_cache.specs.Below.{verdicts}
use Rattle.global_cache.specs.Cache.{Cache}
use Rattle.global_cache.specs.Words.{Success, WithOverflow, StoredResult, stored_at, AnswersStoring, AreSoundResults}
use Rattle.global_cache.specs.Words.{IsPlainAt, KeepsResults}
use Rattle.global_cache.proofs.Stores.{KeepsResults-answered}
use Rattle.global_cache.proofs.Stored.{ranked_never_conflicts}
use Rattle.global_cache.proofs.Sound.{IsSoundCache-stored}
use Rattle.global_cache.proofs.GlobalCache.insert.Goals as goal

pub invariant_of-self : goal.invariant_of-self
invariant_of-self g c =
    IsSoundCache-stored g.D.Cx.Input.PartialEq.eq (verdicts g.D.Cx.Cx) g.D.Delegate.script c.self.inside.cx _
    c.self.inside.results c.args.self.now c.self.view_is c.self.invariant
    g.met.D.Cx.Cx.same_input c.put.result c.put.new.self c.args.input c.args.evaluation_result c.args.token
    c.of-place.result c.stored_of-found.result
    c.requires.graph c.requires.plain c.of-place.ensures c.stored_of-found.ensures c.put.ensures.ok c.put.ensures.err

pub returns-clause-kept : goal.returns-clause-kept
returns-clause-kept g c =
    subst (λ (v : Cache _ _ _ _). KeepsResults g.D.Cx.Input.PartialEq.eq v.results c.put.new.self) c.self.view_is
    (KeepsResults-answered g.D.Cx.Input.PartialEq.eq g.met.D.Cx.Cx.same_input g.D.Cx.Result.PartialEq.eq
    g.met.D.Cx.Cx.same_result c.put.result c.self.inside.results c.put.new.self c.args.input c.of-place.result
    c.stored_of-found.result c.put.ensures.ok c.put.ensures.err c.put.ensures.answer)

pub returns-clause-ranked : goal.returns-clause-ranked
returns-clause-ranked g c = λ n ranked calm.
    let place : c.of-place.result ≡ Success =
    c.of-place.ensures ∙ ap (λ b. if b then WithOverflow c.args.evaluation_result.required_depth else Success) calm in
    ranked_never_conflicts g.D.Cx.Input.PartialEq.eq (verdicts g.D.Cx.Cx) (g.D.Delegate.script c.args.self.now.cx)
    c.args.self.now.nodes c.args.self.now.results g.D.Cx.Result.PartialEq.eq g.met.D.Cx.Result.Eq.laws
    (subst (λ v. AreSoundResults g.D.Cx.Input.PartialEq.eq (verdicts g.D.Cx.Cx) (g.D.Delegate.script v.cx) v.nodes
    v.results) c.self.view_is c.self.invariant.results) n c.args.input c.args.evaluation_result.result ranked
    (subst (λ p. IsPlainAt (g.D.Delegate.script c.args.self.now.cx) c.args.input p c.args.evaluation_result.result)
    (sym c.of-place.ensures ∙ place) c.requires.plain)
    (stored_at g.D.Cx.Input.PartialEq.eq c.self.inside.results c.args.input c.of-place.result)
    (ap (λ v. stored_at g.D.Cx.Input.PartialEq.eq v.results c.args.input Success) (sym c.self.view_is)
    ∙ ap (stored_at g.D.Cx.Input.PartialEq.eq c.self.inside.results c.args.input) (sym place)) c.put.result
    (subst (λ (s : StoredResult _ _ _). AnswersStoring g.D.Cx.Result.PartialEq.eq c.args.input
    (stored_at g.D.Cx.Input.PartialEq.eq c.self.inside.results c.args.input c.of-place.result) s.result.result
    c.put.result) c.stored_of-found.ensures c.put.ensures.answer)
