use Rattle.std.proofs.Common.{◌∙◌, ◌≢◌, [], All, Some, None, sym, subst}
use Rattle.provisional_cache.specs.Words.{entries_at}
use Rattle.provisional_cache.proofs.ProvisionalLists.{found_at, heads_at}
use Rattle.provisional_cache.proofs.ProvisionalCache.entries_of.Goals as goal

pub returns-in-Some-clause-entries : goal.returns-in-Some-clause-entries
returns-in-Some-clause-entries g c =
    c.as_slice.ensures.value
    ∙ found_at g.D.Cx.Input.PartialEq.eq c.self.inside.lists.entries c.args.self.now c.args.input
    (Some c.in-Some.entries.now) c.self.view_is c.in-Some.ensures.value

pub returns-in-Some-clause-heads : goal.returns-in-Some-clause-heads
returns-in-Some-clause-heads g c =
    let same = g.D.Cx.Input.PartialEq.eq in
    let all = subst (λ lists. All (λ e. e.heads ≢ []) (entries_at same lists c.args.input)) c.self.view_is
    (heads_at same _ c.args.input c.self.invariant) in
    subst (All (λ e. e.heads ≢ [])) (sym (returns-in-Some-clause-entries g c)) all

pub returns-in-None-clause-entries : goal.returns-in-None-clause-entries
returns-in-None-clause-entries g c =
    found_at g.D.Cx.Input.PartialEq.eq c.self.inside.lists.entries c.args.self.now c.args.input None
    c.self.view_is c.in-None.ensures.value
