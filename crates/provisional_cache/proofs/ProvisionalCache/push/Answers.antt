use Rattle.std.proofs.lemmas.Result.{on_ok_weaker}
use Rattle.provisional_cache.specs.Words.{lists_of}
use Rattle.provisional_cache.proofs.ProvisionalLists.{lists_after, appends}
use Rattle.provisional_cache.proofs.ProvisionalCache.push.Goals as goal

pub invariant_of-self : goal.invariant_of-self
invariant_of-self g c =
    lists_after g.D.Cx.Input.PartialEq.eq (lists_of c.self.inside.lists.entries) (lists_of c.append.new.lists.entries)
    c.args.input c.args.entry c.requires c.self.invariant
    c.append.result c.append.ensures.ok c.append.ensures.err

pub returns-clause-ok : goal.returns-clause-ok
returns-clause-ok g c =
    on_ok_weaker c.append.result
    (λ puts. rw (← c.self.view_is) (appends g.met.D.Cx.Input.Eq.laws (lists_of c.self.inside.lists.entries)
    (lists_of c.append.new.lists.entries) c.args.input c.args.entry puts))
    c.append.ensures.ok
