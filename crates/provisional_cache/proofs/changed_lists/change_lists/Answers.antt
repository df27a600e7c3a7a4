use Rattle.std.proofs.Common.{rules, subst, sym}
use Rattle.provisional_cache.proofs.RebasedLists.{becomes_at, callable_on_each, left_have}
use Rattle.provisional_cache.proofs.changed_lists.change_lists.Goals as goal

pub retain_lists-requires : goal.retain_lists-requires
retain_lists-requires g c = record {
  callable =
      callable_on_each _ _ _ c.args.lists.now.entries
      (λ x h call. let called = call.2 in search rules)
      (λ k e lt p q key value.
      subst (λ v. g.R.ListRule.accepts c.args.rule.now v.items) (sym value) (c.requires.can k e lt));
}

pub returns-clause-left : goal.returns-clause-left
returns-clause-left g c = λ input. left_have (g.I.PartialEq.eq input) c.retain_lists.new.lists.entries
    (c.has_empty_list.ensures c.if-has_empty_list.false)

pub returns-clause-changed : goal.returns-clause-changed
returns-clause-changed g c = λ input.
    becomes_at _ (g.R.ListRule.becomes c.args.rule.now) _
    (λ k v b w f' called. (rw (← called.leaves, ← called.shows.0, ← called.shows.1) (search rules), search rules))
    g.met.I.Eq.laws c.requires.by_value _ _ input c.retain_lists.ensures.was_unique c.retain_lists.ensures.filtered
    (c.has_empty_list.ensures c.if-has_empty_list.false)
