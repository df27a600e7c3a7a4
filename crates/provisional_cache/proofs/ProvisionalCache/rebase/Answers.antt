use Rattle.std.proofs.Common.{rules, ◌≡◌, ◌∙◌, false, length, sym}
use Rattle.provisional_cache.specs.Words.{CanBeRebased, entries_at, lists_of, changed_for}
use Rattle.provisional_cache.proofs.ConcernedLists.{all_stay, is_concerned, none_at}
use Rattle.provisional_cache.proofs.ProvisionalLists.{each_list}
use Rattle.provisional_cache.proofs.RebasedEntryLists.{can_be_rebased, rebased_or_none}
use Rattle.provisional_cache.proofs.ProvisionalCache.rebase.Goals as goal

pub rebase_lists-requires-clause-can : goal.rebase_lists-requires-clause-can
rebase_lists-requires-clause-can g c =
    let same = g.D.Cx.Input.PartialEq.eq in
    let old = lists_of c.self.inside.lists.entries in
    let within = rw (← c.self.view_is) at c.requires.within in
    each_list same (CanBeRebased (length c.args.stack.now)) c.self.inside.lists.entries c.concerns_lists.ensures.found
    (can_be_rebased c.args.stack.now c.args.done.now same old old c.self.invariant within)

pub invariant_of-self : goal.invariant_of-self
invariant_of-self g c =
    rebased_or_none c.args.stack.now c.args.done.now g.D.Cx.Input.PartialEq.eq (lists_of c.self.inside.lists.entries)
    (lists_of c.rebase_lists.new.lists.entries) c.self.invariant
    (λ input. changed_for (g.D.Delegate.propagated c.args.cx input)
    (g.D.Delegate.fixpoint_overflow c.args.cx input) c.args.reason)
    c.rebase_lists.result c.rebase_lists.ensures.rebased c.rebase_lists.ensures.left c.rebase_lists.ensures.err

-- where no entry is concerned, all stay
pub returns-then-not-concerns_lists-clause-ok : goal.returns-then-not-concerns_lists-clause-ok
returns-then-not-concerns_lists-clause-ok g c = λ input.
    let same = g.D.Cx.Input.PartialEq.eq in
    let depth = c.next_index.result.0 in
    let lists = lists_of c.self.inside.lists.entries in
    let none : c.concerns_lists.result ≡ false = search (rules, c.if-not-concerns_lists.true) in
    let apart = none_at same (is_concerned depth) lists (sym c.concerns_lists.ensures.concerned ∙ none) input in
    let change_entry = changed_for (g.D.Delegate.propagated c.args.cx input)
    (g.D.Delegate.fixpoint_overflow c.args.cx input) c.args.reason in
    rw (← c.self.view_is) (sym (all_stay c.args.stack.now c.args.done.now change_entry depth c.next_index.ensures
    (entries_at same lists input) apart))
