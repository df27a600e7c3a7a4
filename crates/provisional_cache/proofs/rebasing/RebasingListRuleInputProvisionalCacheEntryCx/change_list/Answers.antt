use Rattle.std.proofs.Common.{rules, ◌≡◌, ◌∙◌, false, sym, ap, subst}
use Rattle.std.specs.List.{filter_map, list_any}
use Rattle.provisional_cache.specs.Words.{rebased, IsLeft}
use Rattle.provisional_cache.proofs.ConcernedLists.{all_stay, is_concerned}
use Rattle.provisional_cache.proofs.rebasing.RebasingListRuleInputProvisionalCacheEntryCx.change_list.Goals as goal

-- a list that isn't concerned stays
pub returns-then-not-concerns_list : goal.returns-then-not-concerns_list
returns-then-not-concerns_list g c =
    let none : c.concerns_list.result ≡ false = search (rules, c.if-not-concerns_list.true) in
    let apart = ap (list_any (is_concerned c.next_index.result.0)) (sym c.as_slice.ensures.value)
    ∙ sym c.concerns_list.ensures ∙ none in
    record {
      gone = λ goes. absurd cc;
      left = λ _ _. sym (all_stay c.args.self.now.stack.now c.args.self.now.done.now _ c.next_index.result.0
          c.next_index.ensures c.args.entries.now.items apart);
    }

pub returns : goal.returns
returns g c =
    subst (λ change. IsLeft c.rebase_list.result c.rebase_list.new.entries.items
    (filter_map (rebased c.args.self.now.stack.now c.args.self.now.done.now change) c.args.entries.now.items))
    c.change_for-entry_change.ensures c.rebase_list.ensures
