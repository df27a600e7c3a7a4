use Rattle.std.proofs.Common.{arith, rules, ◌≡◌, ◌∙◌, ℕ, List, ◌++◌, All, ap, sym, subst, drop, length, take}
use Rattle.std.proofs.lemmas.Fn.{filter_same}
use Rattle.std.proofs.lemmas.Grind.{common_steps}
use Rattle.std.proofs.lemmas.List.{nil_from_length, take-append-le, take_all}
use Rattle.std.specs.List.{filter, filter_map}
use Rattle.std.specs.Option.{is_some}
use Rattle.provisional_cache.specs.Words.{left_of, rebased, changed_by, CanBeRebased}
use Rattle.provisional_cache.proofs.RebasedEntries.{only_left}
use Rattle.provisional_cache.proofs.rebasing.rebase_list.Goals as goal

-- what is written over a whole list is the list
whole : {X : Type 0} (size : ℕ) (new rest : List X) → size ≡ length new → take size (new ++ rest) ≡ new
whole size new rest is = take-append-le size new rest (omega (arith, is)) ∙ take_all size new (omega (arith, is))

pub rebase_each-requires-clause-can : goal.rebase_each-requires-clause-can
rebase_each-requires-clause-can g c =
    subst (All (CanBeRebased (length c.args.stack.now))) (sym c.as_mut_slice.ensures.value) c.requires.can

pub rebase_each-requires-clause-on_stack : goal.rebase_each-requires-clause-on_stack
rebase_each-requires-clause-on_stack g c = c.requires.on_stack

pub returns : goal.returns
returns g c =
    let new = c.rebase_each.new.entries in
    let items = c.args.entries.now.items in
    let written = whole c.args.entries.now.len new (drop (length new) items)
    (omega (arith, c.as_mut_slice.ensures.len, c.rebase_each.auto.entries)) in
    let left =
    filter_same _ (λ entry. is_some (left_of entry)) _ (λ x b f' called. search rules) _ _ c.retain.ensures.filtered
    ∙ ap (filter (λ entry. is_some (left_of entry))) written
    ∙ only_left new
    ∙ c.in-Ok.ensures
    ∙ ap (filter_map (rebased c.args.stack.now c.args.done.now (changed_by c.args.entry_change.now)))
    c.as_mut_slice.ensures.value in
    record {
      gone = λ goes.
          let size : length c.retain.new.self.items ≡ 0 = grind (arith, common_steps, c.is_empty.ensures, goes) in
          sym left ∙ nil_from_length c.retain.new.self.items size;
      left = λ _ _. left;
    }
