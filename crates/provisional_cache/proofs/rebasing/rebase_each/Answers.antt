use Rattle.std.proofs.Common.{arith, ◌+◌, ◌<◌, All, drop, get_or, length, refl, subst}
use Rattle.std.proofs.lemmas.List.{drop_more}
use Rattle.std.proofs.lemmas.List.Elements.{All-head}
use Rattle.provisional_cache.specs.Words.{left_of, rebased, CanBeRebased, changed_by}
use Rattle.provisional_cache.proofs.RebasedLists.{all_become, one_more, others_can}
use Rattle.provisional_cache.proofs.rebasing.rebase_each.Goals as goal

pub loop-entry-init : goal.loop-entry-init
loop-entry-init g c = (refl, c.requires.can)

pub rebase_entry-requires-clause-can : goal.rebase_entry-requires-clause-can
rebase_entry-requires-clause-can g c =
    let items = c.loop-entry.entries in
    let i = c.loop-entry.entry-index in
    let within : i < length items = omega (arith, c.loop-entry-test.true, c.loop-entry.auto.entries) in
    let P = CanBeRebased (length c.args.stack.now) in
    All-head P (get_or items i c.entry-item.result) (drop (i + 1) items)
    (subst (All P) (drop_more items i c.entry-item.result within) c.loop-entry.invariant.1)

pub rebase_entry-requires-clause-on_stack : goal.rebase_entry-requires-clause-on_stack
rebase_entry-requires-clause-on_stack g c = c.requires.on_stack

pub loop-entry-preserved : goal.loop-entry-preserved
loop-entry-preserved g c =
    let becomes = rebased c.args.stack.now c.args.done.now (changed_by c.args.entry_change.now) in
    let items = c.loop-entry.entries in
    let i = c.loop-entry.entry-index in
    let within : i < length items = omega (arith, c.loop-entry-test.true, c.loop-entry.auto.entries) in (
      one_more left_of becomes items i c.entry-item.result c.rebase_entry.new.entry within _
          c.in-Ok.ensures c.loop-entry.invariant.0,
      others_can left_of becomes items i c.entry-item.result c.rebase_entry.new.entry within
          (CanBeRebased (length c.args.stack.now)) c.loop-entry.invariant.1,
    )

pub returns : goal.returns
returns g c =
    all_become left_of (rebased c.args.stack.now c.args.done.now (changed_by c.args.entry_change.now))
    c.loop-entry.entries c.loop-entry.entry-index _
    (omega (arith, c.loop-entry-test.false, c.loop-entry.auto.entries)) c.loop-entry.invariant.0
