use Rattle.std.proofs.Common.{◌≡◌, ◌∙◌, length}
use Rattle.provisional_cache.specs.Words.{changed_by}
use Rattle.provisional_cache.proofs.RebasedEntries.{at_place, is_by_use, is_other, not_at_place}
use Rattle.provisional_cache.proofs.rebasing.rebase_entry.Goals as goal

pub returns-then-ne : goal.returns-then-ne
returns-then-ne g c =
    let head = c.highest_cycle_head.result in
    is_other c.args.stack.now c.args.done.now (changed_by c.args.entry_change.now) c.args.entry.now
    head c.highest_cycle_head.ensures.last
    (not_at_place c.ne.result head.0.0 c.next_index.result.0 _ c.ne.ensures c.next_index.ensures c.if-ne.true)

pub replace_head-requires-clause-can : goal.replace_head-requires-clause-can
replace_head-requires-clause-can g c = c.requires.can

pub replace_head-requires-clause-on_stack : goal.replace_head-requires-clause-on_stack
replace_head-requires-clause-on_stack g c = c.requires.on_stack

pub lead_from_new_head-requires : goal.lead_from_new_head-requires
lead_from_new_head-requires g c = record { there = c.in-Ok.ensures.within }

pub returns : goal.returns
returns g c =
    let head = c.highest_cycle_head.result in
    let at : head.0.0 ≡ length c.args.stack.now =
    at_place c.ne.result head.0.0 c.next_index.result.0 _ c.ne.ensures c.next_index.ensures c.if-ne.false in
    c.lead_from_new_head.ensures ∙ c.in-Ok.ensures.becomes
    ∙ is_by_use c.args.stack.now c.args.done.now (changed_by c.args.entry_change.now) c.args.entry.now head.1 head.0
    c.highest_cycle_head.ensures.last at
