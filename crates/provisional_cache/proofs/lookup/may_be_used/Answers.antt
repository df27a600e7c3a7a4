use Rattle.search_stack.specs.Cycle.{path_kind_from}
use Rattle.provisional_cache.specs.Below.{highest}
use Rattle.provisional_cache.proofs.ReusedEntries.{not_used, same_kind, top_within}
use Rattle.provisional_cache.proofs.ReusedEntries.{used_with_overflow, used_without_overflow}
use Rattle.provisional_cache.proofs.lookup.may_be_used.Goals as goal
use Rattle.provisional_cache.proofs.lookup.may_be_used.Goals.{else-entry-via-then-entry+else-not-has_head_up_to}
use Rattle.provisional_cache.proofs.lookup.may_be_used.Goals.{else-entry-via-else-entry}

pub returns-then-not-has_head_up_to : goal.returns-then-not-has_head_up_to
returns-then-not-has_head_up_to g c =
    let top = c.highest_cycle_head_index-head.ensures.last in
    let within =
    top_within (highest c.args.entry.now.heads) c.highest_cycle_head_index-head.result _ top c.requires.on_stack in
    not_used c.args.stack.now c.args.step c.args.entry.now c.highest_cycle_head_index-head.result top c.last.result.now
    within c.last.ensures c.if-entry.true
    c.has_head_up_to.result c.has_head_up_to.ensures c.if-not-has_head_up_to.true

pub returns : goal.returns
returns g c =
    let depth = c.highest_cycle_head_index-head.result in
    let top = c.highest_cycle_head_index-head.ensures.last in
    let within = top_within (highest c.args.entry.now.heads) depth _ top c.requires.on_stack in
    let same = same_kind c.eq.result c.args.entry.now.path_from_head c.path_kind.result
    (path_kind_from c.args.stack.now depth.0 c.args.step) c.eq.ensures c.path_kind.ensures in
    elim c.else-entry.branch [
      | else-entry-via-then-entry+else-not-has_head_up_to w ↦
          used_with_overflow c.args.stack.now c.args.step c.args.entry.now depth top w.last.result.now
          within w.last.ensures w.if-entry.true
          w.has_head_up_to.result w.has_head_up_to.ensures w.if-not-has_head_up_to.false c.eq.result same
      | else-entry-via-else-entry w ↦ used_without_overflow c.args.stack.now c.args.step c.args.entry.now depth
          top w.if-entry.false c.eq.result same
    ]
