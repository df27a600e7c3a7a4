use Rattle.std.proofs.Common.{◌≡◌, ◌≤◌, ◌∙◌, true, false, not, cond, length, All, Some, None, sym, ap, subst}
use Rattle.provisional_cache.specs.Below.{has_usages}
use Rattle.provisional_cache.specs.Words.{changed_by}
use Rattle.cycle_heads.proofs.Counts.{used_by_test}
use Rattle.provisional_cache.proofs.RebasedEntries.{is_dropped, kinds_differ, unused_becomes, used_becomes}
use Rattle.provisional_cache.proofs.rebasing.replace_head.Goals as goal
use Rattle.provisional_cache.proofs.rebasing.replace_head.Goals.{
  else-keeps_kinds-via-then-keeps_kinds+else-change_entry,
}
use Rattle.provisional_cache.proofs.rebasing.replace_head.Goals.{else-keeps_kinds-via-else-keeps_kinds}

pub replace_unused-requires : goal.replace_unused-requires
replace_unused-requires g c = record { some = c.requires.can.some }

pub replace_used-requires : goal.replace_used-requires
replace_used-requires g c = record { some = λ none. c.requires.can.some (sym c.change_entry.ensures.heads ∙ none) }

pub returns-then-is_empty-clause-becomes : goal.returns-then-is_empty-clause-becomes
returns-then-is_empty-clause-becomes g c =
    let head = c.args.head in
    let change = changed_by c.args.entry_change.now in
    let heads = c.replace_unused.new.heads in
    let unused : has_usages head.usages ≡ false =
    sym (used_by_test head.usages c.is_empty.result c.is_empty.ensures) ∙ ap not c.if-is_empty.true in
    unused_becomes c.args.stack.now c.args.done.now change c.args.entry.now head heads c.replace_unused.result unused
    c.replace_unused.ensures.recorded

pub returns-then-is_empty-clause-within : goal.returns-then-is_empty-clause-within
returns-then-is_empty-clause-within g c =
    c.replace_unused.ensures.within (length c.args.stack.now) c.requires.can.within c.requires.on_stack

pub returns-then-change_entry-clause-becomes : goal.returns-then-change_entry-clause-becomes
returns-then-change_entry-clause-becomes g c =
    let head = c.args.head in
    let change = changed_by c.args.entry_change.now in
    let old = c.args.entry.now in
    let new = c.change_entry.new.entry in
    let heads = c.replace_used.new.heads in
    let used : has_usages head.usages ≡ true =
    sym (used_by_test head.usages c.is_empty.result c.is_empty.ensures) ∙ ap not c.if-is_empty.false in
    let changes : Some new ≡ change head.usages old = subst (λ left. cond left (Some new) None ≡ change head.usages old)
    c.if-change_entry.true c.change_entry.ensures.changed in
    let keeps = sym c.keeps_kinds.ensures ∙ c.if-keeps_kinds.true in
    used_becomes c.args.stack.now c.args.done.now change old head new heads c.replace_used.result used keeps changes
    c.replace_used.ensures.recorded

pub returns-then-change_entry-clause-within : goal.returns-then-change_entry-clause-within
returns-then-change_entry-clause-within g c =
    let n = length c.args.stack.now in
    c.replace_used.ensures.within n
    (subst (λ heads. All (λ head. head.0.0 ≤ n) heads) (sym c.change_entry.ensures.heads) c.requires.can.within)
    c.requires.on_stack

pub returns-clause-becomes : goal.returns-clause-becomes
returns-clause-becomes g c =
    let head = c.args.head in
    let change = changed_by c.args.entry_change.now in
    let old = c.args.entry.now in
    let used : has_usages head.usages ≡ true =
    sym (used_by_test head.usages c.is_empty.result c.is_empty.ensures) ∙ ap not c.if-is_empty.false in
    elim c.else-keeps_kinds.branch [
      | else-keeps_kinds-via-then-keeps_kinds+else-change_entry w ↦
          let new = w.change_entry.new.entry in
          let drops : None ≡ change head.usages old = subst (λ left. cond left (Some new) None ≡ change head.usages old)
          w.if-change_entry.false w.change_entry.ensures.changed in
          is_dropped c.args.stack.now c.args.done.now change old head _ c.give_up.ensures used drops
      | else-keeps_kinds-via-else-keeps_kinds w ↦
          kinds_differ c.args.stack.now c.args.done.now change old head _ c.give_up.ensures used
          (sym c.keeps_kinds.ensures ∙ w.if-keeps_kinds.false)
    ]

pub returns-clause-within : goal.returns-clause-within
returns-clause-within g c = rw c.give_up.ensures tt
