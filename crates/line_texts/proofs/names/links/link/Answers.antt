use Rattle.std.proofs.Common.{◌+◌, ◌*◌, ◌/◌, ◌%◌, ◌<◌, arith, length, refl, subst, sym}
use Rattle.std.proofs.lemmas.Option.{get_or_from_slice_get, slice_get_read}
use Rattle.line_texts.specs.Letters.{head_of}
use Rattle.line_texts.proofs.LinkLemmas.{IsWay, leads_kept, way_ends, way_on}
use Rattle.line_texts.proofs.names.links.link.Goals.{then-loop-slot-test+else-link-goal, else-loop-slot-test}
use Rattle.line_texts.proofs.names.links.link.Goals as goal

pub loop-slot-preserved : goal.loop-slot-preserved
loop-slot-preserved c =
    let links = c.args.links.now.items in
    let place = c.args.heads + 2 * c.args.number in
    let first = head_of c.args.letters c.args.heads in
    let at = c.loop-slot.invariant.1 in
    let next = c.loop-slot.link + c.loop-slot.rest % 2 in
    let within : next < length links = omega (arith, c.if-link-goal.true, c.requires.room, c.requires.within) in
    let on = way_on links place first c.args.letters c.loop-slot.slot c.loop-slot.rest c.loop-slot.invariant.2
    (subst (λ l. c.loop-slot.slot < l) at c.loop-slot-test.true) in (
      omega (arith, c.if-link-goal.true),
      sym (get_or_from_slice_get links next c.index-in-loop-slot.result.now 0
          (slice_get_read links (length links) next c.index-in-loop-slot.result.now refl within
          c.index-in-loop-slot.ensures)),
      subst (λ l. IsWay links place first c.args.letters (l + c.loop-slot.rest % 2) (c.loop-slot.rest / 2)) (sym at) on,
    )

pub returns-clause-linked : goal.returns-clause-linked
returns-clause-linked c =
    let before = c.loop-slot.invariant.0 in
    way_ends c.args.links.now.items (c.args.heads + 2 * c.args.number) (head_of c.args.letters c.args.heads)
    c.args.letters c.loop-slot.slot c.loop-slot.rest c.loop-slot.invariant.2 before
    (omega (arith, before, c.requires.room, c.requires.within))

pub returns-clause-kept : goal.returns-clause-kept
returns-clause-kept c = λ goal slot rest less way.
    leads_kept c.args.links.now.items c.loop-slot.slot (c.args.heads + 2 * c.args.number) goal slot rest
    (λ taken. elim c.loop-slot-test.branch [
      | then-loop-slot-test+else-link-goal w ↦ omega (arith, w.if-link-goal.false, c.loop-slot.invariant.1)
      | else-loop-slot-test w ↦ absurd (omega (arith, w.loop-slot-test.false, c.loop-slot.invariant.1, taken))
    ]) less way
