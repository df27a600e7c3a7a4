use Rattle.std.proofs.Common.{ap, sym, ◌∙◌}
use Rattle.std.proofs.lemmas.Map.Iter.{rest_more, rest_all}
use Rattle.std.specs.List.{list_any}
use Rattle.std.specs.Map.Iter.{deref_pair}
use Rattle.provisional_cache.specs.Words.{lists_of}
use Rattle.provisional_cache.proofs.ConcernedLists.{is_concerned, has_concerned, first_passes, others_tell}
use Rattle.provisional_cache.proofs.concerned.concerns_lists.Goals as goal

pub loop-entries-preserved : goal.loop-entries-preserved
loop-entries-preserved g c =
    let first = ap lists_of (rest_more deref_pair c.loop-entries.entries-iterator c.next.new.self c.next.result
    (c.in-Some.field-0-0, c.in-Some.entries) c.in-Some.is c.next.ensures.steps) in
    let apart = ap (list_any (is_concerned c.args.depth.0)) (sym c.as_slice.ensures.value)
    ∙ sym c.concerns_list.ensures ∙ c.if-concerns_list.false in
    others_tell (has_concerned c.args.depth.0) (c.in-Some.field-0-0.now, c.in-Some.entries.now.items)
    (lists_of c.next.new.self) _ first _ c.loop-entries.invariant apart

pub returns-then-concerns_list-clause-concerned : goal.returns-then-concerns_list-clause-concerned
returns-then-concerns_list-clause-concerned g c =
    let first = ap lists_of (rest_more deref_pair c.loop-entries.entries-iterator c.next.new.self c.next.result
    (c.in-Some.field-0-0, c.in-Some.entries) c.in-Some.is c.next.ensures.steps) in
    let passes = sym c.if-concerns_list.true ∙ c.concerns_list.ensures
    ∙ ap (list_any (is_concerned c.args.depth.0)) c.as_slice.ensures.value in
    let found = first_passes (has_concerned c.args.depth.0) (c.in-Some.field-0-0.now, c.in-Some.entries.now.items)
    (lists_of c.next.new.self) _ first _ c.loop-entries.invariant passes in
    let whole = c.into_iter-entries-iterator.ensures.into_iter_gives ∙ c.iter-entries-items.ensures.rest in
    found ∙ ap (list_any (has_concerned c.args.depth.0)) (ap lists_of whole)

pub returns-clause-concerned : goal.returns-clause-concerned
returns-clause-concerned g c =
    let none = rest_all deref_pair c.loop-entries.entries-iterator c.next.new.self c.next.result
    c.in-None.is c.next.ensures.steps in
    let whole = c.into_iter-entries-iterator.ensures.into_iter_gives ∙ c.iter-entries-items.ensures.rest in
    ap (list_any (has_concerned c.args.depth.0)) (ap lists_of (sym none)) ∙ c.loop-entries.invariant
    ∙ ap (list_any (has_concerned c.args.depth.0)) (ap lists_of whole)
