use Rattle.std.proofs.Common.{rules, length, ◌∙◌, sym, arith}
use Rattle.std.specs.Prelude.{◌==◌}
use Rattle.std.proofs.lemmas.Iterator.Consumers.{YieldsList-at, YieldsList-from_enumerate}
use Rattle.std.proofs.lemmas.Iterator.Consumers.{YieldsList-turn, YieldsList-end}
use Rattle.std.proofs.lemmas.Iterator.Splits.{YieldsList-from_slice_split}
use Rattle.std.proofs.lemmas.List.{length_push}
use Rattle.std.proofs.lemmas.List.FromFn.{length-enumerate_from}
use Rattle.std.proofs.lemmas.Bool.{false≢true}
use Rattle.std.proofs.lemmas.Slice.Eq.{bytes_eq-Decides}
use borrow.Author.Tests.{tests}
use Rattle.line_texts.specs.Lines.{lines_of}
use Rattle.rule_tables.proofs.Lines.{line_at}
use Rattle.rule_arrays.proofs.FirstLine.{has_bytes, later_more, nowhere, told}
use Rattle.rule_arrays.proofs.names.find.Goals as goal

pub returns-then-eq : goal.returns-then-eq
returns-then-eq c =
    let at = line_at (lines_of c.args.names.now) (length c.loop-place.yielded) c.in-Some.place c.in-Some.line.now
    (YieldsList-turn
    (YieldsList-at c.into_iter-place-iterator.ensures.into_iter_gives
    (YieldsList-from_enumerate (YieldsList-at c.enumerate-place-items.ensures.source
    (YieldsList-from_slice_split _ (λ byte. byte == 10) c.args.names.now c.split.ensures.rest c.split.ensures.done
    c.split.ensures.closure (λ x b q k. search (rules, tests)))) c.enumerate-place-items.ensures.count))
    c.loop-place.yielded _ c.loop-place.yielded_by _ _ (c.in-Some.place, c.in-Some.line)
    c.in-Some.is c.next.ensures.steps) in
    told c.args.names.now c.args.name.now c.in-Some.line.now (length c.loop-place.yielded) c.in-Some.place
    c.numbered.result (has_bytes c.args.name.now c.if-is_empty.ensures) c.loop-place.invariant at.0 at.1
    ((bytes_eq-Decides c.in-Some.line.now c.args.name.now).0 (sym c.if-eq.ensures)) c.numbered.ensures

pub loop-place-preserved : goal.loop-place-preserved
loop-place-preserved c =
    let at = line_at (lines_of c.args.names.now) (length c.loop-place.yielded) c.in-Some.place c.in-Some.line.now
    (YieldsList-turn
    (YieldsList-at c.into_iter-place-iterator.ensures.into_iter_gives
    (YieldsList-from_enumerate (YieldsList-at c.enumerate-place-items.ensures.source
    (YieldsList-from_slice_split _ (λ byte. byte == 10) c.args.names.now c.split.ensures.rest c.split.ensures.done
    c.split.ensures.closure (λ x b q k. search (rules, tests)))) c.enumerate-place-items.ensures.count))
    c.loop-place.yielded _ c.loop-place.yielded_by _ _ (c.in-Some.place, c.in-Some.line)
    c.in-Some.is c.next.ensures.steps) in
    rw length_push (later_more c.args.names.now c.args.name.now c.in-Some.line.now (length c.loop-place.yielded)
    c.loop-place.invariant at.1
    (λ e. let t = (bytes_eq-Decides c.in-Some.line.now c.args.name.now).1 e in let f = c.if-eq.ensures in
    false≢true (f ∙ t)))

pub returns : goal.returns
returns c =
    let end = YieldsList-end
    (YieldsList-at c.into_iter-place-iterator.ensures.into_iter_gives
    (YieldsList-from_enumerate (YieldsList-at c.enumerate-place-items.ensures.source
    (YieldsList-from_slice_split _ (λ byte. byte == 10) c.args.names.now c.split.ensures.rest c.split.ensures.done
    c.split.ensures.closure (λ x b q k. search (rules, tests)))) c.enumerate-place-items.ensures.count))
    c.loop-place.yielded _ c.loop-place.yielded_by _ _ c.in-None.is c.next.ensures.steps in
    nowhere c.args.names.now c.args.name.now (length c.loop-place.yielded) c.loop-place.invariant
    (omega (arith, end.1, length-enumerate_from 0 (lines_of c.args.names.now)))
