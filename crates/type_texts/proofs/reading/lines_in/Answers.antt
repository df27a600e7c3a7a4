use Rattle.std.proofs.Common.{rules, ap, ◌+◌, length, Err}
use Rattle.std.specs.Prelude.{◌==◌}
use Rattle.std.proofs.lemmas.Iterator.Consumers.{YieldsList-at, YieldsList-from_enumerate}
use Rattle.std.proofs.lemmas.Iterator.Consumers.{YieldsList-turn, YieldsList-end}
use Rattle.std.proofs.lemmas.Iterator.Splits.{YieldsList-from_slice_split}
use Rattle.std.proofs.lemmas.List.{length_push}
use borrow.Author.Tests.{tests}
use Rattle.line_texts.proofs.Lines.{bad_line, line_at, says_all}
use Rattle.type_texts.specs.Words.{IsMalformed, lines_of, Says}
use Rattle.type_texts.proofs.Lines.{read_more}
use Rattle.type_texts.proofs.reading.lines_in.Goals as goal

pub loop-before-preserved : goal.loop-before-preserved
loop-before-preserved c =
    let at = line_at (lines_of c.args.text.now) (length c.loop-before.yielded)
    c.in-Some.before c.in-Some.line.now (YieldsList-turn
    (YieldsList-at c.into_iter-before-iterator.ensures.into_iter_gives
    (YieldsList-from_enumerate (YieldsList-at c.enumerate-before-items.ensures.source
    (YieldsList-from_slice_split _ (λ byte. byte == 10) c.args.text.now c.split.ensures.rest c.split.ensures.done
    c.split.ensures.closure (λ x b q k. search (rules, tests)))) c.enumerate-before-items.ensures.count))
    c.loop-before.yielded _ c.loop-before.yielded_by _ _ (c.in-Some.before, c.in-Some.line)
    c.in-Some.is c.next.ensures.steps) in
    rw length_push
    (read_more c.args.text.now (length c.loop-before.yielded) c.loop-before.lines.items c.push.new.self.items
    c.in-Some.line.now c.in-Ok.said c.loop-before.invariant at.1 c.in-Ok.ensures.said c.in_ok-push-in-Ok.ensures.items)

pub returns-clause-lines : goal.returns-clause-lines
returns-clause-lines c =
    let end = YieldsList-end
    (YieldsList-at c.into_iter-before-iterator.ensures.into_iter_gives
    (YieldsList-from_enumerate (YieldsList-at c.enumerate-before-items.ensures.source
    (YieldsList-from_slice_split _ (λ byte. byte == 10) c.args.text.now c.split.ensures.rest c.split.ensures.done
    c.split.ensures.closure (λ x b q k. search (rules, tests)))) c.enumerate-before-items.ensures.count))
    c.loop-before.yielded _ c.loop-before.yielded_by _ _ c.in-None.is c.next.ensures.steps in
    says_all Says c.args.text.now _ _ c.loop-before.invariant end.1

pub returns-in-Err-Malformed-clause-fault : goal.returns-in-Err-Malformed-clause-fault
returns-in-Err-Malformed-clause-fault c =
    let at = line_at (lines_of c.args.text.now) (length c.loop-before.yielded)
    c.in-Some.before c.in-Some.line.now (YieldsList-turn
    (YieldsList-at c.into_iter-before-iterator.ensures.into_iter_gives
    (YieldsList-from_enumerate (YieldsList-at c.enumerate-before-items.ensures.source
    (YieldsList-from_slice_split _ (λ byte. byte == 10) c.args.text.now c.split.ensures.rest c.split.ensures.done
    c.split.ensures.closure (λ x b q k. search (rules, tests)))) c.enumerate-before-items.ensures.count))
    c.loop-before.yielded _ c.loop-before.yielded_by _ _ (c.in-Some.before, c.in-Some.line)
    c.in-Some.is c.next.ensures.steps) in
    bad_line Says IsMalformed _ _ _ _ c.in-Some.line.now c.loop-before.invariant at.1
    (c.in-Err-Malformed.ensures.malformed (ap Err c.in-Err-Malformed.field-0-is)) (ap (λ m. m + 1) at.0)
