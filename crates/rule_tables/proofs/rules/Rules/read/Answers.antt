use Rattle.std.proofs.Common.{rules, ap, ◌∙◌, ◌+◌, ◌≡◌, length, Err}
use Rattle.std.specs.Prelude.{◌==◌}
use Rattle.std.proofs.lemmas.Iterator.Consumers.{YieldsList-at, YieldsList-from_enumerate}
use Rattle.std.proofs.lemmas.Iterator.Consumers.{YieldsList-turn, YieldsList-end}
use Rattle.std.proofs.lemmas.Iterator.Splits.{YieldsList-from_slice_split}
use Rattle.std.proofs.lemmas.List.{length_push}
use borrow.Author.Tests.{tests}
use Rattle.rule_tables.specs.Words.{lines_of}
use Rattle.line_texts.proofs.Lines.{bad_line, line_at}
use Rattle.rule_tables.proofs.Lines.{read_more, all_read}
use Rattle.rule_tables.specs.Words.{IsMalformed, Says}
use Rattle.rule_tables.proofs.rules.Rules.read.Goals as goal

pub loop-before-preserved : goal.loop-before-preserved
loop-before-preserved c =
    let at = line_at (lines_of c.args.text.now) (length c.loop-before.yielded)
    c.in-Some.before c.in-Some.line.now (YieldsList-turn
    (YieldsList-at c.into_iter-before-iterator.ensures.into_iter_gives
    (YieldsList-from_enumerate (YieldsList-at c.enumerate-before-items.ensures.source
    (YieldsList-from_slice_split _ (λ byte. byte == 10) c.args.text.now c.split.ensures.rest c.split.ensures.done
    c.split.ensures.closure (λ x b q k. search (rules, tests)))) c.enumerate-before-items.ensures.count))
    c.loop-before.yielded _ c.loop-before.yielded_by _ _ (c.in-Some.before, c.in-Some.line)
    c.in-Some.is c.next.ensures.steps) in
    rw length_push (read_more _ _ _ _ _ c.loop-before.invariant at.1 c.in-Ok-read_line.ensures.ok)

pub returns-in-Err-Malformed-clause-bad_line : goal.returns-in-Err-Malformed-clause-bad_line
returns-in-Err-Malformed-clause-bad_line c = λ n e.
    let at = line_at (lines_of c.args.text.now) (length c.loop-before.yielded)
    c.in-Some.before c.in-Some.line.now (YieldsList-turn
    (YieldsList-at c.into_iter-before-iterator.ensures.into_iter_gives
    (YieldsList-from_enumerate (YieldsList-at c.enumerate-before-items.ensures.source
    (YieldsList-from_slice_split _ (λ byte. byte == 10) c.args.text.now c.split.ensures.rest c.split.ensures.done
    c.split.ensures.closure (λ x b q k. search (rules, tests)))) c.enumerate-before-items.ensures.count))
    c.loop-before.yielded _ c.loop-before.yielded_by _ _ (c.in-Some.before, c.in-Some.line)
    c.in-Some.is c.next.ensures.steps) in
    let number : n ≡ c.in-Some.before + 1 = cc in
    bad_line Says IsMalformed _ _ n _ _ c.loop-before.invariant.lines at.1
    (c.in-Err-Malformed.ensures.malformed (ap Err c.in-Err-Malformed.field-0-is)) (number ∙ ap (λ m. m + 1) at.0)

pub returns-in-Ok-finish-clause-ok : goal.returns-in-Ok-finish-clause-ok
returns-in-Ok-finish-clause-ok c =
    let end = YieldsList-end
    (YieldsList-at c.into_iter-before-iterator.ensures.into_iter_gives
    (YieldsList-from_enumerate (YieldsList-at c.enumerate-before-items.ensures.source
    (YieldsList-from_slice_split _ (λ byte. byte == 10) c.args.text.now c.split.ensures.rest c.split.ensures.done
    c.split.ensures.closure (λ x b q k. search (rules, tests)))) c.enumerate-before-items.ensures.count))
    c.loop-before.yielded _ c.loop-before.yielded_by _ _ c.in-None.is c.next.ensures.steps in
    all_read _ _ _ _ c.loop-before.invariant end.1 c.in-Ok-finish.ensures
