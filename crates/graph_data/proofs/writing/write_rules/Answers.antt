use Rattle.std.proofs.Common.{◌∷◌, ◌++◌, [], codes, length, rules}
use Rattle.std.specs.Prelude.{◌==◌}
use Rattle.std.proofs.lemmas.Iterator.Consumers.{YieldsList-at, YieldsList-turn, YieldsList-end}
use Rattle.std.proofs.lemmas.Iterator.Splits.{YieldsList-from_slice_split}
use Rattle.std.proofs.lemmas.List.{length_push}
use borrow.Author.Tests.{tests}
use Rattle.json.specs.Token.{begin_array, begin_object, key}
use Rattle.line_texts.specs.Lines.{lines_of}
use Rattle.graph_data.proofs.Lines.{all_said, next_said, none_said}
use Rattle.graph_data.proofs.Spelling.{puts_all, puts_none, puts_token}
use Rattle.graph_data.proofs.Written.{lines_more}
use Rattle.graph_data.proofs.writing.write_rules.Goals as goal

pub loop-line-init : goal.loop-line-init
loop-line-init c =
    let p0 = puts_token c.args.writer.now c.args.writer.now c.begin_object.new.self _ _ (puts_none c.args.writer.now)
    c.in_ok-begin_object.ensures.ok c.in_ok-begin_object.ensures.room.0 in (
      [],
      none_said,
      puts_all c.args.writer.now c.begin_object.new.self c.begin_array_at.new.writer
          _ _ p0 c.in_ok-begin_array_at.ensures,
    )

pub loop-line-preserved : goal.loop-line-preserved
loop-line-preserved c =
    let at = YieldsList-turn (YieldsList-at c.into_iter-line-iterator.ensures.into_iter_gives
    (YieldsList-from_slice_split _ (λ byte. byte == 10) c.args.text.now c.split-line-items.ensures.rest
    c.split-line-items.ensures.done c.split-line-items.ensures.closure (λ x b q k. search (rules, tests))))
    c.loop-line.yielded _ c.loop-line.yielded_by _ _ c.in-Some.line c.in-Some.is c.next.ensures.steps in
    let so_far = c.loop-line.invariant in
    let more = c.in_ok-write_line.ensures in
    rw length_push (
      so_far.0 ++ more.0,
      next_said (lines_of c.args.text.now) so_far.0 (length c.loop-line.yielded)
          c.in-Some.line.now more.0 at so_far.1 more.1,
      lines_more c.args.writer.now c.loop-line.writer c.write_line.new.writer
          (λ rest. begin_object ∷ key (codes "rules") ∷ begin_array ∷ rest) so_far.0 more.0 so_far.2 more.2,
    )

pub returns : goal.returns
returns c =
    let end = YieldsList-end (YieldsList-at c.into_iter-line-iterator.ensures.into_iter_gives
    (YieldsList-from_slice_split _ (λ byte. byte == 10) c.args.text.now c.split-line-items.ensures.rest
    c.split-line-items.ensures.done c.split-line-items.ensures.closure (λ x b q k. search (rules, tests))))
    c.loop-line.yielded _ c.loop-line.yielded_by _ _ c.in-None.is c.next.ensures.steps in
    let so_far = c.loop-line.invariant in (
      so_far.0,
      all_said c.args.text.now so_far.0 _ end.1 so_far.1,
      puts_token c.args.writer.now c.loop-line.writer c.end_array.new.self _ _ so_far.2
          c.in_ok-end_array.ensures.ok c.in_ok-end_array.ensures.room.0,
    )
