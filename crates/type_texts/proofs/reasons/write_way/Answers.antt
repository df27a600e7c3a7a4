use Rattle.std.proofs.Common.{◌++◌, sym, ap, ◌∙◌}
use Rattle.std.specs.Option.{option_copied}
use Rattle.type_texts.specs.Reasons.{place_words, step_name}
use Rattle.type_texts.proofs.Failing.{mark_after, marked_after, named_next, unnamed_next, written_on}
use Rattle.type_texts.proofs.reasons.write_way.Goals as goal
use Rattle.type_texts.proofs.reasons.write_way.Goals.{in-Some+in_ok-extend_from_slice+in_ok-extend_from_slice-2}
use Rattle.type_texts.proofs.reasons.write_way.Goals.{in_default}

pub loop-step-preserved : goal.loop-step-preserved
loop-step-preserved c =
    let so_far = c.loop-step.invariant in
    elim c.match-name_of.branch [
      | in-Some+in_ok-extend_from_slice+in_ok-extend_from_slice-2 w ↦
          let next = named_next (step_name c.args.table.now) c.args.way.now c.loop-step.step-index _
          c.loop-step-test.true w.in-Some.name.now
          (sym c.name_of.ensures ∙ ap option_copied w.in-Some.is) in
          record {
            written = ap (λ text. text.items) w.text-is
                ∙ written_on c.args.text.now.items _ _ w.in-Some.name.now _ _ so_far.written so_far.mark
                (w.in_ok-extend_from_slice-2.ensures.items
                ∙ ap (λ items. items ++ w.in-Some.name.now) w.in_ok-extend_from_slice.ensures.items)
                ∙ ap (λ names. c.args.text.now.items ++ place_words names) (sym next);
            mark = ap (λ before. before.now) w.before-is
                ∙ sym (marked_after _ w.in-Some.name.now) ∙ ap mark_after (sym next);
          }
      | in_default w ↦
          let same =
          unnamed_next (step_name c.args.table.now) c.args.way.now c.loop-step.step-index _ c.loop-step-test.true
          (sym c.name_of.ensures ∙ ap option_copied w.in_default.is) in
          record {
            written = ap (λ text. text.items) w.text-is ∙ so_far.written
                ∙ ap (λ names. c.args.text.now.items ++ place_words names) (sym same);
            mark = ap (λ before. before.now) w.before-is ∙ so_far.mark ∙ ap mark_after (sym same);
          }
    ]
