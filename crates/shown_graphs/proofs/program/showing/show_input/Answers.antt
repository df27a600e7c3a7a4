use Rattle.shown_graphs.proofs.Texts.{ended_as_known, shown_as_known}
use Rattle.shown_graphs.proofs.program.showing.show_input.Goals as goal

pub returns-clause-told : goal.returns-clause-told
returns-clause-told g c =
    shown_as_known _ _ _ _ c.in_ok-text.ensures _ _ _ c.as_slice.ensures.value c.args.form c.show_text.result
    c.show_text.ensures.told

pub returns-clause-ended : goal.returns-clause-ended
returns-clause-ended g c =
    ended_as_known _ _ _ _ c.in_ok-text.ensures _ c.as_slice.ensures.value c.show_text.result c.show_text.ensures.ended
