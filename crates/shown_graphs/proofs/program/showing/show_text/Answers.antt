use Rattle.std.proofs.Common.{refl}
use Rattle.graph_pages.proofs.Ends.{shown_of_text}
use Rattle.shown_graphs.proofs.program.showing.show_text.Goals as goal

pub returns-clause-told : goal.returns-clause-told
returns-clause-told g c =
    shown_of_text _ _ _ _ _ _ (record { lender = record { ref_ptr = (0, 0); now = c.in_ok-rules.rules } })
    refl refl c.args.form c.in_ok-page.page c.in_ok-rules.ensures.ok c.in_ok-page.ensures.begun
    c.show_questions.result c.show_questions.ensures.shown
