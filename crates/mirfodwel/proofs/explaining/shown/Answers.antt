use Rattle.std.proofs.Common.{◌∙◌, Some}
use Rattle.mirfodwel.proofs.ForMemory.{passed_on}
use Rattle.mirfodwel.proofs.explaining.shown.Goals as goal

pub returns-in_err-is_fine-clause-memory : goal.returns-in_err-is_fine-clause-memory
returns-in_err-is_fine-clause-memory c = λ is.
    passed_on c.lender.result c.args.inside.now.session.cache.cx.0.0.lender c.args.depth c.args.goal
    c.as_slice.result.now (Some c.new-text.result.items) (Some c.show_text.new.out.items)
    c.from_residual-in_err-is_fine.result c.in_err-is_fine.field-0.0 c.lender.ensures is
    (c.as_slice.ensures.value ∙ c.in_ok-rules.ensures) c.in_err-is_fine.ensures.ended
    c.from_residual-in_err-is_fine.ensures.1
