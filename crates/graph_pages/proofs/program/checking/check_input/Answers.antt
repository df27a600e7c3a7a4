use Rattle.std.proofs.Common.{ap}
use Rattle.json.specs.Lex.{tokens}
use Rattle.graph_pages.proofs.Ends.{checked_of_text}
use Rattle.graph_pages.proofs.program.checking.check_input.Goals as goal

pub returns-clause-told : goal.returns-clause-told
returns-clause-told g c =
    checked_of_text _ _ _ _ _ _ (record { lender = record { ref_ptr = (0, 0); now = c.in_ok-rules.field-0.rules } })
    c.in_ok-bytes.ensures _ _ (ap tokens c.as_slice.ensures.value) c.in_ok-rules.ensures.read
    c.check_claims.result c.check_claims.ensures.judged
