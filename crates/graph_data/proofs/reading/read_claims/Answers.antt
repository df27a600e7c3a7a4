use Rattle.graph_data.proofs.Pages.{claims_left, page_end, page_read}
use Rattle.graph_data.proofs.Stops.{stops_before}
use Rattle.graph_data.proofs.reading.read_claims.Goals as goal

pub returns-in_err-rules-clause-refused : goal.returns-in_err-rules-clause-refused
returns-in_err-rules-clause-refused c =
    stops_before _ _ (λ page. (
      page.rules,
      _,
      record { lines = page.is_page.lines; reads = page.is_page.reads; are_its = page.is_page.are_its },
    )) c.from_residual.ensures.1 c.in_err-rules.ensures.refused

pub returns-in_err-all-clause-refused : goal.returns-in_err-all-clause-refused
returns-in_err-all-clause-refused c =
    stops_before _ _ (λ page. claims_left _ _ _ c.in_ok-rules.ensures.read page)
    c.from_residual-in_err-all.ensures.1 c.in_err-all.ensures.refused

pub returns-in_err-end-clause-refused : goal.returns-in_err-end-clause-refused
returns-in_err-end-clause-refused c =
    stops_before _ _ (λ page. page_end _ _ _ c.in_ok-rules.ensures.read page _ _ c.in_ok-all.ensures.spelled)
    c.from_residual-in_err-end.ensures.1 c.in_err-end.ensures.refused

pub returns-clause-read : goal.returns-clause-read
returns-clause-read c = page_read _ _ _ c.in_ok-rules.ensures.read _ _ c.in_ok-all.ensures.spelled
    c.in_ok-all.ensures.right c.in_ok-end.ensures.read
