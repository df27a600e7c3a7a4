use Rattle.graph_data.proofs.Pages.{page_told}
use Rattle.graph_data.proofs.law.page_tells_its_rules_and_claims.Goals as goal

pub returns : goal.returns
returns c = λ page rules others written read first second.
    page_told page (record { rules = rules; claims = written; is_page = first })
    (record { rules = others; claims = read; is_page = second })
