use Rattle.std.proofs.Common.{◌∙◌, ap, map, subst, sym}
use Rattle.std.specs.Prelude.{IfOk}
use Rattle.json.specs.Lex.{tokens}
use Rattle.graph_data.proofs.Stops.{stops_part}
use Rattle.graph_data.proofs.reading.claims_of_text.Goals as goal
use Rattle.graph_data.specs.Data.{plain_claim}
use Rattle.graph_data.specs.Page.{AreOfPage, IsPage}

pub returns-clause-read : goal.returns-clause-read
returns-clause-read c =
    let same = c.new-source.ensures ∙ c.in_ok-new.ensures.ok ∙ ap tokens c.in-Ok.ensures.cases.0 in
    subst (λ ts. IfOk c.read_claims.result (λ claims. IsPage ts claims.rules (map plain_claim claims.all.items))) same
    c.read_claims.ensures.read

pub returns-clause-refused : goal.returns-clause-refused
returns-clause-refused c =
    let same = c.new-source.ensures ∙ c.in_ok-new.ensures.ok ∙ ap tokens c.in-Ok.ensures.cases.0 in
    stops_part _ _ c.read_claims.result (λ page. subst AreOfPage (sym same) page.1) c.read_claims.ensures.refused
