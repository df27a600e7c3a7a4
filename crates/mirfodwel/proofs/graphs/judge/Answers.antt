use Rattle.std.proofs.Common.{◌∙◌, rules, refl, sym}
use Rattle.mirfodwel.specs.Given.{Judged}
use Rattle.mirfodwel.proofs.graphs.judge.Goals as goal

pub returns-in-Ok : goal.returns-in-Ok
returns-in-Ok c = Judged c.in-Some.verdict (sym c.verdict_of.ensures ∙ c.in-Some.is)
    (search rules) refl c.in-Ok.ensures.exact
