use Rattle.graph_nodes.proofs.Definites.{yes_is_shown, no_is_shown}
use Rattle.search_parts.proofs.law.result_is_shown.Goals as goal
use Rattle.search_parts.specs.Below.{verdicts}

pub returns-clause-yes : goal.returns-clause-yes
returns-clause-yes g c = λ cx nodes goal r node runs has is.
    yes_is_shown (verdicts g.D.Cx.Cx) (g.D.Delegate.script cx) nodes runs goal r node has (g.D.Cx.Cx.proves cx)
    (g.met.D.Delegate.yes_is_proved cx) is

pub returns-clause-no : goal.returns-clause-no
returns-clause-no g c = λ cx nodes goal r node runs has is.
    no_is_shown (verdicts g.D.Cx.Cx) (g.D.Delegate.script cx) nodes runs goal r node has (g.D.Cx.Cx.refutes cx)
    (g.met.D.Delegate.no_is_refuted cx) (g.met.D.Cx.Cx.one_sort r) is
