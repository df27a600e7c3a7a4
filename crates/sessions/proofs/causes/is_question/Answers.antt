use Rattle.std.proofs.Common.{◌∙◌, ap, arith, sym}
use Rattle.std.proofs.lemmas.Bool.{false≢true}
use Rattle.path_kinds.specs.contracts.path.PathKindPartialEq.TheImpl.{eq-value as eq-kind}
use Rattle.sessions.proofs.Cuts.{kind_exact, kind_same}
use Rattle.sessions.proofs.causes.is_question.Goals as goal

pub returns-clause-yes : goal.returns-clause-yes
returns-clause-yes c = λ same. (kind_exact c.args.kind c.args.cut.kind (sym c.eq.ensures ∙ same), omega arith)

pub returns-clause-no : goal.returns-clause-no
returns-clause-no c = λ other same _. false≢true
    (sym other ∙ c.eq.ensures ∙ ap (λ kind. eq-kind.it kind c.args.cut.kind) same ∙ kind_same c.args.cut.kind)
