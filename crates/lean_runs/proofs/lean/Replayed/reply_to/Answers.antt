use Rattle.std.proofs.Common.{sym, subst}
use Rattle.lean_runs.specs.Below.{IsNeither, verdicts}
use Rattle.lean_runs.specs.Words.{Refused}
use Rattle.lean_runs.proofs.lean.Replayed.reply_to.Goals as goal

pub returns-clause-answered : goal.returns-clause-answered
returns-clause-answered g c =
    rw c.without_node.ensures
    (Refused _ (subst (IsNeither (verdicts g.D.Cx.Cx).is_yes (verdicts g.D.Cx.Cx).is_no)
    (sym c.stack_overflow_result-refused.ensures)
    (g.met.D.Delegate.stack_overflow_is_neither c.cx.result c.args.input)))
