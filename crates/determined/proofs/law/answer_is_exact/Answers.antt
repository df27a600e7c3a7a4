use Rattle.determined.specs.Below.{verdicts}
use Rattle.determined.proofs.Closed.{answer_is_exact}
use Rattle.determined.proofs.law.answer_is_exact.Goals as goal

pub returns : goal.returns
returns g c = λ cx goals most decisive closed goal has r proved refuted.
    answer_is_exact (verdicts g.D.Cx.Cx) (g.D.Delegate.script cx) (g.D.Delegate.initial_result cx)
    (g.D.Cx.Cx.proves cx) (g.D.Cx.Cx.refutes cx) (record {
      cycles = g.met.D.Delegate.initial_sort cx;
      yes_is_proved = g.met.D.Delegate.yes_is_proved cx;
      no_is_refuted = g.met.D.Delegate.no_is_refuted cx;
      proves_more = g.met.D.Cx.Cx.proves_more cx;
      refutes_more = g.met.D.Cx.Cx.refutes_more cx;
      clash = g.met.D.Cx.Cx.clash cx;
      one_sort = g.met.D.Cx.Cx.one_sort;
    })
    decisive goals most closed goal has r proved refuted
