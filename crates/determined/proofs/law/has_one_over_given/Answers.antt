use Rattle.determined.specs.Below.{verdicts}
use Rattle.determined.proofs.Determined.{has_one_over_given}
use Rattle.determined.proofs.law.has_one_over_given.Goals as goal

pub returns : goal.returns
returns g c = λ cx given goals most decisive closed goal has.
    has_one_over_given (verdicts g.D.Cx.Cx) (g.D.Delegate.script cx) (g.D.Delegate.initial_result cx)
    (g.D.Cx.Cx.proves cx) (g.D.Cx.Cx.refutes cx) (record {
      cycles = g.met.D.Delegate.initial_sort cx;
      yes_is_proved = g.met.D.Delegate.yes_is_proved cx;
      no_is_refuted = g.met.D.Delegate.no_is_refuted cx;
      proves_more = g.met.D.Cx.Cx.proves_more cx;
      refutes_more = g.met.D.Cx.Cx.refutes_more cx;
      clash = g.met.D.Cx.Cx.clash cx;
      one_sort = g.met.D.Cx.Cx.one_sort;
    })
    decisive given goals most closed goal has
