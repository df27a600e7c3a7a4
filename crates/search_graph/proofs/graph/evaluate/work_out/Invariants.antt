use Rattle.std.proofs.Common.{None, Ok, Some}
use Rattle.goal_changes.specs.Frames.{frames_of}
use Rattle.search_graph.specs.Below.{KeepsBuilder, Step, work_left}
use Rattle.search_graph.specs.Ran.{Ran}
use Rattle.path_kinds.specs.declared.path.PathKind.TheVariants.{Inductive}
use Rattle.search_graph.proofs.graph.evaluate.work_out.Given as goal

-- what the call has done so far has led to the reply
abbrev pub invariant-loop-next : goal.invariant-loop-next
invariant-loop-next g l = record {
  ran : Ran g.D.Delegate g.D.Cx.Cx g.D.Cx.Input.PartialEq.eq g.D.Cx.Result.PartialEq.eq (g.D.Delegate.noop l.fn.inspect)
      Inductive l.fn.input l.fn.fate l.fn.cache l.fn.evaluation (g.D.Delegate.starts l.fn.inspect)
      (Ok (Step l.received)) l.cache l.evaluation (g.D.Delegate.starts l.inspect);
  builder : KeepsBuilder g.D.Delegate.starts g.D.Delegate.noop l.fn.inspect l.inspect;
  seen : g.D.Delegate.sees l.fn.inspect l.fn.input None
      → g.D.Delegate.sees l.inspect l.fn.input (Some (frames_of l.evaluation.goals));
}

abbrev pub decreases-loop-next : goal.decreases-loop-next
decreases-loop-next g l = work_left g.D.Delegate g.D.Cx.Cx l.fn.cache.cx l.evaluation.goals
