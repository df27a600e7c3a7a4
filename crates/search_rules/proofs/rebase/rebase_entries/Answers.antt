use Rattle.std.proofs.Common.{None, Some, refl, subst, sym}
use Rattle.search_rules.specs.Words.{LeavesReady}
use Rattle.search_rules.proofs.entries.Pops.{rebased_leave_ready}
use Rattle.search_rules.proofs.moves.Questions.{if_ok_then}
use Rattle.search_rules.proofs.rebase.rebase_entries.Goals as goal

pub returns-in-Some-clause-ready : goal.returns-in-Some-clause-ready
returns-in-Some-clause-ready g c =
    if_ok_then c.rebase.result _ _ c.rebase.ensures.ok
    (λ done exact.
    subst (λ reason. LeavesReady g.D.Delegate g.D.Cx.Cx g.D.Cx.Input.PartialEq.eq c.args.cx reason c.args.done.now
    c.args.stack.now c.args.provisional.now c.rebase.new.self) (sym c.in-Some.is)
    (rebased_leave_ready g.D.Delegate g.D.Cx.Cx g.D.Cx.Input.PartialEq.eq c.args.cx (Some c.in-Some.reason)
    c.args.done.now c.args.stack.now c.args.provisional.now c.rebase.new.self
    g.met.D.Cx.Cx.same_input (g.met.D.Delegate.propagated_is_neither c.args.cx)
    (g.met.D.Delegate.fixpoint_overflow_is_neither c.args.cx) exact))

pub returns-in-None-clause-ready : goal.returns-in-None-clause-ready
returns-in-None-clause-ready g c =
    subst (λ reason. LeavesReady g.D.Delegate g.D.Cx.Cx g.D.Cx.Input.PartialEq.eq c.args.cx reason c.args.done.now
    c.args.stack.now c.args.provisional.now c.args.provisional.now) (sym c.in-None.is)
    (rebased_leave_ready g.D.Delegate g.D.Cx.Cx g.D.Cx.Input.PartialEq.eq c.args.cx None c.args.done.now
    c.args.stack.now c.args.provisional.now c.args.provisional.now
    g.met.D.Cx.Cx.same_input (g.met.D.Delegate.propagated_is_neither c.args.cx)
    (g.met.D.Delegate.fixpoint_overflow_is_neither c.args.cx) (λ goal. refl))
