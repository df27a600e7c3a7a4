use Rattle.std.proofs.Common.{sym, ap, subst, ◌∙◌}
use Rattle.lean_runs.specs.Below.{verdicts}
use Rattle.lean_runs.specs.Words.{IsLeanRun}
use Rattle.lean_runs.proofs.LeanRuns.{again_fits, noted_again, replay_ends, replay_goes_on, replay_turns}
use Rattle.lean_runs.proofs.lean.Replayed.replay.Goals as goal

pub returns-in-Done : goal.returns-in-Done
returns-in-Done g c = λ same.
    subst (λ r. IsLeanRun (verdicts g.D.Cx.Cx) (g.D.Delegate.script c.args.self.now.cache.now.cx c.args.self.now.input)
    c.args.self.now.cache.now.nodes c.args.self.now.own_node.0 c.args.self.now.told.now
    c.args.self.now.verdict r c.note_request.new.self)
    (g.met.D.Cx.Cx.same_result c.in-Done.found c.args.self.now.outcome (sym c.eq.ensures ∙ same))
    (replay_ends _ _ _ _ _ _ _ _ _ _ _ _
    (replay_turns _ _ _ _ _ _ _ _ _ c.step_replay.new._frame _ _ _ _ _ c.in-Ok-step_replay.request _
    c.loop-frame.invariant.replaying c.sort_of-sort.ensures c.in-Ok-step_replay.ensures.request c.in-Ok.ensures
    c.order_fault.ensures (sym c.is_some.ensures ∙ c.if-is_some.false) c.note_request.ensures)
    c.in-Done.is)

pub loop-frame-preserved-in-Evaluate : goal.loop-frame-preserved-in-Evaluate
loop-frame-preserved-in-Evaluate g c = record {
  replaying =
      replay_goes_on _ _ _ _ _ _ _ _ _ _ _ _
      (replay_turns _ _ _ _ _ _ _ _ _ c.step_replay.new._frame _ _ _ _ _ c.in-Ok-step_replay.request _
      c.loop-frame.invariant.replaying c.sort_of-sort.ensures c.in-Ok-step_replay.ensures.request c.in-Ok.ensures
      c.order_fault.ensures (sym c.is_some.ensures ∙ c.if-is_some.false) c.note_request.ensures)
      (ap (λ p. p.request) c.note_request.ensures)
      (rw c.in-Evaluate.is (again_fits _ _ _ _ _ _ _ _ c.reply_to-received.ensures.answered))
      (rw c.in-Evaluate.is c.reply_to-received.ensures.answered);
  guided = c.reply_to-received.ensures.guided;
}

pub loop-frame-preserved : goal.loop-frame-preserved
loop-frame-preserved g c = record {
  replaying =
      let noted = noted_again (verdicts g.D.Cx.Cx) c.args.self.now.cache.now.nodes c.args.self.now.own_node.0
      c.args.self.now.told.now c.args.self.now.verdict c.in-Ok-step_replay.request
      c.without_node-received-in-EnterCandidate.result c.in-EnterCandidate.is
      c.without_node-received-in-EnterCandidate.ensures in
      replay_goes_on _ _ _ _ _ _ _ _ _ _ _ _
      (replay_turns _ _ _ _ _ _ _ _ _ c.step_replay.new._frame _ _ _ _ _ c.in-Ok-step_replay.request _
      c.loop-frame.invariant.replaying c.sort_of-sort.ensures c.in-Ok-step_replay.ensures.request c.in-Ok.ensures
      c.order_fault.ensures (sym c.is_some.ensures ∙ c.if-is_some.false) c.note_request.ensures)
      (ap (λ p. p.request) c.note_request.ensures) noted.0 noted.1;
  guided = c.loop-frame.invariant.guided;
}
