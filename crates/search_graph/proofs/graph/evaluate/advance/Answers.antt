use Rattle.std.proofs.Common.{◌∙◌, refl, sym, subst}
use Rattle.search_graph.specs.Below.{CanStep, Done, Evaluate}
use Rattle.search_graph.proofs.ran.Making.{asks, ends, fails_in_frame, fails_to_ask, fails_to_note, notes}
use Rattle.search_graph.proofs.requests.Advancing.{has_expected, has_held, has_request}
use Rattle.search_graph.proofs.requests.Noted.{about_candidates, can_note, left_same}
use Rattle.search_graph.proofs.turns.Loops.{stepped_some}
use Rattle.search_rules.proofs.moves.Moves.{can_step, some_waits}
use Rattle.goal_changes.specs.Frames.{frames_of}
use Rattle.search_context.specs.Delegate.{without_newest}
use Rattle.search_rules.proofs.moves.Frames.{noted_frames, sees_as, sees_then}
use Rattle.search_rules.proofs.moves.Questions.{if_ok_then}
use Rattle.search_graph.proofs.graph.evaluate.advance.Goals as goal

pub step-requires-clause-some : goal.step-requires-clause-some
step-requires-clause-some g c = some_waits g.D.Delegate g.D.Cx.Cx c.args.cache.now.cx c.requires.reply.call
    c.args.received.reply c.args.evaluation.now.goals _ _ c.requires.reply.waiting

pub step-requires-clause-can_step : goal.step-requires-clause-can_step
step-requires-clause-can_step g c =
    subst (λ x. CanStep g.D.Delegate g.D.Cx.Cx x c.args.received.reply c.args.evaluation.now.goals)
    (sym c.cx-cx.ensures)
    (can_step g.D.Delegate g.D.Cx.Cx c.args.cache.now.cx c.requires.reply.call c.args.received.reply
    c.args.evaluation.now.goals _ _ c.requires.reply.waiting)

pub returns-in_err-request-clause-advanced : goal.returns-in_err-request-clause-advanced
returns-in_err-request-clause-advanced g c =
    fails_in_frame g.D.Delegate g.D.Cx.Cx g.D.Cx.Input.PartialEq.eq g.D.Cx.Result.PartialEq.eq
    (g.D.Delegate.noop c.args.inspect.now) c.args.received c.args.cache.now c.args.evaluation.now
    (g.D.Delegate.starts c.args.inspect.now) c.cx-cx.result c.cx-cx.ensures
    _ c.step.new.goals _ c.step.ensures.same_starts c.in_err-request.ensures.fault
    c.from_residual.result c.from_residual.ensures.1

-- ---- a question

pub ask-requires-clause-made : goal.ask-requires-clause-made
ask-requires-clause-made g c =
    has_request g.D.Delegate g.D.Cx.Cx g.D.Cx.Input.PartialEq.eq c.args.cache.now.cx c.args.cache.now
    c.args.evaluation.now c.args.received c.cx-cx.result c.cx-cx.ensures c.in_ok-request.request c.step.new.goals
    c.in_ok-request.ensures.stepped (g.D.Delegate.starts c.args.inspect.now) (g.D.Delegate.starts c.step.new.inspect)
    c.step.ensures.same_starts (Evaluate c.in-Evaluate.kind c.in-Evaluate.input) c.in-Evaluate.is refl c.requires.reply

pub ask-requires-clause-expected : goal.ask-requires-clause-expected
ask-requires-clause-expected g c = has_expected g.D.Delegate g.D.Cx.Cx g.D.Cx.Input.PartialEq.eq c.args.cache.now.cx
    c.args.cache.now c.args.evaluation.now c.args.received c.cx-cx.result c.cx-cx.ensures c.in_ok-request.request
    c.step.new.goals c.in_ok-request.ensures.stepped c.requires.expected

pub returns-in_err-next-in-Evaluate-clause-advanced : goal.returns-in_err-next-in-Evaluate-clause-advanced
returns-in_err-next-in-Evaluate-clause-advanced g c =
    fails_to_ask g.D.Delegate g.D.Cx.Cx g.D.Cx.Input.PartialEq.eq g.D.Cx.Result.PartialEq.eq
    (g.D.Delegate.noop c.args.inspect.now) c.args.received c.args.cache.now c.args.evaluation.now
    (g.D.Delegate.starts c.args.inspect.now) c.cx-cx.result c.cx-cx.ensures
    c.in_ok-request.request c.step.new.goals c.in_ok-request.ensures.stepped (g.D.Delegate.starts c.step.new.inspect)
    c.step.ensures.same_starts c.ask.new.cache c.ask.new.evaluation (g.D.Delegate.starts c.ask.new.inspect)
    c.in-Evaluate.kind c.in-Evaluate.input c.in-Evaluate.is
    c.ask.ensures.asks
    c.in_err-next-in-Evaluate.ensures.fails c.from_residual-in_err-next-in-Evaluate.result
    c.from_residual-in_err-next-in-Evaluate.ensures.1

pub returns-in_ok-next-in-Evaluate-clause-advanced : goal.returns-in_ok-next-in-Evaluate-clause-advanced
returns-in_ok-next-in-Evaluate-clause-advanced g c =
    asks g.D.Delegate g.D.Cx.Cx g.D.Cx.Input.PartialEq.eq g.D.Cx.Result.PartialEq.eq
    (g.D.Delegate.noop c.args.inspect.now) c.args.received c.args.cache.now c.args.evaluation.now
    (g.D.Delegate.starts c.args.inspect.now) c.cx-cx.result c.cx-cx.ensures
    c.in_ok-request.request c.step.new.goals c.in_ok-request.ensures.stepped (g.D.Delegate.starts c.step.new.inspect)
    c.step.ensures.same_starts c.ask.new.cache c.ask.new.evaluation (g.D.Delegate.starts c.ask.new.inspect)
    c.in-Evaluate.kind c.in-Evaluate.input c.in-Evaluate.is
    c.ask.ensures.asks
    (g.D.Delegate.noop c.step.new.inspect) c.step.ensures.same_noop c.in_ok-next-in-Evaluate.next
    c.in_ok-next-in-Evaluate.ensures.asked

-- ---- the end of a run

pub finish_run-requires-clause-made : goal.finish_run-requires-clause-made
finish_run-requires-clause-made g c =
    has_request g.D.Delegate g.D.Cx.Cx g.D.Cx.Input.PartialEq.eq c.args.cache.now.cx c.args.cache.now
    c.args.evaluation.now c.args.received c.cx-cx.result c.cx-cx.ensures c.in_ok-request.request c.step.new.goals
    c.in_ok-request.ensures.stepped (g.D.Delegate.starts c.args.inspect.now) (g.D.Delegate.starts c.step.new.inspect)
    c.step.ensures.same_starts (Done c.in-Done.outcome) c.in-Done.is refl c.requires.reply

pub finish_run-requires-clause-expected : goal.finish_run-requires-clause-expected
finish_run-requires-clause-expected g c = has_expected g.D.Delegate g.D.Cx.Cx g.D.Cx.Input.PartialEq.eq
    c.args.cache.now.cx c.args.cache.now c.args.evaluation.now c.args.received c.cx-cx.result c.cx-cx.ensures
    c.in_ok-request.request c.step.new.goals c.in_ok-request.ensures.stepped c.requires.expected

pub finish_run-requires-clause-held : goal.finish_run-requires-clause-held
finish_run-requires-clause-held g c = has_held g.D.Delegate g.D.Cx.Cx g.D.Cx.Input.PartialEq.eq c.args.cache.now.cx
    c.args.cache.now c.args.evaluation.now c.args.received c.cx-cx.result c.cx-cx.ensures c.in_ok-request.request
    c.step.new.goals c.in_ok-request.ensures.stepped c.requires.held

pub returns-in-Done-clause-advanced : goal.returns-in-Done-clause-advanced
returns-in-Done-clause-advanced g c =
    ends g.D.Delegate g.D.Cx.Cx g.D.Cx.Input.PartialEq.eq g.D.Cx.Result.PartialEq.eq
    (g.D.Delegate.noop c.args.inspect.now) c.args.received c.args.cache.now c.args.evaluation.now
    (g.D.Delegate.starts c.args.inspect.now) c.cx-cx.result c.cx-cx.ensures
    c.in_ok-request.request c.step.new.goals c.in_ok-request.ensures.stepped (g.D.Delegate.starts c.step.new.inspect)
    c.step.ensures.same_starts c.finish_run.new.cache c.finish_run.new.evaluation
    (g.D.Delegate.starts c.finish_run.new.inspect) c.in-Done.outcome c.in-Done.is c.finish_run.result
    c.has_runs.ensures c.finish_run.ensures.ended

-- ---- candidates

pub note_candidate-requires-clause-some : goal.note_candidate-requires-clause-some
note_candidate-requires-clause-some g c = stepped_some g.D.Delegate g.D.Cx.Cx c.cx-cx.result c.args.received
    c.in_ok-request.request c.args.evaluation.now.goals c.step.new.goals c.in_ok-request.ensures.stepped

pub note_candidate-requires-clause-can_note : goal.note_candidate-requires-clause-can_note
note_candidate-requires-clause-can_note g c = can_note g.D.Delegate g.D.Cx.Cx c.cx-cx.result c.args.cache.now.nodes
    c.args.received c.in_ok-request.request c.args.evaluation.now.goals c.step.new.goals c.in_ok-request.ensures.stepped
    c.requires.reply.right.fits c.requires.reply.right.right.justified

pub returns-in_err-note_candidate-in_default-clause-advanced :
    goal.returns-in_err-note_candidate-in_default-clause-advanced
returns-in_err-note_candidate-in_default-clause-advanced g c =
    fails_to_note g.D.Delegate g.D.Cx.Cx g.D.Cx.Input.PartialEq.eq g.D.Cx.Result.PartialEq.eq
    (g.D.Delegate.noop c.args.inspect.now) c.args.received c.args.cache.now c.args.evaluation.now
    (g.D.Delegate.starts c.args.inspect.now) c.cx-cx.result c.cx-cx.ensures
    c.in_ok-request.request c.step.new.goals c.in_ok-request.ensures.stepped c.note_candidate.new.self
    (g.D.Delegate.starts c.step.new.inspect) c.step.ensures.same_starts
    c.from_residual-in_err-note_candidate-in_default.result c.from_residual-in_err-note_candidate-in_default.ensures.1

pub returns-in_ok-note_candidate-in_default-clause-advanced :
    goal.returns-in_ok-note_candidate-in_default-clause-advanced
returns-in_ok-note_candidate-in_default-clause-advanced g c =
    notes g.D.Delegate g.D.Cx.Cx g.D.Cx.Input.PartialEq.eq g.D.Cx.Result.PartialEq.eq
    (g.D.Delegate.noop c.args.inspect.now) c.args.received c.args.cache.now c.args.evaluation.now
    (g.D.Delegate.starts c.args.inspect.now) c.cx-cx.result c.cx-cx.ensures
    c.in_ok-request.request c.step.new.goals c.in_ok-request.ensures.stepped c.note_candidate.new.self
    (g.D.Delegate.starts c.step.new.inspect) c.step.ensures.same_starts
    (about_candidates c.in_ok-request.request c.in_default.not-Evaluate c.in_default.not-Done)
    c.in_ok-note_candidate-in_default.ensures _ c.without_node.ensures

-- ---- what the builder saw

pub returns-in_ok-next-in-Evaluate-clause-seen : goal.returns-in_ok-next-in-Evaluate-clause-seen
returns-in_ok-next-in-Evaluate-clause-seen g c =
    sees_then g.D.Delegate.sees c.args.inspect.now c.step.new.inspect c.ask.new.inspect _ (frames_of c.step.new.goals) _
    (rw c.in-Evaluate.is at c.in_ok-request.ensures.seen) c.in_ok-next-in-Evaluate.ensures.seen

pub returns-in-Done-clause-seen : goal.returns-in-Done-clause-seen
returns-in-Done-clause-seen g c =
    if_ok_then c.finish_run.result _ _ c.finish_run.ensures.seen
    (λ next ended. sees_then g.D.Delegate.sees c.args.inspect.now c.step.new.inspect c.finish_run.new.inspect _
    (without_newest (frames_of c.step.new.goals)) _ (rw c.in-Done.is at c.in_ok-request.ensures.seen) ended)

pub returns-in_ok-note_candidate-in_default-clause-seen : goal.returns-in_ok-note_candidate-in_default-clause-seen
returns-in_ok-note_candidate-in_default-clause-seen g c =
    sees_as g.D.Delegate.sees c.args.inspect.now c.step.new.inspect _ _ _ c.in_ok-request.ensures.seen
    (noted_frames c.in_ok-request.request c.step.new.goals c.note_candidate.new.self
    c.in_ok-note_candidate-in_default.ensures
    ∙ sym (left_same c.in_ok-request.request c.in_default.not-Done (frames_of c.step.new.goals)))
