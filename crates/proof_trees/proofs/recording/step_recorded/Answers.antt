use Rattle.std.proofs.Common.{ap, ◌∙◌}
use Rattle.proof_trees.proofs.Noted.{IsPrefix-trans, two_noted}
use Rattle.proof_trees.proofs.recording.step_recorded.Goals as goal

pub returns-in_err-note_reply-clause-same_starts : goal.returns-in_err-note_reply-clause-same_starts
returns-in_err-note_reply-clause-same_starts g c = ap g.D.Delegate.starts c.note_reply.ensures.keeps.inner

pub returns-in_err-note_reply-clause-same_noop : goal.returns-in_err-note_reply-clause-same_noop
returns-in_err-note_reply-clause-same_noop g c = ap g.D.Delegate.noop c.note_reply.ensures.keeps.inner

pub returns-in_err-note_reply-clause-recording : goal.returns-in_err-note_reply-clause-recording
returns-in_err-note_reply-clause-recording g c = c.note_reply.ensures.keeps.records

pub returns-in_err-note_reply-clause-first : goal.returns-in_err-note_reply-clause-first
returns-in_err-note_reply-clause-first g c = c.note_reply.ensures.keeps.first

pub returns-in_err-request-clause-same_starts : goal.returns-in_err-request-clause-same_starts
returns-in_err-request-clause-same_starts g c =
    c.step.ensures.same_starts ∙ ap g.D.Delegate.starts c.note_reply.ensures.keeps.inner

pub returns-in_err-request-clause-same_noop : goal.returns-in_err-request-clause-same_noop
returns-in_err-request-clause-same_noop g c =
    c.step.ensures.same_noop ∙ ap g.D.Delegate.noop c.note_reply.ensures.keeps.inner

pub returns-in_err-request-clause-recording : goal.returns-in_err-request-clause-recording
returns-in_err-request-clause-recording g c = c.note_reply.ensures.keeps.records

pub returns-in_err-request-clause-first : goal.returns-in_err-request-clause-first
returns-in_err-request-clause-first g c = c.note_reply.ensures.keeps.first

pub returns-in_err-note_request-clause-same_starts : goal.returns-in_err-note_request-clause-same_starts
returns-in_err-note_request-clause-same_starts g c = ap g.D.Delegate.starts c.note_request.ensures.keeps.inner
    ∙ c.step.ensures.same_starts ∙ ap g.D.Delegate.starts c.note_reply.ensures.keeps.inner

pub returns-in_err-note_request-clause-same_noop : goal.returns-in_err-note_request-clause-same_noop
returns-in_err-note_request-clause-same_noop g c = ap g.D.Delegate.noop c.note_request.ensures.keeps.inner
    ∙ c.step.ensures.same_noop ∙ ap g.D.Delegate.noop c.note_reply.ensures.keeps.inner

pub returns-in_err-note_request-clause-recording : goal.returns-in_err-note_request-clause-recording
returns-in_err-note_request-clause-recording g c =
    c.note_request.ensures.keeps.records ∙ c.note_reply.ensures.keeps.records

pub returns-in_err-note_request-clause-first : goal.returns-in_err-note_request-clause-first
returns-in_err-note_request-clause-first g c =
    IsPrefix-trans _ _ _ c.note_reply.ensures.keeps.first c.note_request.ensures.keeps.first

pub returns-clause-request : goal.returns-clause-request
returns-clause-request g c = c.in_ok-request.ensures.request

pub returns-clause-falls : goal.returns-clause-falls
returns-clause-falls g c = c.in_ok-request.ensures.falls

pub returns-clause-same_starts : goal.returns-clause-same_starts
returns-clause-same_starts g c = ap g.D.Delegate.starts c.note_request.ensures.keeps.inner ∙ c.step.ensures.same_starts
    ∙ ap g.D.Delegate.starts c.note_reply.ensures.keeps.inner

pub returns-clause-same_noop : goal.returns-clause-same_noop
returns-clause-same_noop g c = ap g.D.Delegate.noop c.note_request.ensures.keeps.inner ∙ c.step.ensures.same_noop
    ∙ ap g.D.Delegate.noop c.note_reply.ensures.keeps.inner

pub returns-clause-recording : goal.returns-clause-recording
returns-clause-recording g c = c.note_request.ensures.keeps.records ∙ c.note_reply.ensures.keeps.records

pub returns-clause-first : goal.returns-clause-first
returns-clause-first g c = IsPrefix-trans _ _ _ c.note_reply.ensures.keeps.first c.note_request.ensures.keeps.first

pub returns-clause-entries : goal.returns-clause-entries
returns-clause-entries g c =
    two_noted c.args.inspect.now (record c.note_reply.new.self { inner = c.step.new.inspect }) c.note_request.new.self _
    _ c.note_reply.ensures.keeps.records c.in_ok-note_reply.ensures.entries c.in_ok-note_request.ensures.entries

pub returns-clause-run : goal.returns-clause-run
returns-clause-run g c = c.after-frame.ensures
