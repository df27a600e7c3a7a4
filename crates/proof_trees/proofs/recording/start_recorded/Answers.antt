use Rattle.std.proofs.Common.{[], ap, refl, sym, ◌∙◌}
use Rattle.std.proofs.lemmas.List.{append-nil}
use Rattle.proof_trees.proofs.recording.start_recorded.Goals as goal

pub returns-in_err-frame-clause-at_least : goal.returns-in_err-frame-clause-at_least
returns-in_err-frame-clause-at_least g c = c.start.ensures.at_least

pub returns-in_err-frame-clause-at_most : goal.returns-in_err-frame-clause-at_most
returns-in_err-frame-clause-at_most g c = c.start.ensures.at_most

pub returns-in_err-frame-clause-same_noop : goal.returns-in_err-frame-clause-same_noop
returns-in_err-frame-clause-same_noop g c = c.start.ensures.same_noop

pub returns-in_err-frame-clause-recording : goal.returns-in_err-frame-clause-recording
returns-in_err-frame-clause-recording g c = refl

pub returns-in_err-frame-clause-first : goal.returns-in_err-frame-clause-first
returns-in_err-frame-clause-first g c = ([], sym (append-nil _))

pub returns-in_err-run-clause-at_least : goal.returns-in_err-run-clause-at_least
returns-in_err-run-clause-at_least g c = let same = c.note_start.ensures.keeps.inner in rw same c.start.ensures.at_least

pub returns-in_err-run-clause-at_most : goal.returns-in_err-run-clause-at_most
returns-in_err-run-clause-at_most g c = let same = c.note_start.ensures.keeps.inner in rw same c.start.ensures.at_most

pub returns-in_err-run-clause-same_noop : goal.returns-in_err-run-clause-same_noop
returns-in_err-run-clause-same_noop g c =
    ap g.D.Delegate.noop c.note_start.ensures.keeps.inner ∙ c.start.ensures.same_noop

pub returns-in_err-run-clause-recording : goal.returns-in_err-run-clause-recording
returns-in_err-run-clause-recording g c = c.note_start.ensures.keeps.records

pub returns-in_err-run-clause-first : goal.returns-in_err-run-clause-first
returns-in_err-run-clause-first g c = c.note_start.ensures.keeps.first

pub returns-clause-frame : goal.returns-clause-frame
returns-clause-frame g c = c.in_ok-frame.ensures.frame

pub returns-clause-within : goal.returns-clause-within
returns-clause-within g c = c.in_ok-frame.ensures.within

pub returns-clause-at_least : goal.returns-clause-at_least
returns-clause-at_least g c = let same = c.note_start.ensures.keeps.inner in rw same c.start.ensures.at_least

pub returns-clause-at_most : goal.returns-clause-at_most
returns-clause-at_most g c = let same = c.note_start.ensures.keeps.inner in rw same c.start.ensures.at_most

pub returns-clause-counted : goal.returns-clause-counted
returns-clause-counted g c =
    λ counts. let same = c.note_start.ensures.keeps.inner in rw same (c.in_ok-frame.ensures.counted counts)

pub returns-clause-same_noop : goal.returns-clause-same_noop
returns-clause-same_noop g c = ap g.D.Delegate.noop c.note_start.ensures.keeps.inner ∙ c.start.ensures.same_noop

pub returns-clause-recording : goal.returns-clause-recording
returns-clause-recording g c = c.note_start.ensures.keeps.records

pub returns-clause-first : goal.returns-clause-first
returns-clause-first g c = c.note_start.ensures.keeps.first

pub returns-clause-entries : goal.returns-clause-entries
returns-clause-entries g c = c.in_ok-run.ensures.entries

pub returns-clause-run : goal.returns-clause-run
returns-clause-run g c = c.in_ok-run.ensures.record
