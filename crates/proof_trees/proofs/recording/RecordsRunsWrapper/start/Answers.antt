use Rattle.proof_trees.proofs.Recorded.{start_seen}
use Rattle.proof_trees.proofs.recording.RecordsRunsWrapper.start.Goals as goal

pub returns-clause-seen : goal.returns-clause-seen
returns-clause-seen g c = λ frame ok goal frames seen first.
    let run = rw ok at c.start_recorded.ensures.run in
    let entries = rw ok at c.start_recorded.ensures.entries in
    start_seen c.args.inspect.now c.start_recorded.new.inspect goal c.start_recorded.ensures.recording frames frame
    c.args.input c.start_recorded.ensures.next run entries first seen
