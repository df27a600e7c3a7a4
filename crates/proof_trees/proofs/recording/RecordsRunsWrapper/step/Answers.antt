use Rattle.proof_trees.proofs.Recorded.{step_seen}
use Rattle.proof_trees.proofs.recording.RecordsRunsWrapper.step.Goals as goal

pub returns-clause-seen : goal.returns-clause-seen
returns-clause-seen g c = λ request ok goal below seen.
    let run = rw ok at c.step_recorded.ensures.run in
    let next = rw ok at c.step_recorded.ensures.next in
    let entries = rw ok at c.step_recorded.ensures.entries in
    step_seen c.args.inspect.now c.step_recorded.new.inspect goal c.step_recorded.ensures.recording c.args.frame.now
    c.step_recorded.new.frame below c.args.reply request next run entries seen
