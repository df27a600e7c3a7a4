use Rattle.candidate_lists.proofs.Steps.{frame_falls}
use Rattle.candidate_lists.proofs.lists.AnyOfFrames.step.Goals as goal

pub returns-clause-falls : goal.returns-clause-falls
returns-clause-falls g c =
    let lists = g.T.CandidateLists in
    let q = c.requires.can in
    frame_falls lists.question_of lists.candidates_of c.args.frame.now c.step.new.self q.cx.0.0 q.goal
    q.replies c.args.reply q.stood q.is_fitting
    c.step.ensures.lists c.step.ensures.goal c.step.ensures.state
