use Rattle.candidate_lists.proofs.Steps.{frame_falls}
use Rattle.rule_tables.proofs.delegate.TableFrames.step.Goals as goal
use Rattle.rule_tables.specs.Rules.{question_of}
use Rattle.rule_tables.specs.Standing.{candidates_in}

pub returns-clause-falls : goal.returns-clause-falls
returns-clause-falls g c =
    let q = c.requires.can in
    frame_falls question_of (candidates_in g.T.Lends.lent_by) c.args.frame.now c.step.new.self q.cx q.goal
    q.replies c.args.reply q.stood q.is_fitting
    c.step.ensures.lists c.step.ensures.goal c.step.ensures.state
