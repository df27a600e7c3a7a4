use Rattle.std.proofs.Common.{ap, ap₂, ◌∙◌}
use Rattle.early_scripts.specs.Below.{candidates_of}
use Rattle.early_scripts.proofs.EarlySteps.{falls_at}
use Rattle.early_scripts.proofs.early.EarlyFrames.step.Goals as goal

pub returns-clause-falls : goal.returns-clause-falls
returns-clause-falls g c =
    let rules_of = g.T.Lends.lent_by in
    let frame = c.args.frame.now in
    let q = c.requires.can in
    falls_at (candidates_of (rules_of q.cx.lender) q.goal) (candidates_of (rules_of frame.lender) frame.goal) _
    frame.state _ q.replies c.args.reply
    (ap₂ candidates_of q.stood.same_rules q.stood.same_goal)
    (c.candidates-candidates.ensures ∙ ap (λ x. candidates_of x frame.goal) c.lent.ensures)
    q.stood.state c.after-frame.ensures q.is_fitting
