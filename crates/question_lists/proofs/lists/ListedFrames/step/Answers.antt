use Rattle.std.proofs.Common.{◌∙◌, sym, ap₂}
use Rattle.question_lists.proofs.Steps.{place_within, falls_at}
use Rattle.question_lists.proofs.lists.ListedFrames.step.Goals as goal

pub after-frame-requires : goal.after-frame-requires
after-frame-requires g c = λ r e.
    let lists = g.T.QuestionLists in
    let q = c.requires.can in
    let frame = c.args.frame.now in
    place_within (lists.needs_of q.cx.0.0 q.goal) (lists.questions_of q.cx.0.0 q.goal)
    (lists.questions_of frame.lists frame.goal) q.replies c.args.reply r frame.state _
    q.is_fitting q.stood.same_state (ap₂ lists.questions_of (sym q.stood.same_lists) (sym q.stood.same_goal))
    c.count-count.ensures.value e

pub returns-clause-falls : goal.returns-clause-falls
returns-clause-falls g c =
    let lists = g.T.QuestionLists in
    let q = c.requires.can in
    let frame = c.args.frame.now in
    falls_at (lists.needs_of q.cx.0.0 q.goal) _ (lists.questions_of q.cx.0.0 q.goal)
    (lists.questions_of frame.lists frame.goal) q.replies c.args.reply frame.state _
    q.is_fitting q.stood.same_state (ap₂ lists.questions_of (sym q.stood.same_lists) (sym q.stood.same_goal))
    (c.needs-needs.ensures ∙ ap₂ lists.needs_of q.stood.same_lists q.stood.same_goal) c.after-frame.ensures
