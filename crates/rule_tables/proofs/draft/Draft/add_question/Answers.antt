use Rattle.std.proofs.Common.{refl}
use Rattle.rule_tables.proofs.Adding.{adds_question}
use Rattle.rule_tables.proofs.draft.Draft.add_question.Goals as goal

pub returns : goal.returns
returns c = adds_question _ c.goal_named.new.self _ _ _ c.in_ok-goal.goal c.in_ok-goal.ensures.mentions
    c.in_ok-goal.ensures.goal refl (λ g. refl) c.in_ok-push.ensures.items
