use Rattle.std.proofs.Common.{refl}
use Rattle.rule_tables.proofs.TableLemmas.{asked_more, mentions_asked}
use Rattle.rule_tables.proofs.draft.Draft.ask.Goals as goal

pub loop-question-preserved : goal.loop-question-preserved
loop-question-preserved c =
    asked_more _ _ c.goal_named.new.self _ _ _ _ _ c.loop-question-test.true c.loop-question.invariant
    c.in_ok-goal.ensures.mentions c.in_ok-goal.ensures.askings
    (mentions_asked c.goal_named.new.self _ _ refl refl refl c.in_ok-push.ensures.items) refl
    (record { kind = refl; goal = c.in_ok-goal.ensures.goal }) c.in_ok-push.ensures.items
