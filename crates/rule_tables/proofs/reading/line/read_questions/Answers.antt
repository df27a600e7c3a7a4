use Rattle.rule_tables.proofs.Questions.{read_more, refused}
use Rattle.rule_tables.proofs.reading.line.read_questions.Goals as goal

pub returns-in_default-clause-malformed : goal.returns-in_default-clause-malformed
returns-in_default-clause-malformed c =
    λ _. refused _ _ _ _ _ c.loop-word.invariant c.in-Some.ensures.steps c.in_default.ensures

pub loop-word-preserved : goal.loop-word-preserved
loop-word-preserved c = read_more _ _ _ _ _ _ _ c.loop-word.invariant c.in-Some.ensures.steps
    c.in-Some-question_of.ensures c.in_ok-push.ensures.ok
