use Rattle.std.proofs.Common.{◌∙◌, ◌+◌, ap, map, refl, subst, sym, take}
use Rattle.std.proofs.lemmas.List.{map-append, take_more}
use Rattle.rule_tables.specs.Question.{named}
use Rattle.open_tables.proofs.Naming.{AreNamed, one_named}
use Rattle.open_tables.proofs.table.OpenTable.name_all.Goals as goal

pub loop-question-preserved : goal.loop-question-preserved
loop-question-preserved c =
    let questions = c.args.questions.now in
    let at = c.loop-question.question-index in
    let more = ap (map named) (take_more questions at _ c.loop-question-test.true)
    ∙ map-append named (take at questions) _ in
    subst (λ l. AreNamed c.args.self.now c.goal_named.new.self l (map named (take (at + 1) questions)))
    (sym c.in_ok-push.ensures.items)
    (subst (AreNamed c.args.self.now c.goal_named.new.self _) (sym more)
    (one_named c.args.self.now c.loop-question.self c.goal_named.new.self c.loop-question.asked.items
    (map named (take at questions)) _ _ c.loop-question.invariant c.goal_named.ensures.names
    c.goal_named.ensures.candidates c.goal_named.ensures.made refl c.in_ok-goal.ensures.goal))
