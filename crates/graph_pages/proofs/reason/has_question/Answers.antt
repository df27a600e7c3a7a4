use Rattle.std.proofs.Common.{◌≡◌, ◌∙◌, All, ap, arith, refl, subst, sym}
use Rattle.std.proofs.lemmas.Bool.{false≢true}
use Rattle.std.proofs.lemmas.List.{take_all}
use Rattle.std.proofs.lemmas.List.Elements.{All-contains, All-more}
use Rattle.graph_texts.proofs.Grounds.{question_same}
use Rattle.rule_tables.specs.contracts.rules.AskingPartialEq.TheImpl.{eq-value as eq-asking}
use Rattle.rule_tables.specs.declared.rules.Asking.{Asking}
use Rattle.graph_pages.proofs.reason.has_question.Goals as goal

pub loop-question-preserved : goal.loop-question-preserved
loop-question-preserved c =
    let differs = λ (question : Asking). question ≡ c.args.asking → ⊥ in
    All-more differs c.questions-questions.result.now c.loop-question.question-index _
    c.loop-question-test.true c.loop-question.invariant
    (λ same.
    false≢true (sym c.if-eq.false ∙ c.eq.ensures ∙ ap (λ (question : Asking). eq-asking.it question c.args.asking) same
    ∙ question_same (c.args.asking.kind, c.args.asking.goal)))

pub returns : goal.returns
returns c =
    let differs = λ (question : Asking). question ≡ c.args.asking → ⊥ in
    let questions = c.questions-questions.result.now in
    let whole = take_all c.loop-question.question-index questions (omega (arith, c.loop-question-test.false)) in
    let none =
    subst (All differs) c.questions-questions.ensures (subst (All differs) whole c.loop-question.invariant) in (
      λ never. absurd (false≢true never),
      λ there. absurd (All-contains differs c.args.rule.now.questions c.args.asking none there refl),
    )
