use Rattle.std.proofs.Common.{◌∙◌, All, arith, subst, sym}
use Rattle.std.proofs.lemmas.Bool.{false≢true}
use Rattle.std.proofs.lemmas.List.{take_all}
use Rattle.std.proofs.lemmas.List.Elements.{All-more}
use Rattle.graph_texts.specs.Grounds.{IsAsked}
use Rattle.graph_texts.proofs.rule.Grounds.failing.Goals as goal

pub loop-asking-preserved : goal.loop-asking-preserved
loop-asking-preserved c =
    All-more (λ asking. ¬ IsAsked c.args.self.now asking) c.questions-questions.result.now c.loop-asking.asking-index _
    c.loop-asking-test.true c.loop-asking.invariant (λ asked. false≢true (sym c.if-has.false ∙ c.has.ensures.1 asked))

pub returns : goal.returns
returns c =
    let unasked = All (λ asking. ¬ IsAsked c.args.self.now asking) in
    let questions = c.questions-questions.result.now in
    let whole = take_all c.loop-asking.asking-index questions (omega (arith, c.loop-asking-test.false)) in
    subst unasked c.questions-questions.ensures (subst unasked whole c.loop-asking.invariant)
