use Rattle.std.proofs.Common.{◌∙◌, All, arith, refl, subst, sym}
use Rattle.std.proofs.lemmas.Bool.{false≢true}
use Rattle.std.proofs.lemmas.List.{take_all}
use Rattle.std.proofs.lemmas.List.Elements.{All-more}
use Rattle.graph_texts.specs.Grounds.{IsAsked}
use Rattle.graph_texts.proofs.rule.Grounds.hold.Goals as goal

pub returns-then-not-has : goal.returns-then-not-has
returns-then-not-has c =
    let asked = All (IsAsked c.args.self.now) in
    let at = c.loop-asking.asking-index in (
      λ never. absurd (false≢true never),
      λ all. sym c.if-not-has.true
          ∙ c.has.ensures.1 (subst asked (sym c.questions-questions.ensures) all at _ c.loop-asking-test.true),
    )

pub loop-asking-preserved : goal.loop-asking-preserved
loop-asking-preserved c =
    All-more (IsAsked c.args.self.now) c.questions-questions.result.now c.loop-asking.asking-index _
    c.loop-asking-test.true c.loop-asking.invariant (c.has.ensures.0 c.if-not-has.false)

pub returns : goal.returns
returns c =
    let asked = All (IsAsked c.args.self.now) in
    let questions = c.questions-questions.result.now in
    let whole = take_all c.loop-asking.asking-index questions (omega (arith, c.loop-asking-test.false)) in (
      λ _. subst asked c.questions-questions.ensures (subst asked whole c.loop-asking.invariant),
      λ _. refl,
    )
