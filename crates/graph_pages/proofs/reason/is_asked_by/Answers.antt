use Rattle.std.proofs.Common.{◌∙◌, All, arith, Contains, subst, sym}
use Rattle.std.proofs.lemmas.Bool.{false≢true}
use Rattle.std.proofs.lemmas.List.{take_all}
use Rattle.std.proofs.lemmas.List.Elements.{All-contains, All-push}
use Rattle.graph_texts.proofs.Grounds.{take_one_more}
use Rattle.rule_tables.specs.Candidate.{Candidate}
use Rattle.graph_pages.specs.Reasons.{asking_of}
use Rattle.graph_pages.proofs.reason.is_asked_by.Goals as goal

pub loop-place-preserved : goal.loop-place-preserved
loop-place-preserved c =
    let lacks = λ (rule : Candidate). ¬ Contains rule.questions (asking_of c.args.cut) in
    let rules = c.candidates-candidates.result in
    let at = c.loop-place.place in
    subst (All lacks) (sym (take_one_more rules at c.in-Some.candidate c.in-Some.ensures.value))
    (All-push lacks _ c.in-Some.candidate c.loop-place.invariant
    (λ there. false≢true (sym c.if-has_question.false ∙ c.has_question.ensures.1 there)))

pub returns : goal.returns
returns c =
    let lacks = λ (rule : Candidate). ¬ Contains rule.questions (asking_of c.args.cut) in
    let rules = c.candidates-candidates.result in
    let whole = take_all c.loop-place.place rules (omega (arith, c.loop-place-test.false, c.count-place-end.ensures)) in
    let none = subst (All lacks) c.candidates-candidates.ensures (subst (All lacks) whole c.loop-place.invariant) in (
      λ never. absurd (false≢true never),
      λ asked. absurd (All-contains lacks _ asked.rule none asked.is_rule asked.asks),
    )
