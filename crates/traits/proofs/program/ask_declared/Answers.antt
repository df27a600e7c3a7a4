use Rattle.std.proofs.Common.{◌∙◌, ap, length, subst}
use Rattle.trait_pages.specs.Asked.{AreGoalsOf}
use Rattle.trait_rules.specs.Numbered.{Keeps}
use Rattle.traits.specs.Right.{AreRight}
use Rattle.traits.proofs.True.{answers_are_true}
use Rattle.traits.proofs.program.ask_declared.Goals as goal

pub returns : goal.returns
returns c =
    let table = c.all_goals.new.goals in
    let asked = c.in_ok-asked.asked.items in
    let came = c.in_ok-round.round.came.items in
    answers_are_true c.args.declared.rules c.args.declared.terms table
    (c.in_ok-asked.ensures.extends.same_rules ∙ c.new-goals.ensures.rules)
    (subst (λ made. Keeps made table.made) c.new-goals.ensures.made c.in_ok-asked.ensures.extends.keeps_made)
    c.args.declared.questions.items asked came
    (subst (λ questions. AreGoalsOf c.args.declared.terms table questions asked) c.as_slice.ensures.value
    (subst (λ made. AreGoalsOf made table c.as_slice.result.now asked) c.new-goals.ensures.made
    c.in_ok-asked.ensures.asked))
    (c.in_ok-round.ensures.count ∙ ap length c.as_slice-2.ensures.value)
    (subst (λ goals. AreRight table goals came) c.as_slice-2.ensures.value c.in_ok-round.ensures.right)
