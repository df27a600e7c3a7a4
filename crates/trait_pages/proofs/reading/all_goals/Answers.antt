use Rattle.std.proofs.Common.{[], take, refl, subst, sym}
use Rattle.std.proofs.lemmas.List.{take_all, take_more}
use Rattle.trait_goals.proofs.Completing.{keeps_length}
use Rattle.trait_goals.proofs.Extending.{extends_then}
use Rattle.trait_pages.specs.Asked.{AreGoalsOf}
use Rattle.trait_pages.proofs.Asked.{given_goal, no_goals, one_more_goal}
use Rattle.trait_pages.proofs.reading.all_goals.Goals as goal

pub loop-question-init : goal.loop-question-init
loop-question-init c = record {
  kept = c.reserve.ensures;
  are = subst (AreGoalsOf c.args.goals.now.made c.reserve.new.self []) (sym c.in_ok-asked.ensures.items)
      (no_goals c.args.goals.now.made c.reserve.new.self [] refl);
}

pub loop-question-preserved : goal.loop-question-preserved
loop-question-preserved c =
    let so_far = c.loop-question.invariant in
    let now = c.goal.new.self in
    record {
      kept = extends_then c.args.goals.now c.loop-question.goals now so_far.kept c.in_ok-goal.ensures.extends;
      are =
          subst (λ l. AreGoalsOf c.args.goals.now.made now l c.push.new.self.items)
          (sym (take_more c.args.questions.now c.loop-question.question-index _ c.loop-question-test.true))
          (subst (AreGoalsOf c.args.goals.now.made now _) (sym c.in_ok-push.ensures.items)
          (one_more_goal c.args.goals.now.made c.loop-question.goals now
          (take c.loop-question.question-index c.args.questions.now) _
          c.loop-question.asked.items c.unwrap_or.result c.in_ok-goal.ensures.extends so_far.are
          (given_goal c.args.goals.now.made c.loop-question.goals now _ c.in_ok-goal.goal _ c.unwrap_or.result
          (keeps_length c.args.goals.now.made c.loop-question.goals.made so_far.kept.keeps_made)
          c.in_ok-goal.ensures.number c.in_ok-goal.ensures.none c.unwrap_or.ensures)));
    }

pub returns-clause-asked : goal.returns-clause-asked
returns-clause-asked c =
    subst (λ l. AreGoalsOf c.args.goals.now.made c.loop-question.goals l c.loop-question.asked.items)
    (take_all c.loop-question.question-index c.args.questions.now c.loop-question-test.false)
    c.loop-question.invariant.are
