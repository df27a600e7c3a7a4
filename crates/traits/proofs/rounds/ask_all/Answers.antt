use Rattle.std.proofs.Common.{◌≡◌, ◌+◌, ◌&&◌, nat_le, Some, length, get_or, sym, ap, subst, ◌∙◌, arith}
use Rattle.std.specs.Prelude.{slice_get}
use Rattle.std.proofs.lemmas.Option.{slice_get-get_or}
use Rattle.trait_goals.proofs.Clauses.{length_more}
use Rattle.trait_answers.specs.Answered.{CanBeTold}
use Rattle.traits.specs.Right.{IsAnswered, IsRight}
use Rattle.traits.proofs.Kept.{answered_more, none_answered, none_right, right_more, still_deep}
use Rattle.traits.proofs.rounds.ask_all.Goals as goal

pub loop-goal-init : goal.loop-goal-init
loop-goal-init g c = record {
  same = c.new-answers.ensures.goals;
  count = ap length c.in_ok-came.ensures.items;
  right = none_right _ _ _ c.in_ok-came.ensures.items;
  deep = λ enough. c.new-answers.ensures.deep;
  told = λ all enough. none_answered _ _ _ c.in_ok-came.ensures.items;
}

pub loop-goal-preserved : goal.loop-goal-preserved
loop-goal-preserved g c =
    let asked = c.args.asked.now in
    let here = get_or asked c.loop-goal.goal-index 0 in
    record {
      same = c.ask-answer.ensures.same_goals ∙ c.loop-goal.invariant.same;
      count = ap length c.in_ok-push.ensures.items
          ∙ (length_more c.loop-goal.came.items c.ask-answer.result ∙ ap (λ n. n + 1) c.loop-goal.invariant.count);
      right = right_more (g.L.Lends.lent_by c.args.lender) asked c.loop-goal.came.items c.push.new.self.items here
          c.ask-answer.result c.loop-goal.invariant.right c.in_ok-push.ensures.items
          (subst (λ n. slice_get asked n ≡ Some here) (sym c.loop-goal.invariant.count)
          (slice_get-get_or asked c.loop-goal.goal-index 0 (omega arith)))
          (subst (λ t. IsRight t here c.ask-answer.result) c.loop-goal.invariant.same c.ask-answer.ensures.right);
      deep = λ enough. still_deep _ _ (length (g.L.Lends.lent_by c.args.lender).asked) c.args.depth
          (subst (λ t. c.ask-answer.new.answers.had_depth
          ≡ (c.loop-goal.answers.had_depth && nat_le (length t.asked) c.args.depth)) c.loop-goal.invariant.same
          c.ask-answer.ensures.deep)
          (c.loop-goal.invariant.deep enough) enough;
      told = λ all enough. answered_more (g.L.Lends.lent_by c.args.lender) asked c.loop-goal.came.items
          c.push.new.self.items here c.ask-answer.result (c.loop-goal.invariant.told all enough)
          c.in_ok-push.ensures.items
          (subst (λ n. slice_get asked n ≡ Some here) (sym c.loop-goal.invariant.count)
          (slice_get-get_or asked c.loop-goal.goal-index 0 (omega arith)))
          (λ within. subst (λ t. CanBeTold t here c.args.depth → IsAnswered t here c.ask-answer.result)
          c.loop-goal.invariant.same (c.ask-answer.ensures.told (c.loop-goal.invariant.deep enough))
          (record { all = all; is_goal = within; deep = enough }));
    }

pub returns-clause-count : goal.returns-clause-count
returns-clause-count g c = omega (arith, c.loop-goal.invariant.count)
