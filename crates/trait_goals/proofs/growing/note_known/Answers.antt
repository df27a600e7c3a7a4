use Rattle.std.proofs.Common.{◌≡◌, Some, length, ◌+◌, sym, ap, subst, ◌∙◌, arith}
use Rattle.std.specs.Prelude.{slice_get}
use Rattle.trait_goals.proofs.Clauses.{length_more}
use Rattle.trait_goals.proofs.Grown.{known_none, known_push, known_same, known_set, noted_push, noted_set}
use Rattle.trait_goals.proofs.Grown.{stays_none}
use Rattle.trait_goals.proofs.growing.note_known.Goals as goal

pub loop-init : goal.loop-init
loop-init c = record { keeps = λ n k e. e; stays = λ n k e. e; count = omega arith }

pub loop-preserved : goal.loop-preserved
loop-preserved c = record {
  keeps = known_none c.loop.known.items c.push.new.self.items c.args.known.now.items c.in_ok-push.ensures.items
      c.loop.invariant.keeps;
  stays = stays_none c.loop.known.items c.push.new.self.items c.args.known.now.items c.in_ok-push.ensures.items
      c.loop.invariant.stays;
  count = ap length c.in_ok-push.ensures.items ∙ (length_more c.loop.known.items _
      ∙ ap (λ n. n + 1) c.loop.invariant.count);
}

pub returns-in_err-push-clause-more : goal.returns-in_err-push-clause-more
returns-in_err-push-clause-more c =
    known_same c.push.new.self.items c.args.known.now.items c.args.goal c.args.candidates
    (λ n k e. c.loop.invariant.keeps n k (subst (λ l. slice_get l n ≡ Some (Some k)) c.in_err-push.ensures.items e))
    (λ n k e. subst (λ l. slice_get l n ≡ Some (Some k)) (sym c.in_err-push.ensures.items)
    (c.loop.invariant.stays n k e))

pub returns-in_err-push-2-clause-more : goal.returns-in_err-push-2-clause-more
returns-in_err-push-2-clause-more c =
    known_same c.push-else-goal-len.new.self.items c.args.known.now.items c.args.goal c.args.candidates
    (λ n k e. c.loop.invariant.keeps n k (subst (λ l. slice_get l n ≡ Some (Some k)) c.in_err-push-2.ensures.items e))
    (λ n k e. subst (λ l. slice_get l n ≡ Some (Some k)) (sym c.in_err-push-2.ensures.items)
    (c.loop.invariant.stays n k e))

pub returns-then-goal-len : goal.returns-then-goal-len
returns-then-goal-len c = record {
  more = known_set c.loop.known.items c.args.known.now.items c.args.goal c.args.candidates c.loop.invariant.keeps
      c.loop.invariant.stays;
  noted = noted_set c.loop.known.items c.args.goal c.args.candidates (omega arith);
}

pub returns-in_ok-push-2 : goal.returns-in_ok-push-2
returns-in_ok-push-2 c = record {
  more = known_push c.loop.known.items c.push-else-goal-len.new.self.items c.args.known.now.items c.args.goal
      c.args.candidates c.loop.invariant.keeps c.loop.invariant.stays c.in_ok-push-2.ensures.items
      (omega (arith, c.loop.invariant.count));
  noted = noted_push c.loop.known.items c.push-else-goal-len.new.self.items c.args.goal c.args.candidates
      c.in_ok-push-2.ensures.items (omega (arith, c.loop.invariant.count));
}
