use Rattle.std.proofs.Common.{Some, sym, ap, ◌∙◌, arith}
use Rattle.trait_goals.proofs.Matching.{read_at}
use Rattle.trait_goals.proofs.Clauses.{asked_more, inside_grown}
use Rattle.trait_goals.proofs.trying.ask_clauses.Goals as goal

pub loop-place-preserved : goal.loop-place-preserved
loop-place-preserved c = record {
  asks = asked_more c.args.all.now c.args.asked.now c.loop-place.asked c.intern.new.self c.args.rule.now c.args.bound
      c.loop-place.place c.loop-place.questions.items c.push.new.self.items c.in-Some.clause c.in-Some-at.subject
      c.in_ok-number.number
      c.loop-place.invariant.asks
      (read_at _ _ c.loop-place.place c.in-Some.clause c.as_slice.ensures.value c.in-Some.ensures)
      (sym c.in-Some-at.ensures) c.intern.ensures.keeps
      (c.in_ok-number.ensures.number ∙ ap (λ b. Some (record {
        subject = c.in-Some-at.subject;
        bound = b;
      })) c.for_goal.ensures)
      c.in_ok-push.ensures.items;
  inside = λ made is h. inside_grown made c.loop-place.asked c.intern.new.self _ c.intern.ensures.grows
      (omega (arith, is)) (c.loop-place.invariant.inside made is h);
}
