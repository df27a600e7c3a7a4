use Rattle.std.proofs.Common.{◌≡◌, ◌<◌, length, ap, arith}
use Rattle.std.proofs.Math.Logic.{∥∥₁_map}
use Rattle.trait_answers.proofs.Enough.{fault_of, ready_of, ready_still, told_of, unmet_of}
use Rattle.trait_answers.proofs.answers.Answers.implements.Goals as goal

pub returns-then-goal-count-clause-told : goal.returns-then-goal-count-clause-told
returns-then-goal-count-clause-told g c = λ had can.
    let table = g.L.Lends.lent_by c.args.self.now.cache.cx.0.0.lender in
    let many : c.count_of-count.result ≡ length table.asked = c.count_of-count.ensures in
    let within : c.args.goal < length table.asked = can.is_goal in
    absurd (omega (arith, many, within))

pub returns-then-goal-count-clause-deep : goal.returns-then-goal-count-clause-deep
returns-then-goal-count-clause-deep g c = rw (← c.count_of-count.ensures) c.has_depth-self.ensures

pub invariant_of-self : goal.invariant_of-self
invariant_of-self g c =
    let old = c.args.self.now in
    let table = g.L.Lends.lent_by old.cache.cx.0.0.lender in
    record {
      ready = ready_still _ table c.args.goal old.had_depth c.has_depth-self.result c.args.depth old.cache
          (rw (← c.count_of-count.ensures) c.has_depth-self.ensures) old.ready;
    }

pub invariant_of-self-2 : goal.invariant_of-self-2
invariant_of-self-2 g c =
    let old = c.args.self.now in
    let table = g.L.Lends.lent_by old.cache.cx.0.0.lender in
    let many : c.count_of-count.result ≡ length table.asked = c.count_of-count.ensures in
    let less : c.args.goal < length table.asked = omega (arith, many) in
    record {
      ready = ready_of _ table c.args.goal old.had_depth c.has_depth-self.result c.args.depth
          (g.L.Lends.lent_by c.asked.new.cache.cx.0.0.lender) c.asked.result old.cache c.asked.new.cache
          (ap (λ cx. g.L.Lends.lent_by cx.0.0.lender) c.asked.ensures.same_context)
          (rw (← c.count_of-count.ensures) c.has_depth-self.ensures) less
          c.asked.ensures.told old.ready;
    }

pub returns-clause-told : goal.returns-clause-told
returns-clause-told g c = λ had can.
    let old = c.args.self.now in
    let table = g.L.Lends.lent_by old.cache.cx.0.0.lender in
    told_of _ table c.args.goal c.asked.result c.asked.new.cache c.asked.ensures.yes c.asked.ensures.no
    (∥∥₁_map old.ready (λ ready. c.asked.ensures.told can (ready had can.all)))

pub returns-clause-unmet : goal.returns-clause-unmet
returns-clause-unmet g c = λ had can.
    let old = c.args.self.now in
    let table = g.L.Lends.lent_by old.cache.cx.0.0.lender in
    unmet_of _ table c.args.goal c.asked.result c.asked.new.cache
    (∥∥₁_map old.ready (λ ready. c.asked.ensures.told can (ready had can.all)))

pub returns-clause-faults : goal.returns-clause-faults
returns-clause-faults g c = λ had can.
    let old = c.args.self.now in
    let table = g.L.Lends.lent_by old.cache.cx.0.0.lender in
    fault_of _ table c.args.goal c.asked.result c.asked.new.cache
    (∥∥₁_map old.ready (λ ready. c.asked.ensures.told can (ready had can.all)))

pub returns-clause-deep : goal.returns-clause-deep
returns-clause-deep g c = rw (← c.count_of-count.ensures) c.has_depth-self.ensures
