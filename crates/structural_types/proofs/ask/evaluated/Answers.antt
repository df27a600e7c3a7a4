use Rattle.std.proofs.Common.{◌≡◌, false, refl, sym, ap, subst}
use Rattle.structural_types.specs.Below.{TwoRunsAreEnough}
use Rattle.structural_types.proofs.ask.evaluated.Goals as goal

pub returns-clause-yes : goal.returns-clause-yes
returns-clause-yes g c = c.evaluate_goal.ensures.yes

pub returns-clause-no : goal.returns-clause-no
returns-clause-no g c = c.evaluate_goal.ensures.no

pub returns-clause-decided : goal.returns-clause-decided
returns-clause-decided g c goals enough_runs =
    let unmet : c.renew.new.self.limits_met ≡ false = ap (λ graph. graph.limits_met) c.renew.ensures in
    let deep : c.renew.new.self.root_depth ≡ 18446744073709551615 = ap (λ graph. graph.root_depth) c.renew.ensures in
    let enough = subst (λ depth. TwoRunsAreEnough g.D.Delegate g.D.Cx.Cx g.D.Cx.Input.PartialEq.eq goals
    c.args.cache.now depth c.args.goal (g.D.Delegate.noop c.args.inspect.now)) (sym deep) enough_runs in
    let done = c.two_runs.ensures _ c.evaluate_goal.ensures.ran goals enough refl unmet in
    record {
      answer = c.evaluate_goal.ensures.decisive enough.needs.decisive enough.definite done.unmet;
      fault = done.faults;
      definite = done.definite;
      no_overflow = done.no_overflow;
      settled = done.settled.settled;
      suit = done.settled.suit;
    }

pub returns-clause-faults : goal.returns-clause-faults
returns-clause-faults g c = c.evaluate_goal.ensures.faults

pub returns-clause-same_context : goal.returns-clause-same_context
returns-clause-same_context g c = c.evaluate_goal.ensures.same_context
