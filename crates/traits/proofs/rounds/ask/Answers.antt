use Rattle.std.proofs.Common.{◌≡◌}
use Rattle.delegate_parts.specs.declared.outcome.Outcome.TheVariants.{No, Yes}
use Rattle.traits.proofs.rounds.ask.Goals as goal

pub returns-clause-right : goal.returns-clause-right
returns-clause-right g c = record {
  yes = λ e. let is : c.in_ok-answered.answered.outcome ≡ Yes = cc in c.in_ok-answered.ensures.yes is;
  no = λ e. let is : c.in_ok-answered.answered.outcome ≡ No = cc in c.in_ok-answered.ensures.no is;
}

pub returns-clause-told : goal.returns-clause-told
returns-clause-told g c = λ deep can. c.in_ok-answered.ensures.told deep can

pub returns-clause-deep : goal.returns-clause-deep
returns-clause-deep g c = c.implements.ensures.deep

pub returns-clause-same_goals : goal.returns-clause-same_goals
returns-clause-same_goals g c = c.implements.ensures.same_goals

pub returns-in_err-answered-clause-deep : goal.returns-in_err-answered-clause-deep
returns-in_err-answered-clause-deep g c = c.implements.ensures.deep

pub returns-in_err-answered-clause-same_goals : goal.returns-in_err-answered-clause-same_goals
returns-in_err-answered-clause-same_goals g c = c.implements.ensures.same_goals
