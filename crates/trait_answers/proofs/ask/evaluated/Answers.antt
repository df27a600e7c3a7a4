use Rattle.std.proofs.Common.{◌≡◌, false, refl}
use Rattle.trait_answers.proofs.ask.evaluated.Goals as goal

pub returns-clause-yes : goal.returns-clause-yes
returns-clause-yes g c = c.evaluate_goal.ensures.yes

pub returns-clause-no : goal.returns-clause-no
returns-clause-no g c = c.evaluate_goal.ensures.no

pub returns-clause-decided : goal.returns-clause-decided
returns-clause-decided g c goals enough unmet =
    let done = c.two_runs.ensures _ c.evaluate_goal.ensures.ran goals enough refl unmet in
    record {
      answer = c.evaluate_goal.ensures.decisive enough.needs.decisive enough.definite done.unmet;
      fault = done.faults;
      unmet = done.unmet;
      definite = done.definite;
      no_overflow = done.no_overflow;
      settled = done.settled.settled;
      suit = done.settled.suit;
    }

pub returns-clause-faults : goal.returns-clause-faults
returns-clause-faults g c = c.evaluate_goal.ensures.faults

pub returns-clause-same_context : goal.returns-clause-same_context
returns-clause-same_context g c = c.evaluate_goal.ensures.same_context
