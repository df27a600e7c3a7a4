use Rattle.std.proofs.Common.{arith}
use Rattle.std.proofs.lemmas.Grind.{common_steps}
use Rattle.search_rules.specs.Words.{Stable, Limited, Repeats}
use Rattle.search_rules.specs.EndOfRun.{Unused}
use Rattle.search_rules.proofs.end_of_run.end_of_run.Goals as goal

pub returns-in_default-clause-is_end : goal.returns-in_default-clause-is_end
returns-in_default-clause-is_end g c = Unused c.in_default.is

pub returns-in-Some-stable-clause-is_end : goal.returns-in-Some-stable-clause-is_end
returns-in-Some-stable-clause-is_end g c =
    Stable c.in-Some.usages c.in-Some-stable.reason c.in-Some.is c.in-Some-stable.ensures.reason

pub returns-then-finished_runs-saturating_sub-clause-is_end :
    goal.returns-then-finished_runs-saturating_sub-clause-is_end
returns-then-finished_runs-saturating_sub-clause-is_end g c =
    Repeats c.in-Some.usages c.in-Some.is
    (c.stable_reason-stable.ensures.unstable c.in_default-stable.is) (grind (arith, common_steps))

pub returns-else-finished_runs-saturating_sub-clause-is_end :
    goal.returns-else-finished_runs-saturating_sub-clause-is_end
returns-else-finished_runs-saturating_sub-clause-is_end g c =
    Limited c.in-Some.usages c.in-Some.is
    (c.stable_reason-stable.ensures.unstable c.in_default-stable.is) (grind (arith, common_steps))
