use Rattle.std.proofs.Common.{nat_eq, not}
use Rattle.sessions.proofs.causes.with_reason.Goals as goal

pub returns-clause-reason : goal.returns-clause-reason
returns-clause-reason g c = λ fits. let asked = c.args.watched.asked in record {
  told = c.reason_of-reason.ensures.told;
  fits = c.reason_of-reason.ensures.fits (not (nat_eq asked.started 0)) asked.limits_met asked.outcome fits;
  named = c.reason_of-reason.ensures.named;
  unknown = c.is_of_unknown.ensures;
}
