use Rattle.std.proofs.Common.{sym, ◌∙◌}
use Rattle.lean_runs.proofs.Places.{contains_at}
use Rattle.lean_runs.proofs.lean.next_answer.Goals as goal

pub returns-then-asks-clause-on_record : goal.returns-then-asks-clause-on_record
returns-then-asks-clause-on_record g c = contains_at _ c.loop-at.at _ (sym c.answer.ensures ∙ c.in_ok-known.was)
