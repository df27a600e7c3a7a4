use Rattle.std.proofs.Common.{◌≡◌}
use Rattle.lean_runs.proofs.lean.latest_result.Given as goal

-- the guide stays
abbrev pub invariant-loop : goal.invariant-loop
invariant-loop g l = l.place.guide ≡ l.fn.place.guide
