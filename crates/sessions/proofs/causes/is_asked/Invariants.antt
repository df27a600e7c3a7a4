use Rattle.std.proofs.Common.{◌<◌, ◌≤◌, ◌^◌, ℕ}
use Rattle.sessions.proofs.causes.is_asked.Given as goal
use Rattle.sessions.specs.Causes.{Asks}

-- no candidate so far has the question
abbrev pub invariant-loop-candidate : goal.invariant-loop-candidate
invariant-loop-candidate g l = record {
  none : (candidate : ℕ) → candidate < l.candidate → Asks (g.L.LendsArrays.table_of l.rules.lender) l.cut candidate
      → ⊥;
  few : l.candidate ≤ 2 ^ 32;
}
