use Rattle.std.proofs.Common.{◌≡◌, ◌<◌, ◌≤◌, ◌^◌, ℕ, Some}
use Rattle.candidate_lists.specs.Candidate.{question_at}
use Rattle.sessions.proofs.causes.asks.Given as goal
use Rattle.sessions.specs.Below.{candidates_of, question_of}

-- no question so far is this one
abbrev pub invariant-loop-place : goal.invariant-loop-place
invariant-loop-place g l = record {
  none : (place : ℕ) → place < l.place →
      question_at question_of (candidates_of (g.L.LendsArrays.table_of l.rules.lender) l.cut.by) l.candidate place
      ≡ Some (l.cut.kind, l.cut.asked) → ⊥;
  few : l.place ≤ 2 ^ 32;
}
