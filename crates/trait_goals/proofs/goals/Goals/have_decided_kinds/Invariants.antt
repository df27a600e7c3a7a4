use Rattle.std.proofs.Common.{ℕ, ◌<◌}
use Rattle.search_context.specs.Decisive.{IsDecidedKind}
use Rattle.trait_goals.specs.Known.{kind_at}
use Rattle.trait_goals.proofs.goals.Goals.have_decided_kinds.Given as goal

abbrev pub invariant-loop-goal : goal.invariant-loop-goal
invariant-loop-goal l = (other : ℕ) → other < l.goal → IsDecidedKind (kind_at l.self other)
