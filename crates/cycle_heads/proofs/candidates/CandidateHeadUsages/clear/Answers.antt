use Rattle.std.proofs.Common.{subst, sym}
use Rattle.cycle_heads.specs.Words.{StackDepth, HeadUsages, IsRising}
use Rattle.cycle_heads.proofs.HeadLists.{rising_none}
use Rattle.cycle_heads.proofs.candidates.CandidateHeadUsages.clear.Goals as goal

pub invariant_of-self : goal.invariant_of-self
invariant_of-self c = subst IsRising (sym c.clear.ensures) (rising_none (StackDepth × HeadUsages))
