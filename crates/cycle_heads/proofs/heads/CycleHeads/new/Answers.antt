use Rattle.std.proofs.Common.{subst, sym}
use Rattle.cycle_heads.specs.Words.{StackDepth, CycleHead, IsRising}
use Rattle.cycle_heads.proofs.HeadLists.{rising_none}
use Rattle.cycle_heads.proofs.heads.CycleHeads.new.Goals as goal

pub invariant_of-result : goal.invariant_of-result
invariant_of-result c = subst IsRising (sym c.new.ensures) (rising_none (StackDepth × CycleHead))
