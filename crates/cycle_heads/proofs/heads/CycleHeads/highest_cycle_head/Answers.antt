use Rattle.std.proofs.Common.{rules}
use Rattle.cycle_heads.proofs.HighestHeads.{greatest}
use Rattle.cycle_heads.proofs.heads.CycleHeads.highest_cycle_head.Goals as goal

pub returns-clause-greatest : goal.returns-clause-greatest
returns-clause-greatest c = greatest c.args.self.now c.unwrap.result.now c.as_slice.ensures.rising (search rules)
