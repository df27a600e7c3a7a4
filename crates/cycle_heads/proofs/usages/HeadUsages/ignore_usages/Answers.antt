use Rattle.cycle_heads.specs.Below.{Inductive, Unknown, Coinductive, ForcedAmbiguity}
use Rattle.cycle_heads.proofs.usages.HeadUsages.ignore_usages.Goals as goal

pub subtract-self-requires : goal.subtract-self-requires
subtract-self-requires c = c.requires Inductive

pub subtract-self-requires-2 : goal.subtract-self-requires-2
subtract-self-requires-2 c = c.requires Unknown

pub subtract-self-requires-3 : goal.subtract-self-requires-3
subtract-self-requires-3 c = c.requires Coinductive

pub subtract-self-requires-4 : goal.subtract-self-requires-4
subtract-self-requires-4 c = c.requires ForcedAmbiguity
