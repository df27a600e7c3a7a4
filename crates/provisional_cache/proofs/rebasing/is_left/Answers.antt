use Rattle.provisional_cache.proofs.RebasedEntries.{left_by_heads}
use Rattle.provisional_cache.proofs.rebasing.is_left.Goals as goal

pub returns : goal.returns
returns g c = left_by_heads c.args.entry.now c.is_empty.result c.is_empty.ensures
