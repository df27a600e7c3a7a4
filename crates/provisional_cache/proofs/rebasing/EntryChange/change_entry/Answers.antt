use Rattle.provisional_cache.proofs.RebasedEntries.{left_if_single}
use Rattle.cycle_heads.proofs.Counts.{others_by_test}
use Rattle.provisional_cache.proofs.rebasing.EntryChange.change_entry.Goals as goal

pub returns-in-UnchangedIfSingle-clause-changed : goal.returns-in-UnchangedIfSingle-clause-changed
returns-in-UnchangedIfSingle-clause-changed g c =
    rw (c.in-UnchangedIfSingle.is) (left_if_single c.is_single.result _ c.args.entry.now
    (others_by_test c.args.usages c.in-UnchangedIfSingle.kind c.is_single.result c.is_single.ensures))
