-- What becomes of an entry that used the goal that is done.
use Rattle.std.specs.Prelude.{if◌then◌else◌, Option, Some, None}
use Rattle.provisional_cache.specs.Below.{HeadUsages, has_usages, other_usages}
use Rattle.provisional_cache.specs.declared.ProvisionalCacheEntry.{ProvisionalCacheEntry}
use Rattle.provisional_cache.specs.declared.RebaseReason.{RebaseReason}
use Rattle.provisional_cache.specs.declared.RebaseReason.TheVariants.{NoCycleUsages, Ambiguity}
use Rattle.provisional_cache.specs.declared.RebaseReason.TheVariants.{Overflow, ReachedFixpoint}
use Rattle.provisional_cache.specs.declared.rebasing.EntryChange.{EntryChange}
use Rattle.provisional_cache.specs.declared.rebasing.EntryChange.TheVariants.{Dropped, Replaced}
use Rattle.provisional_cache.specs.declared.rebasing.EntryChange.TheVariants.{Unchanged, UnchangedIfSingle}

module _ {X I R A T : Type 0} where
  -- the change where the goal is done for this reason: if no cycle was used, entries are dropped; an ambiguous goal and
  -- one that had its most runs leave their results and no node; a later run that is stable leaves entries as they are;
  -- and so does a stable first run, where they were used by cycles of that kind alone
  abbrev pub change_of : (A → R) → R → RebaseReason X I R A T → EntryChange X I R A T
  change_of propagated overflow NoCycleUsages = Dropped
  change_of propagated overflow (Ambiguity info) = Replaced (propagated info)
  change_of propagated overflow Overflow = Replaced overflow
  change_of propagated overflow (ReachedFixpoint None) = Unchanged
  change_of propagated overflow (ReachedFixpoint (Some kind)) = UnchangedIfSingle kind

  -- the entry after such a change, where it used the goal so often
  abbrev pub changed_by : EntryChange X I R A T → HeadUsages → ProvisionalCacheEntry X I R A T
      → Option (ProvisionalCacheEntry X I R A T)
  changed_by Dropped usages entry = None
  changed_by (Replaced outcome) usages entry = Some (record entry { result = outcome; node = None })
  changed_by Unchanged usages entry = Some entry
  changed_by (UnchangedIfSingle kind) usages entry = if has_usages (other_usages usages kind) then None else Some entry
