-- The words of this crate, from one place.
pub use Rattle.provisional_cache.specs.EntryChange.{changed_by}
pub use Rattle.provisional_cache.specs.Nodes.{nodes_in, nodes_of}
pub use Rattle.provisional_cache.specs.Provisional.{AppendsEntry, entries_at, Lists, lists_of, PutsLast}
pub use Rattle.provisional_cache.specs.Rebasing.{but_highest, CanBeRebased, changed_for, from_head, from_new_head}
pub use Rattle.provisional_cache.specs.Rebasing.{IsLeft, keeps_kind, keeps_kinds, left_of, rebased}
pub use Rattle.provisional_cache.specs.Rebasing.{rebased_at, rebased_unused}
pub use Rattle.provisional_cache.specs.Rebasing.{rebased_used, with_unused, with_used}
pub use Rattle.provisional_cache.specs.Reuse.{depends_on, has_head_up_to, highest_passes, is_used_at, may_be_used}
pub use Rattle.provisional_cache.specs.declared.ProvisionalCacheEntry.{ProvisionalCacheEntry}
pub use Rattle.provisional_cache.specs.declared.rebasing.EntryChange.{EntryChange}
pub use Rattle.provisional_cache.specs.declared.rebasing.EntryChange.TheVariants.{Dropped, Replaced, Unchanged}
pub use Rattle.provisional_cache.specs.declared.rebasing.EntryChange.TheVariants.{UnchangedIfSingle}
