-- The rule by which provisional entries are rebased when a goal is done and is popped. It is a function on one entry,
-- which gives what the entry becomes, or `None` where it is dropped. The goal that is done was at the place right above
-- the stack that is left.
use Rattle.std.specs.Prelude.{◌≡◌, ◌≢◌, ◌≤◌, ◌-◌, ℕ, Bool, true, false, nat_eq, if◌then◌else◌, List, [], length, take}
use Rattle.std.specs.Prelude.{fold, All, Option, Some, None}
use Rattle.std.specs.List.{list_all}
use Rattle.std.specs.Option.{option_map, option_and_then}
use Rattle.provisional_cache.specs.Below.{PathKind, PathsToNested, StackDepth, CycleHead, HeadUsages, Heads, highest}
use Rattle.provisional_cache.specs.Below.{with_head, rank_of, greater_kind, kinds_in, extended_by_each, path_of_no_step}
use Rattle.provisional_cache.specs.Below.{has_usages, no_usages}
use Rattle.search_stack.specs.declared.stack.StackEntry.{StackEntry}
use Rattle.provisional_cache.specs.declared.ProvisionalCacheEntry.{ProvisionalCacheEntry}
use Rattle.provisional_cache.specs.declared.RebaseReason.{RebaseReason}
use Rattle.provisional_cache.specs.EntryChange.{change_of, changed_by}
use Rattle.search_stack.specs.Cycle.{path_kind_from}

-- the heads but the highest one
abbrev pub but_highest : Heads → Heads
but_highest heads = take (length heads - 1) heads

-- the heads with those of the goal that is done, over the path of no step and without usages
abbrev pub with_unused : Heads → Heads → Heads
with_unused done own = fold (λ heads head. with_head heads head.0 path_of_no_step no_usages) own done

-- the heads with those of the goal that is done, with its usages, over the paths to it followed by the
-- paths from it to the head
abbrev pub with_used : Heads → PathsToNested → Heads → Heads
with_used done to_done own =
    fold (λ heads head. with_head heads head.0 (extended_by_each to_done head.1.paths_to_head) head.1.usages) own done

-- whether the way from a head over the goal that is done and back to the head is of the same kind if it leads over the
-- entry, too, and from there to that goal again
abbrev pub keeps_kind : (from_head to_entry to_done to_head : PathKind) → Bool
keeps_kind from_head to_entry to_done to_head =
    nat_eq (rank_of (greater_kind from_head to_head))
    (rank_of (greater_kind (greater_kind (greater_kind from_head to_entry) to_done) to_head))

module _ {X I R A T : Type 0} where
  -- what becomes of an entry that used the goal that is done for this reason
  abbrev pub changed_for : (A → R) → R → RebaseReason X I R A T → HeadUsages → ProvisionalCacheEntry X I R A T
      → Option (ProvisionalCacheEntry X I R A T)
  changed_for propagated overflow reason = changed_by (change_of propagated overflow reason)

  module _ (stack : List (StackEntry X I R A T)) (done : StackEntry X I R A T) where
    -- the kind of the path from a head through the step by which the goal that is done was asked
    abbrev pub from_head : ℕ → PathKind
    from_head depth = path_kind_from stack depth done.step_kind_from_parent

    -- whether each way over the goal that is done keeps its kind, for each of its heads and all
    -- paths but that of no step
    abbrev pub keeps_kinds : PathKind → PathsToNested → Bool
    keeps_kinds to_entry to_done = list_all (λ head.
        list_all (λ to_head. list_all (λ own. keeps_kind (from_head head.0.0) to_entry own to_head) (kinds_in to_done))
        (kinds_in head.1.paths_to_head))
        done.state.heads

    -- the entry with the path from its new highest head; without heads it is dropped
    abbrev pub from_new_head : ProvisionalCacheEntry X I R A T → Option (ProvisionalCacheEntry X I R A T)
    from_new_head entry =
        option_map (λ head. record entry { path_from_head = greater_kind entry.path_from_head (from_head head.0.0) })
        (highest entry.heads)

    -- an entry whose highest head is the goal that is done, where it didn't use that head: its result stays, and the
    -- heads of that goal take the head's place
    abbrev pub rebased_unused : ProvisionalCacheEntry X I R A T → Option (ProvisionalCacheEntry X I R A T)
    rebased_unused entry =
        from_new_head (record entry { heads = with_unused done.state.heads (but_highest entry.heads) })

    -- and where it did: each cycle must keep its kind, and the reason says what becomes of the result
    abbrev pub rebased_used : (HeadUsages → ProvisionalCacheEntry X I R A T → Option (ProvisionalCacheEntry X I R A T))
        → ProvisionalCacheEntry X I R A T → CycleHead → Option (ProvisionalCacheEntry X I R A T)
    rebased_used change_entry entry head =
        if keeps_kinds entry.path_from_head head.paths_to_head
        then option_and_then
        (λ e. from_new_head (record e { heads = with_used done.state.heads head.paths_to_head (but_highest e.heads) }))
        (change_entry head.usages entry)
        else None

    -- what becomes of an entry with this highest head
    abbrev pub rebased_at : (HeadUsages → ProvisionalCacheEntry X I R A T → Option (ProvisionalCacheEntry X I R A T))
        → ProvisionalCacheEntry X I R A T → Option (StackDepth × CycleHead) → Option (ProvisionalCacheEntry X I R A T)
    rebased_at change_entry entry None = Some entry
    rebased_at change_entry entry (Some head) =
        if nat_eq head.0.0 (length stack)
        then (if has_usages head.1.usages then rebased_used change_entry entry head.1 else rebased_unused entry)
        else Some entry

    -- what becomes of an entry: one whose highest head is another one stays
    abbrev pub rebased : (HeadUsages → ProvisionalCacheEntry X I R A T → Option (ProvisionalCacheEntry X I R A T))
        → ProvisionalCacheEntry X I R A T → Option (ProvisionalCacheEntry X I R A T)
    rebased change_entry entry = rebased_at change_entry entry (highest entry.heads)

  -- what is left of an entry: one without heads is dropped
  abbrev pub left_of : ProvisionalCacheEntry X I R A T → Option (ProvisionalCacheEntry X I R A T)
  left_of entry = option_map (λ _. entry) (highest entry.heads)

  -- the entry rests on a head, and its heads are on a stack of this length or at the place above it
  pub record CanBeRebased (size : ℕ) (entry : ProvisionalCacheEntry X I R A T) : Type 0 where
    pub some : entry.heads ≢ []
    pub within : All (λ head. head.0.0 ≤ size) entry.heads

-- what a list was left as, of which so much should be left: it may be given up where nothing should be left, and where
-- it stays and has an element, it is what should be left
pub record IsLeft {E : Type 0} (stays : Bool) (new becomes : List E) : Type 0 where
  pub gone : stays ≡ false → becomes ≡ []
  pub left : stays ≡ true → new ≢ [] → new ≡ becomes
