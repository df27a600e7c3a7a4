-- Which provisional entries may be used when their goal is asked again, and which are cleared when a goal is rerun.
use Rattle.std.specs.Prelude.{ℕ, ◌-◌, nat_lt, nat_eq, Bool, false, not, ◌&&◌, ◌||◌, List, [], length, slice_get}
use Rattle.std.specs.Option.{option_map, unwrap_or}
use Rattle.provisional_cache.specs.Below.{PathKind, CycleHead, StackDepth, Heads, highest, lowest, rank_of, has_usages}
use Rattle.search_stack.specs.declared.stack.StackEntry.{StackEntry}
use Rattle.provisional_cache.specs.declared.ProvisionalCacheEntry.{ProvisionalCacheEntry}
use Rattle.search_stack.specs.Cycle.{path_kind_from}

-- whether the highest head, which is at this depth, passes the test
abbrev pub highest_passes : (ℕ → CycleHead → Bool) → Heads → Bool
highest_passes test heads = unwrap_or (option_map (λ h. test h.0.0 h.1) (highest heads)) false

-- whether there is a head at the depth or below it: the lowest one tells
abbrev pub has_head_up_to : ℕ → Heads → Bool
has_head_up_to depth heads = unwrap_or (option_map (λ h. not (nat_lt depth h.0.0)) (lowest heads)) false

-- whether the highest head is at the depth, and was used
abbrev pub is_used_at : StackDepth → Heads → Bool
is_used_at depth heads = highest_passes (λ at head. nat_eq at depth.0 && has_usages head.usages) heads

module _ {X I R A T : Type 0} where
  -- the heads of the last goal on the stack, which is the one that asks
  abbrev pub asking_heads : List (StackEntry X I R A T) → Heads
  asking_heads stack = unwrap_or (option_map (λ e. e.state.heads) (slice_get stack (length stack - 1))) []

  -- whether the entry may be used on this stack for its goal, asked over the step: the path from its highest head is of
  -- the kind that it was, and where it met overflow, the asking goal has a head at that head or below it
  abbrev pub may_be_used : List (StackEntry X I R A T) → PathKind → ProvisionalCacheEntry X I R A T → Bool
  may_be_used stack step entry = highest_passes (λ at _.
      (not entry.encountered_overflow || has_head_up_to at (asking_heads stack))
      && nat_eq (rank_of entry.path_from_head) (rank_of (path_kind_from stack at step))) entry.heads

  -- whether the entry rests on the result of the goal at the depth
  abbrev pub depends_on : StackDepth → ProvisionalCacheEntry X I R A T → Bool
  depends_on depth entry = is_used_at depth entry.heads
