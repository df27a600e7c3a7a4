-- What changes of a goal's entry while the goal is worked out.
use Rattle.std.specs.Prelude.{◌≡◌, ℕ, ◌+◌, ◌==◌, max, if◌then◌else◌, Bool, true, false, ◌||◌, is_some, [], ◌∷◌, Option}
use Rattle.std.specs.Prelude.{None, Some, unwrap_or}
use Rattle.goal_changes.specs.Below.{NodeId, PathKind, StackDepth, AvailableDepth, CycleHead, HeadUsages, EntryState}
use Rattle.goal_changes.specs.Below.{StackEntry, UsagesByHead, with_noted, Heads, at_depth, joined_head, with_head}
use Rattle.goal_changes.specs.Below.{NestedPaths, extended, paths_of, fresh_entry, no_usages, with_nested, with_usage}
use Rattle.std.specs.Option.{option_map}

-- whether there are heads
abbrev pub some_heads : Heads → Bool
some_heads [] = false
some_heads (head ∷ heads) = true

-- a head of an answer over the step, among a goal's own heads, if it is there
abbrev pub joined_over : PathKind → Option CycleHead → Option CycleHead → Option CycleHead
joined_over step own None = own
joined_over step own (Some used) = Some (joined_head own (extended used.paths_to_head step) used.usages)

-- the usages of a goal that an answer rests on, if it does
abbrev pub usages_over : Option HeadUsages → Option CycleHead → Option HeadUsages
usages_over own None = own
usages_over own (Some used) = Some (with_nested (unwrap_or own no_usages) used.usages)

-- what the open candidate used, if there is one, with one head of an answer more
abbrev pub candidate_over : Option UsagesByHead → StackDepth → CycleHead → Option UsagesByHead
candidate_over candidate head used = option_map (λ counts. with_noted counts head used.usages) candidate

-- what a cycle over the step records of its head
abbrev pub cycle_head : (step kind : PathKind) → CycleHead
cycle_head step kind = record { paths_to_head = paths_of step; usages = with_usage no_usages kind }

module _ {X I R A T : Type 0} where
  -- a question of the goal was refused
  abbrev pub overflowed : StackEntry X I R A T → StackEntry X I R A T
  overflowed e = record e { state = record e.state { encountered_overflow = true } }

  -- the entry of a goal that is pushed, with the node of its first run
  abbrev pub first_entry : I → PathKind → AvailableDepth → NodeId → StackEntry X I R A T
  first_entry goal kind depth own =
      record (fresh_entry goal kind depth) { state = record (fresh_entry goal kind depth).state { node = Some own } }

  -- the state with the depth that an answer required
  abbrev pub with_depth : EntryState X I R A T → ℕ → Bool → EntryState X I R A T
  with_depth s required overflow = record s {
    required_depth = max s.required_depth (required + 1);
    encountered_overflow = s.encountered_overflow || overflow;
  }

  -- the state with these goals below the entry's goal
  abbrev pub with_nested_goals : EntryState X I R A T → NestedPaths I → EntryState X I R A T
  with_nested_goals s goals = record s { nested_goals = goals }

  -- whether the goal rests on goals under evaluation, perhaps on itself
  abbrev pub is_in_cycle : EntryState X I R A T → Bool
  is_in_cycle s = is_some s.usages || some_heads s.heads

  -- the state of the entry at `parent` with one head of an answer over the step
  abbrev pub with_used_head : StackDepth → PathKind → StackDepth → CycleHead
      → EntryState X I R A T → EntryState X I R A T
  with_used_head parent step head used s =
      if head.0 == parent.0 then record s {
        usages = usages_over s.usages (Some used);
        candidate_usages = candidate_over s.candidate_usages head used;
      }
      else record s {
        heads = with_head s.heads head (extended used.paths_to_head step) used.usages;
        candidate_usages = candidate_over s.candidate_usages head used;
      }

  -- The state of the entry at `parent` takes over the heads of an answer over the step: its own place adds to its
  -- usages, and each other head is joined to its heads. The open candidate counts each of them.
  pub record TakesHeads (parent : StackDepth) (step : PathKind) (answer : Heads)
      (old new : EntryState X I R A T) : Type 0 where
    pub others : new ≡ record old { heads = new.heads; usages = new.usages; candidate_usages = new.candidate_usages }
    pub usages : new.usages ≡ usages_over old.usages (at_depth answer parent)
    pub heads : (depth : StackDepth) → at_depth new.heads depth ≡ (if depth.0 == parent.0 then at_depth old.heads depth
        else joined_over step (at_depth old.heads depth) (at_depth answer depth))
    pub in_candidate : (depth : StackDepth) → option_map (λ counts. at_depth counts depth) new.candidate_usages
        ≡ option_map (λ counts. usages_over (at_depth counts depth) (at_depth answer depth)) old.candidate_usages
    pub in_cycle : is_in_cycle new ≡ (is_in_cycle old || some_heads answer)

  -- the same, with the depth that the answer required; the goals below the entry's goal may change too
  abbrev pub TakesAnswer : StackDepth → PathKind → ℕ → Bool → Heads
      → EntryState X I R A T → EntryState X I R A T → Type 0
  TakesAnswer parent step required overflow answer old new =
      TakesHeads parent step answer (with_nested_goals (with_depth old required overflow) new.nested_goals) new

  -- the state of a goal that is run again under a result, with the node to which the answers of its cycles lead
  abbrev pub rerun_under : R → Option NodeId → EntryState X I R A T → EntryState X I R A T
  rerun_under r target s = record s {
    provisional_result = Some r;
    encountered_overflow = false;
    usages = Some no_usages;
    candidate_usages = None;
    node = target;
  }
