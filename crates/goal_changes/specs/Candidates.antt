-- The candidates of the newest goal: what changes of its state and of its run when one is opened, finished or ignored.
use Rattle.std.specs.Prelude.{◌≡◌, ℕ, ◌≤◌, ◌==◌, if◌then◌else◌, is_some, true, List, [], ◌∷◌, ◌++◌, length, slice_get}
use Rattle.std.specs.Prelude.{slice_set, Option, None, Some, unwrap_or}
use Rattle.std.specs.Option.{IsSomeAnd, option_map}
use Rattle.goal_changes.specs.Below.{StackDepth, CycleHead, PathKind, HeadUsages, UsagesByHead, Heads, at_depth}
use Rattle.goal_changes.specs.Below.{replace_head, count_of, without_usages, Request, EnterCandidate, FinishCandidate}
use Rattle.goal_changes.specs.Below.{Ignore, EntryState, StackEntry, Run}
use Rattle.goal_changes.specs.Entries.{is_in_cycle}
use Rattle.goal_changes.specs.Newest.{change_newest}
use Rattle.goal_changes.specs.OpenGoal.{OpenGoal}

-- the counts hold these usages
abbrev pub Covers : HeadUsages → HeadUsages → Type 0
Covers counts usages = (kind : PathKind) → count_of usages kind ≤ count_of counts kind

-- the counts without usages, if there are any
abbrev pub less_usages : HeadUsages → Option HeadUsages → HeadUsages
less_usages counts None = counts
less_usages counts (Some usages) = without_usages counts usages

-- the head without usages, if there are any
abbrev pub less_head : Option HeadUsages → CycleHead → CycleHead
less_head usages known = record known { usages = less_usages known.usages usages }

-- the heads with another one at a depth, if there is one
abbrev pub with_replaced : Heads → StackDepth → Option CycleHead → Heads
with_replaced heads depth None = heads
with_replaced heads depth (Some head) = replace_head heads depth head

module _ {X I R A T : Type 0} where
  -- how often the entry at `parent` counts a goal on the stack: its own, or one of its heads
  abbrev pub usages_at : StackDepth → EntryState X I R A T → StackDepth → Option HeadUsages
  usages_at parent s head =
      if head.0 == parent.0 then s.usages else option_map (λ known. known.usages) (at_depth s.heads head)

  -- the state of the entry at `parent` without usages of one goal
  abbrev pub without_head : StackDepth → StackDepth → HeadUsages → EntryState X I R A T → EntryState X I R A T
  without_head parent head usages s =
      if head.0 == parent.0 then record s { usages = option_map (λ own. without_usages own usages) s.usages }
      else record s {
        heads = with_replaced s.heads head (option_map (less_head (Some usages)) (at_depth s.heads head));
      }

  -- all that the candidate used is counted by the entry at `parent`
  abbrev pub CanIgnore : StackDepth → UsagesByHead → EntryState X I R A T → Type 0
  CanIgnore parent candidate s =
      (head : StackDepth) (usages : HeadUsages) → at_depth candidate head ≡ Some usages
      → IsSomeAnd (usages_at parent s head) (λ counts. Covers counts usages)

  -- The entry at `parent` doesn't count any more what the candidate used: of its own goal, and of
  -- its heads, which stay.
  pub record Ignores (parent : StackDepth) (candidate : UsagesByHead) (old new : EntryState X I R A T) : Type 0 where
    pub others : new ≡ record old { heads = new.heads; usages = new.usages }
    pub usages : new.usages ≡ option_map (λ own. less_usages own (at_depth candidate parent)) old.usages
    pub heads :
        (depth : StackDepth)
        → at_depth new.heads depth
        ≡ (if depth.0 == parent.0 then at_depth old.heads depth
        else option_map (less_head (at_depth candidate depth)) (at_depth old.heads depth))
    pub in_cycle : is_in_cycle new ≡ is_in_cycle old

module _ {X F I R A T : Type 0} where
  -- a candidate of the goal is open, which used nothing yet
  abbrev pub enters : OpenGoal X F I R A T → OpenGoal X F I R A T
  enters s = (record s.0 { state = record s.0.state { candidate_usages = Some [] } }, s.1)

  -- no candidate of the goal is open
  abbrev pub leaves : OpenGoal X F I R A T → OpenGoal X F I R A T
  leaves s = (record s.0 { state = record s.0.state { candidate_usages = None } }, s.1)

  -- one more candidate of the goal is finished
  abbrev pub records_candidate : UsagesByHead → OpenGoal X F I R A T → OpenGoal X F I R A T
  records_candidate candidate s = (s.0, record s.1 { candidates = s.1.candidates ++ candidate ∷ [] })

  -- the open candidate of the goal is finished
  abbrev pub finishes : OpenGoal X F I R A T → OpenGoal X F I R A T
  finishes s = records_candidate (unwrap_or s.0.state.candidate_usages []) (leaves s)

  -- all that the candidate used is counted by the newest goal
  abbrev pub CanIgnoreUsages : UsagesByHead → List (OpenGoal X F I R A T) → Type 0
  CanIgnoreUsages candidate [] = ⊥
  CanIgnoreUsages candidate (s ∷ below) = CanIgnore (record { 0 = length below }) candidate s.0.state

  -- the newest goal doesn't count it any more
  pub record IgnoresUsages (candidate : UsagesByHead) (old new : List (OpenGoal X F I R A T)) : Type 0 where
    pub entry : StackEntry X I R A T
    pub run : Run X F I R A T
    pub below : List (OpenGoal X F I R A T)
    pub state : EntryState X I R A T
    pub was : old ≡ (entry, run) ∷ below
    pub is : new ≡ (record entry { state = state }, run) ∷ below
    pub ignores : Ignores (record { 0 = length below }) candidate entry.state state

  -- the newest goal's candidate of this number is finished, and all that it used is counted
  abbrev pub CanIgnoreNewest : ℕ → List (OpenGoal X F I R A T) → Type 0
  CanIgnoreNewest number [] = ⊥
  CanIgnoreNewest number (s ∷ below) = IsSomeAnd (slice_get s.1.candidates number)
      (λ candidate. CanIgnore (record { 0 = length below }) candidate s.0.state)

  -- the newest goal's candidate of this number is ignored: what it used isn't counted any more, and
  -- won't be taken away again
  pub record IgnoresNewest (number : ℕ) (old new : List (OpenGoal X F I R A T)) : Type 0 where
    pub entry : StackEntry X I R A T
    pub run : Run X F I R A T
    pub below : List (OpenGoal X F I R A T)
    pub candidate : UsagesByHead
    pub state : EntryState X I R A T
    pub was : old ≡ (entry, run) ∷ below
    pub is_at : slice_get run.candidates number ≡ Some candidate
    pub is :
        new ≡ (record entry { state = state }, record run { candidates = slice_set run.candidates number [] }) ∷ below
    pub ignores : Ignores (record { 0 = length below }) candidate entry.state state

  -- what the newest goal's frame, if there is one, requested of its candidates can be done
  abbrev pub CanNote : Request I R → List (OpenGoal X F I R A T) → Type 0
  CanNote request [] = Unit {0}
  CanNote EnterCandidate (s ∷ below) = Unit {0}
  CanNote FinishCandidate (s ∷ below) = is_some s.0.state.candidate_usages ≡ true
  CanNote (Ignore number) (s ∷ below) = CanIgnoreNewest number (s ∷ below)
  CanNote _ (s ∷ below) = Unit {0}

  -- it was done
  abbrev pub NotesCandidate : Request I R → List (OpenGoal X F I R A T) → List (OpenGoal X F I R A T) → Type 0
  NotesCandidate EnterCandidate old new = new ≡ change_newest enters old
  NotesCandidate FinishCandidate old new = new ≡ change_newest finishes old
  NotesCandidate (Ignore number) old new = IgnoresNewest number old new
  NotesCandidate _ old new = new ≡ old
