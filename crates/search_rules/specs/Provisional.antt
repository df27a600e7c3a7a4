-- The provisional entries: why each of them may be used, and what becomes of them when the newest goal is popped.
use Rattle.std.specs.Prelude.{◌≡◌, ◌≢◌, ◌⊎◌, ◌&&◌, ℕ, Bool, false, if◌then◌else◌, List, [], ◌∷◌, ◌++◌, length, map}
use Rattle.std.specs.Prelude.{reverse, All, IsSome, Option, None, Some}
use Rattle.std.specs.List.{filter_map}
use Rattle.search_rules.specs.Below.{CxOf, DelegateOf, verdicts, Heads, IsTrueReason, StackDepth, PathKind, at_depth}
use Rattle.search_rules.specs.Below.{highest, IsRising, stack_of, NodeId, Request, Reply, EvaluationResult, OpenGoal}
use Rattle.search_rules.specs.Below.{StackEntry, ProvisionalCacheEntry, RebaseReason, CacheNode, HasNode, shapes_of}
use Rattle.search_rules.specs.Below.{path_kind_from, IsDefinite, Lists, entries_at, HasNoRank, rebased, changed_for}
use Rattle.search_rules.specs.Below.{verdict_of, Run, Verdicts}
use Rattle.search_rules.specs.Justified.{AreJustified, OpenRun, frame_of, frames_of}
use Rattle.search_rules.specs.EntryShapes.{entry_shape, HoldsOver, reason_shape}
use Rattle.search_rules.specs.Results.{final_answer}
use Rattle.search_rules.specs.Runs.{HasNewestNode, run_of, runs_of}
use Rattle.search_rules.specs.Tallies.{counted}

-- the goal at this place was used as a head, or is among the heads of a goal above it
abbrev pub IsHead : {I R : Type 0} → List (OpenRun I R) → StackDepth → Type 0
IsHead [] head = ⊥
IsHead (o ∷ below) head = IsSome (counted (length below) o.tally head) ⊎ IsHead below head

module _ {X I R A T : Type 0} where
  -- A definite entry has a node of the goal, by which it may be used over these goals.
  abbrev pub IsReusable : Verdicts R → List (CacheNode I R) → List (OpenRun I R) → I
      → ProvisionalCacheEntry X I R A T → Type 0
  IsReusable says nodes goals goal entry = HasNode says nodes
      (λ verdict n. HoldsOver (shapes_of says nodes) (stack_of (frames_of says goals)) (entry_shape says entry n))
      goal entry.result entry.node

  -- The entry may be used for the goal, and rests on heads, all of which are of this kind. The goal is in a
  -- cycle, so it has no rank.
  pub record RestsOn (says : Verdicts R) (scripts : I → List (Reply R) → Request I R) (nodes : List (CacheNode I R))
      (goals : List (OpenRun I R)) (is_head : StackDepth → Type 0) (goal : I)
      (entry : ProvisionalCacheEntry X I R A T) : Type 0 where
    pub reusable : IsReusable says nodes goals goal entry
    pub some : entry.heads ≢ []
    pub rising : IsRising entry.heads
    pub are_heads : (head : StackDepth) → IsSome (at_depth entry.heads head) → is_head head
    pub no_rank : HasNoRank scripts goal

  -- the entry rests on heads of these goals
  abbrev pub IsReady : Verdicts R → (I → List (Reply R) → Request I R) → List (CacheNode I R) → List (OpenRun I R) → I
      → ProvisionalCacheEntry X I R A T → Type 0
  IsReady says scripts nodes goals = RestsOn says scripts nodes goals (IsHead goals)

  -- each entry may be used for its goal
  abbrev pub AreReady : (says : Verdicts R) → (I → I → Bool) → (I → List (Reply R) → Request I R) → List (CacheNode I R)
      → List (OpenRun I R) → Lists I (ProvisionalCacheEntry X I R A T) → Type 0
  AreReady says same scripts nodes goals lists =
      (goal : I) → All (IsReady says scripts nodes goals goal) (entries_at same lists goal)

  -- the entry may be used over these goals, and each of its heads is one of theirs or of a goal that was above
  -- them, with these heads
  abbrev pub IsLeftOver : Verdicts R → (I → List (Reply R) → Request I R) → List (CacheNode I R) → List (OpenRun I R)
      → Heads → I → ProvisionalCacheEntry X I R A T → Type 0
  IsLeftOver says scripts nodes goals heads =
      RestsOn says scripts nodes goals (λ head. IsHead goals head ⊎ IsSome (at_depth heads head))

  -- none of the entries met overflow
  abbrev pub EntriesMetNone : (I → I → Bool) → Lists I (ProvisionalCacheEntry X I R A T) → Type 0
  EntriesMetNone same lists =
      (goal : I) → All (λ entry. entry.encountered_overflow ≡ false) (entries_at same lists goal)

  -- each of the entries is yes or no
  abbrev pub EntriesDefinite : (says : Verdicts R) → (I → I → Bool) → Lists I (ProvisionalCacheEntry X I R A T) → Type 0
  EntriesDefinite says same lists =
      (goal : I) → All (λ entry. IsDefinite says entry.result) (entries_at same lists goal)

  -- the entries of a goal, once a goal is done that is popped from above the stack: where it was used as a head, the
  -- reason tells how they are rebased
  abbrev pub rebased_for : (A → R) → R → Option (RebaseReason X I R A T) → List (StackEntry X I R A T)
      → StackEntry X I R A T → List (ProvisionalCacheEntry X I R A T) → List (ProvisionalCacheEntry X I R A T)
  rebased_for propagated overflow None stack done entries = entries
  rebased_for propagated overflow (Some reason) stack done entries =
      filter_map (rebased stack done (changed_for propagated overflow reason)) entries

  -- the entry for an answer that was asked over the step and whose highest head is this one
  abbrev pub entry_of : List (StackEntry X I R A T) → ℕ → PathKind
      → EvaluationResult X I R A T → ProvisionalCacheEntry X I R A T
  entry_of stack head step answer = record {
    encountered_overflow = answer.encountered_overflow;
    heads = answer.heads;
    path_from_head = path_kind_from stack head step;
    result = answer.result;
    node = answer.node;
  }

  -- the entry for an answer that was asked over the step and rests on goals of the stack; another one has none
  abbrev pub entries_for : List (StackEntry X I R A T) → PathKind → EvaluationResult X I R A T
      → List (ProvisionalCacheEntry X I R A T)
  entries_for stack step answer = elim (highest answer.heads) [
    | None ↦ []
    | Some head ↦ entry_of stack head.0.0 step answer ∷ []
  ]

  module _ {F : Type 0} where
    -- The newest goal was popped with this result: the entries that rest on it are rebased for the reason, and its own
    -- answer is an entry, if it rests on a goal below, and if the delegate lets such entries be used.
    pub record RebasesEntries (same : I → I → Bool) (enabled : Bool) (propagated : I → A → R) (overflow : I → R)
        (reason : Option (RebaseReason X I R A T)) (r : R) (s : OpenGoal X F I R A T)
        (below : List (OpenGoal X F I R A T)) (old new : Lists I (ProvisionalCacheEntry X I R A T)) : Type 0 where
      pub node : Option NodeId
      pub entries :
          (goal : I)
          → entries_at same new goal
          ≡ rebased_for (propagated goal) (overflow goal) reason
          (reverse (map (λ s. s.0) below)) s.0 (entries_at same old goal)
          ++ (if enabled && same s.0.input goal
          then entries_for (reverse (map (λ s. s.0) below)) s.0.step_kind_from_parent (final_answer s r node) else [])

    -- the same of the newest one of the goals, whose answer has this node
    abbrev pub RebasesNewest : (I → I → Bool) → Bool → (I → A → R) → (I → R) → Option (RebaseReason X I R A T) → R
        → Option NodeId → List (OpenGoal X F I R A T) → (old new : Lists I (ProvisionalCacheEntry X I R A T)) → Type 0
    RebasesNewest same enabled propagated overflow reason r target [] old new = ⊥
    RebasesNewest same enabled propagated overflow reason r target (s ∷ below) old new =
        (rebases : RebasesEntries same enabled propagated overflow reason r s below old new) × (rebases.node ≡ target)

    -- The reason is true of the newest goal, which came to this result. Without one, the goal was not used as a head.
    abbrev pub HasReason : (says : Verdicts R) → Option (RebaseReason X I R A T)
        → List (OpenGoal X F I R A T) → R → Type 0
    HasReason says reason [] r = ⊥
    HasReason says None (s ∷ below) r = s.0.state.usages ≡ None
    HasReason says (Some reason) (s ∷ below) r =
        IsTrueReason (reason_shape reason) (verdict_of says r) (frame_of says (run_of s)).entry

    -- the newest goal has no rank, if it rests on a goal below
    abbrev pub IsNewestUnranked : (I → List (Reply R) → Request I R) → List (OpenGoal X F I R A T) → Type 0
    IsNewestUnranked scripts [] = ⊥
    IsNewestUnranked scripts (s ∷ below) = s.0.state.heads ≢ [] → HasNoRank scripts s.0.input

    -- The newest goal is done with this result: all was justified while it was there, its result has its node,
    -- and the reason is true.
    pub record IsWorkedOut (says : Verdicts R) (nodes after : List (CacheNode I R))
        (reason : Option (RebaseReason X I R A T)) (r : R) (s : OpenGoal X F I R A T)
        (below : List (OpenGoal X F I R A T)) : Type 0 where
      pub justified : AreJustified says nodes (runs_of (s ∷ below))
      pub node : Option NodeId
      pub has_node : HasNewestNode says nodes after (s ∷ below) r node
      pub is_reason : HasReason says reason (s ∷ below) r

-- Why it is right to rebase for the reason: where each entry could be used while the goal that is done was on the
-- stack, each one that is left can be used without it.
abbrev pub LeavesReady : {D C V P F I R A T : Type 0} → DelegateOf D C V P F I R A T → CxOf C I R A T → (I → I → Bool)
    → C → Option (RebaseReason C I R A T) → StackEntry C I R A T → List (StackEntry C I R A T)
    → (old new : Lists I (ProvisionalCacheEntry C I R A T)) → Type 0
LeavesReady {F = F} {I = I} {R = R} G X same cx reason done stack old new =
    (run : Run _ F I R _ _) (below : List (StackEntry _ I R _ _ × Run _ F I R _ _))
    (nodes after : List (CacheNode I R)) (r : R)
    → IsWorkedOut (verdicts X) nodes after reason r (done, run) below → stack ≡ reverse (map (λ s. s.0) below)
    → AreReady (verdicts X) same (G.script cx) nodes (runs_of ((done, run) ∷ below)) old
    → (goal : I)
    → All (IsLeftOver (verdicts X) (G.script cx) after (runs_of below) done.state.heads goal) (entries_at same new goal)
