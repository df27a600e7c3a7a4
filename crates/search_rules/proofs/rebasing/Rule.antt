-- What the rule of rebasing leaves of a provisional entry is what the theory of open graphs allows once
-- the newest goal is done.
use Rattle.std.proofs.Common.{◌≡◌, ◌≢◌, ℕ, max, ◌<◌, ◌≤◌, true, false, IsTrue, List, [], ◌∷◌, length, map, reverse}
use Rattle.std.proofs.Common.{Option, Some, None, IsSome, All, refl, sym, ap, ◌∙◌, subst, inl, inr, arith}
use Rattle.std.proofs.lemmas.Bool.{cases_eq, false≢true}
use Rattle.std.proofs.lemmas.List.{length-map, length-reverse}
use Rattle.std.proofs.lemmas.List.Elements.{All-head, All-tail}
use Rattle.open_graphs.specs.Graph as theory
use Rattle.search_rules.specs.Below.{Entry, path_kind, stack_of, AreDepths, HasResult, InsertsEmpty, InsertsHeads}
use Rattle.search_rules.specs.Below.{IsTakenOut, IsTrueReason, IsRebasable, IsLeftHead, RebasedBy, Stays, NotNeeded}
use Rattle.search_rules.specs.Below.{Needed, StackDepth, PathsToNested, CycleHead, HeadUsages, Heads, at_depth, highest}
use Rattle.search_rules.specs.Below.{IsRising, head_shape, heads_shape, rank_of, extended_by_each, path_of_no_step}
use Rattle.search_rules.specs.Below.{has_usages, no_usages, OpenGoal, StackEntry, ProvisionalCacheEntry, RebaseReason}
use Rattle.search_rules.specs.Below.{CanBeRebased, but_highest, from_head, keeps_kinds, rebased, changed_for, with_used}
use Rattle.search_rules.specs.Below.{with_unused, verdict_of, Verdicts}
use Rattle.path_kinds.proofs.PathRanks.{greater_rank}
use Rattle.search_rules.specs.Words.{frame_of, frames_of, depths_of, highest_depth, entry_shape, reason_shape, run_of}
use Rattle.search_rules.specs.Words.{runs_of, LieBelow}
use Rattle.search_rules.proofs.answers.Cycles.{path_kind_is}
use Rattle.search_rules.proofs.rebasing.HeadOrder.{Ascends, ascends, at_later, at_most_highest}
use Rattle.search_rules.proofs.rebasing.HeadOrder.{highest_there, no_highest}
use Rattle.search_rules.proofs.justified.Justified.{stack_length}
use Rattle.search_rules.proofs.rebasing.Cases.{HasNewHead, IsRebased, NotUsed, Still, Used, is_rebased}
use Rattle.search_rules.proofs.rebasing.Paths.{is_changed, is_zero, not_zero, passes_path_test}
use Rattle.search_rules.proofs.rebasing.Shapes.{inserts_empty, inserts_heads, left_there, new_ascends, popped_head}
use Rattle.search_rules.proofs.rebasing.Shapes.{there_left, with_all}

-- ---- heads by depth

head_used : (o : Option CycleHead) (cycle : ℕ) → (head_shape o).usages cycle ≢ 0 → IsSome o
head_used None cycle some = absurd (some refl)
head_used (Some head) cycle some = refl

head_reached : (o : Option CycleHead) (path : ℕ) → IsTrue ((head_shape o).paths path) → IsSome o
head_reached None path has = absurd (false≢true has)
head_reached (Some head) path has = refl

-- the depths at which heads are recorded are those of the heads in the theory's words
pub are_depths : (heads : Heads) → AreDepths (depths_of heads) (heads_shape heads)
are_depths heads = record {
  paths = λ depth path has. head_reached (at_depth heads (record { 0 = depth })) path has;
  usages = λ depth cycle some. head_used (at_depth heads (record { 0 = depth })) cycle some;
}

pub highest_is : (heads : Heads) (top : StackDepth × CycleHead)
    → highest heads ≡ Some top → highest_depth heads ≡ top.0.0
highest_is heads top is = ap (λ (o : Option (StackDepth × CycleHead)). elim o [ None ↦ 0 | Some head ↦ head.0.0 ]) is

-- ---- what becomes of an entry

module _ {X I R A T : Type 0} (says : Verdicts R)
    (stack : List (StackEntry X I R A T)) (done : StackEntry X I R A T) where
  module _ (below : List Entry) (top : Entry) (many : length stack ≡ length below)
      (kinds : (depth : ℕ) → rank_of (from_head stack done depth) ≡ path_kind below top.step depth)
      (lower : LieBelow (length stack) done.state.heads) where
    lower_there : LieBelow (length below) done.state.heads
    lower_there = subst (λ n. LieBelow n done.state.heads) many lower

    -- ---- the place of the goal that is done is taken out

    module _ (paths : CycleHead → PathsToNested) (usages : CycleHead → HeadUsages)
        (entry middle after : ProvisionalCacheEntry X I R A T) (head : StackDepth × CycleHead)
        (asc : Ascends entry.heads) (top_is : highest entry.heads ≡ Some head) (at : head.0.0 ≡ length below) where
      taken_out : HasNewHead stack done middle after
          → middle.heads ≡ with_all paths usages done.state.heads (but_highest entry.heads)
          → middle.path_from_head ≡ entry.path_from_head
          → (n : ℕ) → IsTakenOut below top (depths_of entry.heads) (depths_of done.state.heads)
          (entry_shape says entry n) (entry_shape says after n)
      taken_out new heads_are path_is n =
          let after_heads : after.heads ≡ with_all paths usages done.state.heads (but_highest entry.heads) =
          new.same_heads ∙ heads_are in
          let after_ascends : Ascends after.heads = subst Ascends (sym after_heads)
          (new_ascends paths usages entry.heads done.state.heads head (length below) asc top_is at lower_there) in
          let depth_is : highest_depth after.heads ≡ new.head.0.0 = highest_is after.heads new.head new.is_highest in
          let left : (depth : StackDepth) → IsSome (at_depth after.heads depth)
          → IsLeftHead (length below) (depths_of entry.heads) (depths_of done.state.heads) depth.0 = λ depth some.
          left_there paths usages entry.heads done.state.heads head (length below) asc top_is at lower_there depth
          (subst (λ h. IsSome (at_depth h depth)) after_heads some) in
          record {
            was = highest_is entry.heads head top_is ∙ at;
            same_node = refl;
            path =
                ap rank_of new.path
                ∙ sym (greater_rank middle.path_from_head (from_head stack done new.head.0.0))
                ∙ (λ i. max (rank_of (path_is i)) (kinds new.head.0.0 i))
                ∙ ap (λ n. max (rank_of entry.path_from_head) (path_kind below top.step n)) (sym depth_is);
            is_head =
                subst (IsLeftHead (length below) (depths_of entry.heads) (depths_of done.state.heads)) (sym depth_is)
                (left new.head.0
                (subst IsSome (sym (highest_there after.heads new.head after_ascends new.is_highest)) refl));
            highest = λ depth is. subst (λ n. depth ≤ n) (sym depth_is)
                (at_most_highest after.heads new.head after_ascends new.is_highest (record { 0 = depth })
                (subst (λ h. IsSome (at_depth h (record { 0 = depth }))) (sym after_heads) (there_left paths usages
                entry.heads done.state.heads head (length below) asc top_is at lower_there depth is)));
            only = λ depth cycle some.
                left (record { 0 = depth }) (head_used (at_depth after.heads (record { 0 = depth })) cycle some);
          }

    -- ---- the rule

    module _ (propagated : A → R) (overflow : R)
        (unsure : (info : A) → verdict_of says (propagated info) ≡ theory.Neither)
        (overflow_unsure : verdict_of says overflow ≡ theory.Neither) (reason : RebaseReason X I R A T)
        (entry after : ProvisionalCacheEntry X I R A T) (n : ℕ) where
      -- the rule in the theory's words
      abbrev pub IsRebasedBy : ProvisionalCacheEntry X I R A T → Type 0
      IsRebasedBy new = RebasedBy (reason_shape reason) below top (depths_of entry.heads) (depths_of done.state.heads)
          (heads_shape done.state.heads) (entry_shape says entry n) (entry_shape says new n)

      unused : (head : StackDepth × CycleHead) → Ascends entry.heads → highest entry.heads ≡ Some head
          → head.0.0 ≡ length stack → has_usages head.1.usages ≡ false → HasNewHead stack done (record entry {
            heads = with_unused done.state.heads (but_highest entry.heads);
          }) after → IsRebasedBy after
      unused head asc top_is at none new =
          let here : head.0.0 ≡ length below = at ∙ many in
          NotNeeded
          (taken_out (λ _. path_of_no_step) (λ _. no_usages) entry
          (record entry { heads = with_unused done.state.heads (but_highest entry.heads) }) after
          head asc top_is here new refl refl n)
          (subst (λ h. (cycle : ℕ) → h.usages cycle ≡ 0)
          (sym (popped_head entry.heads done.state.heads head (length below) asc top_is here lower_there))
          (is_zero head.1 none))
          (subst (λ h. InsertsEmpty (length below) (heads_shape entry.heads) (heads_shape h)) (sym new.same_heads)
          (inserts_empty entry.heads done.state.heads head (length below) asc top_is here lower_there))
          (ap (verdict_of says) new.same_result)

      used : (head : StackDepth × CycleHead) (changed : ProvisionalCacheEntry X I R A T) → Ascends entry.heads
          → highest entry.heads ≡ Some head → head.0.0 ≡ length stack → has_usages head.1.usages ≡ true
          → keeps_kinds stack done entry.path_from_head head.1.paths_to_head ≡ true
          → changed_for propagated overflow reason head.1.usages entry ≡ Some changed
          → HasNewHead stack done (record changed {
            heads = with_used done.state.heads head.1.paths_to_head (but_highest changed.heads);
          }) after → IsRebasedBy after
      used head changed asc top_is at some keeps rebases new =
          let here : head.0.0 ≡ length below = at ∙ many in
          let middle : ProvisionalCacheEntry X I R A T =
          record changed { heads = with_used done.state.heads head.1.paths_to_head (but_highest changed.heads) } in
          let left = is_changed says propagated overflow unsure overflow_unsure reason head.1 entry changed rebases in
          let heads_are : middle.heads ≡ with_used done.state.heads head.1.paths_to_head (but_highest entry.heads) =
          ap (λ h. with_used done.state.heads head.1.paths_to_head (but_highest h)) left.same_heads in
          let popped = popped_head entry.heads done.state.heads head (length below) asc top_is here lower_there in
          Needed
          (taken_out (λ h. extended_by_each head.1.paths_to_head h.paths_to_head) (λ h. h.usages) entry middle after
          head asc top_is here new heads_are left.same_path n)
          (λ zeros. not_zero head.1 some (subst (λ h. (cycle : ℕ) → h.usages cycle ≡ 0) popped zeros))
          (passes_path_test stack done below top kinds entry.path_from_head
          (heads_shape entry.heads) head.1 popped keeps)
          (subst (λ h. InsertsHeads (length below) (heads_shape entry.heads) (heads_shape done.state.heads)
          (heads_shape h)) (sym (new.same_heads ∙ heads_are))
          (inserts_heads entry.heads done.state.heads head (length below) asc top_is here lower_there))
          (subst (λ h. HasResult (reason_shape reason) h (verdict_of says entry.result) (verdict_of says after.result))
          (sym popped)
          (subst (λ v. HasResult (reason_shape reason) (head_shape (Some head.1)) (verdict_of says entry.result) v)
          (sym (ap (verdict_of says) new.same_result)) left.result))

      other_highest : entry.heads ≢ []
          → ((head : StackDepth × CycleHead) → highest entry.heads ≡ Some head → head.0.0 ≢ length stack)
          → (o : Option (StackDepth × CycleHead)) → highest entry.heads ≡ o → highest_depth entry.heads ≢ length below
      other_highest some other None none at = some (no_highest entry.heads none)
      other_highest some other (Some head) top_is at =
          other head top_is (sym (highest_is entry.heads head top_is) ∙ at ∙ sym many)

      -- What the rule leaves of an entry whose heads rise is what the theory's rule leaves of it.
      pub rebased_shape : entry.heads ≢ [] → IsRising entry.heads
          → rebased stack done (changed_for propagated overflow reason) entry ≡ Some after → IsRebasedBy after
      rebased_shape some rising is = at (is_rebased stack done (changed_for propagated overflow reason) entry after is)
        where
          at : IsRebased stack done (changed_for propagated overflow reason) entry after → IsRebasedBy after
          at (Still other same) = subst IsRebasedBy same (Stays (other_highest some other (highest entry.heads) refl))
          at (NotUsed head top_is place none new) = unused head (ascends entry.heads rising) top_is place none new
          at (Used head changed top_is place used_there keeps ends new) =
              used head changed (ascends entry.heads rising) top_is place used_there keeps ends new

-- ---- when the entry may be rebased

module _ {X I R A T : Type 0} (says : Verdicts R) (stack : List (StackEntry X I R A T)) (done : StackEntry X I R A T)
    (below : List Entry) (top : Entry) (many : length stack ≡ length below)
    (lower : LieBelow (length stack) done.state.heads) where
  -- a depth at which a list has a head is that of one of its elements
  within_all : (limit : ℕ) (heads : Heads) → All (λ head. head.0.0 ≤ limit) heads → (depth : StackDepth)
      → IsSome (at_depth heads depth) → depth.0 ≤ limit
  within_all limit [] all depth some = absurd (false≢true some)
  within_all limit (e ∷ es) all depth some = elim (cases_eq depth.0 e.0.0) [
    | inl same ↦ let first : e.0.0 ≤ limit = All-head (λ (h : StackDepth × CycleHead). h.0.0 ≤ limit) e es all in
        omega (arith, same, first)
    | inr other ↦ within_all limit es (All-tail (λ (h : StackDepth × CycleHead). h.0.0 ≤ limit) e es all) depth
        (subst IsSome (at_later e es depth other) some)
  ]

  -- where the reason is true, an entry with heads that rise, on the stack or at the place above it, can be rebased
  -- in the theory's words
  pub rebasable : (reason : RebaseReason X I R A T) (verdict : theory.Verdict) (entry : ProvisionalCacheEntry X I R A T)
      → CanBeRebased (length stack) entry → IsRising entry.heads → IsTrueReason (reason_shape reason) verdict top
      → (n : ℕ) → IsRebasable (reason_shape reason) below top (depths_of entry.heads) (depths_of done.state.heads)
      verdict (heads_shape done.state.heads) (entry_shape says entry n)
  rebasable reason verdict entry can rising is_true n = at (highest entry.heads) refl
    where
      at : (o : Option (StackDepth × CycleHead)) → highest entry.heads ≡ o
          → IsRebasable (reason_shape reason) below top (depths_of entry.heads) (depths_of done.state.heads) verdict
          (heads_shape done.state.heads) (entry_shape says entry n)
      at None none = absurd (can.some (no_highest entry.heads none))
      at (Some head) top_is =
          let asc = ascends entry.heads rising in
          let depth_is = highest_is entry.heads head top_is in
          let there : head.0.0 ≤ length stack = within_all (length stack) entry.heads can.within head.0
          (subst IsSome (sym (highest_there entry.heads head asc top_is)) refl) in
          record {
            is_true = is_true;
            own_within = λ depth own. subst (λ n. depth ≤ n) (sym depth_is)
                (at_most_highest entry.heads head asc top_is (record { 0 = depth }) own);
            top_depths = are_depths done.state.heads;
            top_within = λ depth own. subst (λ n. depth < n) many (lower (record { 0 = depth }) own);
            on_stack = omega (arith, depth_is, there, many);
          }

-- ---- the goals under evaluation

-- The rule for the goals of the search: what is left of an entry when the newest goal is done and the
-- others stay on the stack.
module _ {X F I R A T : Type 0} (says : Verdicts R) (goal : OpenGoal X F I R A T)
    (goals : List (OpenGoal X F I R A T)) where
  -- the goals below as the stack that the rule takes, and as the theory has them
  abbrev pub real_below : List (StackEntry X I R A T)
  real_below = reverse (map (λ s. s.0) goals)

  abbrev pub theory_below : List Entry
  theory_below = stack_of (frames_of says (runs_of goals))

  pub same_length : length real_below ≡ length theory_below
  same_length = length-reverse (map (λ s. s.0) goals) ∙ length-map goals (λ s. s.0)
      ∙ sym (stack_length says (runs_of goals) ∙ length-map goals run_of)

  pub goal_rebased : LieBelow (length goals) goal.0.state.heads → (propagated : A → R) (overflow : R)
      → ((info : A) → verdict_of says (propagated info) ≡ theory.Neither) → verdict_of says overflow ≡ theory.Neither
      → (reason : RebaseReason X I R A T) (entry after : ProvisionalCacheEntry X I R A T) (n : ℕ)
      → entry.heads ≢ [] → IsRising entry.heads
      → rebased real_below goal.0 (changed_for propagated overflow reason) entry ≡ Some after
      → RebasedBy (reason_shape reason) theory_below (frame_of says (run_of goal)).entry (depths_of entry.heads)
      (depths_of goal.0.state.heads) (heads_shape goal.0.state.heads)
      (entry_shape says entry n) (entry_shape says after n)
  goal_rebased lower propagated overflow unsure overflow_unsure reason entry after n =
      rebased_shape says real_below goal.0 theory_below (frame_of says (run_of goal)).entry same_length
      (λ depth. path_kind_is says goal.0.step_kind_from_parent depth goals)
      (subst (λ n. LieBelow n goal.0.state.heads)
      (sym (length-reverse (map (λ s. s.0) goals) ∙ length-map goals (λ s. s.0))) lower)
      propagated overflow unsure overflow_unsure reason entry after n
