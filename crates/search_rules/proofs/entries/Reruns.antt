-- The provisional entries that are left when the newest goal is run again may be used over the goals then.
use Rattle.std.proofs.Common.{◌≡◌, ◌≢◌, ℕ, ◌-◌, ◌==◌, ◌≤◌, Bool, true, false, not, if◌then◌else◌, List, [], ◌∷◌, ◌++◌}
use Rattle.std.proofs.Common.{length, All, Option, None, Some, IsSome, option_map, refl, sym, ap, ◌∙◌, subst, inl, inr}
use Rattle.std.proofs.Common.{arith, eq-eqb}
use Rattle.std.specs.List.{filter}
use Rattle.std.specs.Option.{option_or}
use Rattle.std.proofs.lemmas.List.{length-map}
use Rattle.std.proofs.lemmas.List.Elements.{All-filter, filter_passes}
use Rattle.search_rules.specs.Below.{UsesNo, StackDepth, CycleHead, Heads, at_depth, highest, head_shape, heads_shape}
use Rattle.search_rules.specs.Below.{has_usages, no_usages, NodeId, Request, Reply, OpenGoal, StackEntry}
use Rattle.search_rules.specs.Below.{ProvisionalCacheEntry, CacheNode, open_node, Lists, entries_at, is_used_at}
use Rattle.search_rules.specs.Below.{depends_on, Run, rerun_with, with_no_record, change_newest, RunRecord, Verdicts}
use Rattle.search_rules.specs.Words.{OpenRun, AreJustified, IsHead, IsReady, AreReady, run_of, runs_of, HasResultNode}
use Rattle.search_rules.specs.Words.{Tally, counted}
use Rattle.search_rules.proofs.rebasing.HeadOrder.{Ascends, ascends, at_most_highest, highest_there}
use Rattle.search_rules.proofs.rebasing.HeadOrder.{no_highest, same_depth}
use Rattle.search_rules.proofs.justified.Justified.{EndsWithNode, new_run, stack_length, tally_again}
use Rattle.search_rules.proofs.moves.FinishedRuns.{rerun_holds, TakenFrom}
use Rattle.search_rules.proofs.entries.Reusable.{reusable_rerun}
use Rattle.search_rules.proofs.entries.Ready.{is_below, RestsOn-kept}
use Rattle.search_rules.proofs.rebasing.Rule.{are_depths}
use Rattle.search_rules.proofs.rebasing.Paths.{is_zero}

-- ---- what is left records no usage of the goal

-- where no head is above the place, and the highest one isn't used there, none is
unused_there : (n : ℕ) (heads : Heads) → heads ≢ [] → Ascends heads
    → ((depth : StackDepth) → IsSome (at_depth heads depth) → depth.0 ≤ n)
    → not (is_used_at (record { 0 = n }) heads) ≡ true → UsesNo (heads_shape heads) n
unused_there n heads some asc within unused = at (highest heads) refl
  where
    unused_by : (top : StackDepth × CycleHead) → highest heads ≡ Some top
        → top.0.0 ≡ n → has_usages top.1.usages ≡ false
    unused_by top is same = of_test (has_usages top.1.usages) refl
      where
        of_test : (b : Bool) → has_usages top.1.usages ≡ b → b ≡ false
        of_test false used = refl
        of_test true used =
            let here : is_used_at (record { 0 = n }) heads ≡ true = rw (is, eq-eqb top.0.0 n same, used) refl in
            let clash : false ≡ true = ap not (sym here) ∙ unused in
            absurd cc

    at : (o : Option (StackDepth × CycleHead)) → highest heads ≡ o → UsesNo (heads_shape heads) n
    at None is = absurd (some (no_highest heads is))
    at (Some top) is = λ path cycle recorded.
        let there = highest_there heads top asc is in
        let low = within top.0 (subst IsSome (sym there) refl) in
        let high = at_most_highest heads top asc is (record { 0 = n }) ((are_depths heads).usages n cycle recorded.1) in
        let same : top.0.0 ≡ n = omega (arith, low, high) in
        let shape : heads_shape heads n ≡ head_shape (Some top.1) =
        ap head_shape (ap (at_depth heads) (sym (same_depth top.0 (record { 0 = n }) same)) ∙ there) in
        recorded.1 (ap (λ h. h.usages cycle) shape ∙ is_zero top.1 (unused_by top is same) cycle)

-- ---- the heads of the goals stay

-- the goal that is run again counts itself, and what it counted of the goals below
counted_again : (place : ℕ) (t : Tally) (head : StackDepth) → IsSome (counted place t head)
    → IsSome (counted place (tally_again t) head)
counted_again place t head some = at (head.0 == place) some
  where
    at : (b : Bool) → IsSome (if b then t.own else option_map (λ (k : CycleHead). k.usages) (at_depth t.heads head))
        → IsSome (if b then Some no_usages else option_map (λ (k : CycleHead). k.usages) (at_depth t.heads head))
    at true is = refl
    at false is = is

-- ---- the entries that are left

module _ {I R : Type 0} (says : Verdicts R) (scripts : I → List (Reply R) → Request I R)
    (nodes after : List (CacheNode I R)) (o : OpenRun I R) (below : List (OpenRun I R))
    (h : AreJustified says nodes (o ∷ below)) (r : R) (target : Option NodeId)
    (s : EndsWithNode says nodes after o below r target) (own : NodeId) (at : own.0 ≡ length after) where
  -- the goals, of which the newest is run again
  abbrev goals_again : List (OpenRun I R)
  goals_again = new_run o.goal o.step own (option_or target o.cycles_lead) (Some r) (tally_again o.tally) ∷ below

  head_again : (head : StackDepth) → IsHead (o ∷ below) head → IsHead goals_again head
  head_again head (inl some) = inl (counted_again (length below) o.tally head some)
  head_again head (inr is) = inr is

  module _ {X A T : Type 0} where
    -- an entry that doesn't rest on the goal may be used
    ready_again : (goal : I) (entry : ProvisionalCacheEntry X I R A T)
        → not (depends_on (record { 0 = length below }) entry) ≡ true
        → IsReady says scripts nodes (o ∷ below) goal entry
        → IsReady says scripts (after ++ open_node o.goal ∷ []) goals_again goal entry
    ready_again goal entry unused ready =
        let lower : (depth : StackDepth) → IsSome (at_depth entry.heads depth) → depth.0 ≤ length below = λ depth some.
        let less = is_below (o ∷ below) h.tallies depth (ready.are_heads depth some) in omega (arith, less) in
        let none : UsesNo (heads_shape entry.heads) (length below) =
        unused_there (length below) entry.heads ready.some (ascends entry.heads ready.rising) lower unused in
        RestsOn-kept says scripts nodes (after ++ open_node o.goal ∷ []) (o ∷ below) goals_again
        (IsHead (o ∷ below)) (IsHead goals_again) goal entry
        (reusable_rerun says nodes after o below h r target s own at goal entry
        (subst (UsesNo (heads_shape entry.heads)) (sym (stack_length says below)) none))
        (λ head some. head_again head) ready

    -- and those are the ones that are left
    pub all_ready_rerun : (same : I → I → Bool) (old new : Lists I (ProvisionalCacheEntry X I R A T))
        → ((goal : I) → entries_at same new goal
        ≡ filter (λ entry. not (depends_on (record { 0 = length below }) entry)) (entries_at same old goal))
        → AreReady says same scripts nodes (o ∷ below) old → AreReady says same scripts (after ++ open_node o.goal ∷ [])
        (new_run o.goal o.step own (option_or target o.cycles_lead) (Some r) (tally_again o.tally) ∷ below) new
    all_ready_rerun same old new cleared ready = λ goal.
        let stays : ProvisionalCacheEntry X I R A T → Bool =
        λ entry. not (depends_on (record { 0 = length below }) entry) in
        subst (All (IsReady says scripts (after ++ open_node o.goal ∷ []) goals_again goal)) (sym (cleared goal))
        (λ k d less.
        ready_again goal _ (filter_passes stays (entries_at same old goal) k d less)
        (All-filter stays (IsReady says scripts nodes (o ∷ below) goal)
        (entries_at same old goal) (ready goal) k d less))

-- ---- the same of the items

-- what is left is told by the number of the place
pub cleared_at : {X I R A T : Type 0} (same : I → I → Bool) (old new : Lists I (ProvisionalCacheEntry X I R A T))
    (n m : ℕ) → n ≡ m → ((goal : I) → entries_at same new goal
    ≡ filter (λ entry. not (depends_on (record { 0 = n }) entry)) (entries_at same old goal)) → (goal : I)
    → entries_at same new goal ≡ filter (λ entry. not (depends_on (record { 0 = m }) entry)) (entries_at same old goal)
cleared_at same old new n m is left goal = subst (λ k. entries_at same new goal
    ≡ filter (λ entry. not (depends_on (record { 0 = k }) entry)) (entries_at same old goal)) is (left goal)

-- the entries that are left may be used over the items, of which the newest is run again
pub rerun_ready : {X F I R A T : Type 0} (says : Verdicts R) (same : I → I → Bool)
    (scripts : I → List (Reply R) → Request I R) (lists cleared : Lists I (ProvisionalCacheEntry X I R A T))
    (before after : List (CacheNode I R)) (old taken new : List (OpenGoal X F I R A T)) (e : StackEntry X I R A T)
    (y : Run X F I R A T) (p : RunRecord I R) (r : R) (target : Option NodeId) (frame : F) (own : NodeId)
    → TakenFrom old e y p → taken ≡ change_newest with_no_record old
    → new ≡ change_newest (rerun_with r (option_or target e.state.node) frame own) taken
    → HasResultNode says before after e.state.provisional_result y.node e.state.node p r target → own.0 ≡ length after
    → AreJustified says before (runs_of old) → ((goal : I) → entries_at same cleared goal
    ≡ filter (λ entry. not (depends_on (record { 0 = length old - 1 }) entry)) (entries_at same lists goal))
    → AreReady says same scripts before (runs_of old) lists
    → AreReady says same scripts (after ++ open_node e.input ∷ []) (runs_of new) cleared
rerun_ready says same scripts lists cleared before after old taken new e y p r target
    frame own t is again ended at h left =
    let place : length old - 1 ≡ length (runs_of t.below) = omega (arith, ap length t.was, length-map t.below run_of) in
    rerun_holds says before after old taken new e y p r target frame own t is again ended at h
    (λ goals. AreReady says same scripts before goals lists)
    (λ goals. AreReady says same scripts (after ++ open_node e.input ∷ []) goals cleared)
    (λ here s. all_ready_rerun says scripts before after (run_of (e, t.run)) (runs_of t.below) here r target s own at
    same lists cleared (cleared_at same lists cleared (length old - 1) (length (runs_of t.below)) place left))
