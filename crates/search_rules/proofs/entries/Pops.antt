-- The provisional entries are ready over the goals that are left once the newest goal was popped.
use Rattle.std.proofs.Common.{◌≡◌, Bool, ◌&&◌, if◌then◌else◌, true, false, All, List, [], ◌∷◌, ◌++◌, map, reverse}
use Rattle.std.proofs.Common.{Option, None, Some, refl, sym, subst}
use Rattle.std.specs.List.{cons_option, filter_map}
use Rattle.std.proofs.lemmas.List.Elements.{All-append, All-cons, All-head, All-nil, All-tail, All-weaker}
use Rattle.open_graphs.specs.Graph as theory
use Rattle.search_rules.specs.Below.{CxOf, DelegateOf, IsNeither, verdicts, IsRising, NodeId, Request, Reply, OpenGoal}
use Rattle.search_rules.specs.Below.{StackEntry, ProvisionalCacheEntry, RebaseReason, CacheNode, Lists, entries_at}
use Rattle.search_rules.specs.Below.{rebased, changed_for, verdict_of, Next, Verdicts}
use Rattle.search_rules.specs.Words.{AreJustified, GivesAnswer, AreReady, HasReason, IsLeftOver, IsNewestUnranked}
use Rattle.search_rules.specs.Words.{IsReady, LeavesReady, final_answer, entries_for, rebased_for, run_of, runs_of}
use Rattle.lean_runs.proofs.Verdicts.{neither_is}
use Rattle.search_rules.proofs.justified.Finishing.{rebases}
use Rattle.search_rules.proofs.justified.Justified.{EndsWithNode}
use Rattle.search_rules.proofs.entries.LeftOver.{left_over_ready}
use Rattle.search_rules.proofs.entries.Popped.{IsLeft, lower, own_pushed, rebased_is_left, unused_is_left}

-- what is given of each element has a property that follows from one of the elements
all_given : {X Y : Type 0} (P : X → Type 0) (Q : Y → Type 0) (f : X → Option Y)
    → ((x : X) (y : Y) → P x → f x ≡ Some y → Q y) → (xs : List X) → All P xs → All Q (filter_map f xs)
all_given P Q f gives [] all = All-nil Q
all_given P Q f gives (x ∷ xs) all = at (f x) refl (all_given P Q f gives xs (All-tail P x xs all))
  where
    at : (o : Option _) → f x ≡ o → All Q (filter_map f xs) → All Q (cons_option (f x) (filter_map f xs))
    at None none rest = subst (λ o. All Q (cons_option o (filter_map f xs))) (sym none) rest
    at (Some y) some rest = subst (λ o. All Q (cons_option o (filter_map f xs))) (sym some)
        (All-cons Q y (filter_map f xs) (gives x y (All-head P x xs all) some) rest)

module _ {X F I R A T : Type 0} (says : Verdicts R) (same : I → I → Bool)
    (by_value : (x y : I) → same x y ≡ true → x ≡ y) (scripts : I → List (Reply R) → Request I R)
    (nodes after : List (CacheNode I R)) (s : OpenGoal X F I R A T) (below : List (OpenGoal X F I R A T)) (r : R)
    (target : Option NodeId) (h : AreJustified says nodes (runs_of (s ∷ below)))
    (rebases : EndsWithNode says nodes after (run_of s) (runs_of below) r target) (propagated : I → A → R)
    (overflow : I → R) (unsure : (goal : I) (info : A) → verdict_of says (propagated goal info) ≡ theory.Neither)
    (overflow_unsure : (goal : I) → verdict_of says (overflow goal) ≡ theory.Neither)
    (reason : Option (RebaseReason X I R A T)) (holds : HasReason says reason (s ∷ below) r) where
  -- an entry of the goal that is left
  abbrev pub IsLeftOf : I → ProvisionalCacheEntry X I R A T → Type 0
  IsLeftOf = IsLeft says scripts nodes after s below r target h rebases

  -- the entries that were there
  pub old_left : (goal : I) (entries : List (ProvisionalCacheEntry X I R A T))
      → All (IsReady says scripts nodes (runs_of (s ∷ below)) goal) entries → (why : Option (RebaseReason X I R A T))
      → HasReason says why (s ∷ below) r → All (IsLeftOf goal)
      (rebased_for (propagated goal) (overflow goal) why (reverse (map (λ s. s.0) below)) s.0 entries)
  old_left goal entries ready None unused =
      All-weaker (IsReady says scripts nodes (runs_of (s ∷ below)) goal) (IsLeftOf goal)
      (λ entry is_ready. unused_is_left says scripts nodes after s below r target h rebases goal entry is_ready unused)
      entries ready
  old_left goal entries ready (Some why) is_true =
      all_given (IsReady says scripts nodes (runs_of (s ∷ below)) goal) (IsLeftOf goal)
      (rebased (reverse (map (λ s. s.0) below)) s.0 (changed_for (propagated goal) (overflow goal) why))
      (λ entry later is_ready is.
      rebased_is_left says scripts nodes after s below r target h rebases goal entry is_ready (propagated goal)
      (overflow goal) (unsure goal) (overflow_unsure goal) why is_true later is) entries ready

  module _ (rising : IsRising s.0.state.heads) (unranked : IsNewestUnranked scripts (s ∷ below)) (enabled : Bool)
      (old new : Lists I (ProvisionalCacheEntry X I R A T)) where
    -- and the newest goal's own answer
    own_left : (goal : I) (counted_by : Bool) → (counted_by ≡ true → s.0.input ≡ goal)
        → All (IsLeftOf goal) (if counted_by
        then entries_for (reverse (map (λ s. s.0) below)) s.0.step_kind_from_parent (final_answer s r target) else [])
    own_left goal true is =
        own_pushed says scripts nodes after s below r target h rebases rising unranked goal (is refl)
    own_left goal false is = All-nil (IsLeftOf goal)

    its_goal : (goal : I) (on : Bool) → (on && same s.0.input goal) ≡ true → s.0.input ≡ goal
    its_goal goal true is = by_value s.0.input goal is
    its_goal goal false is = absurd cc

    -- the entries that are left, and the newest goal's own answer, are ready over the goals that are left
    pub rebased_ready :
        ((goal : I) → entries_at same new goal ≡ rebased_for (propagated goal) (overflow goal) reason
        (reverse (map (λ s. s.0) below)) s.0 (entries_at same old goal) ++ (if enabled && same s.0.input goal
        then entries_for (reverse (map (λ s. s.0) below)) s.0.step_kind_from_parent (final_answer s r target) else []))
        → AreReady says same scripts nodes (runs_of (s ∷ below)) old
        → (next : Next R) (later : List (OpenGoal X F I R A T))
        → GivesAnswer s.0.step_kind_from_parent (final_answer s r target) below next later
        → AreReady says same scripts after (runs_of later) new
    rebased_ready entries_are ready next later given = λ goal.
        let left = rebased_for (propagated goal) (overflow goal) reason
        (reverse (map (λ s. s.0) below)) s.0 (entries_at same old goal) in
        let own = if enabled && same s.0.input goal
        then entries_for (reverse (map (λ s. s.0) below)) s.0.step_kind_from_parent (final_answer s r target) else [] in
        subst (All (IsReady says scripts after (runs_of later) goal)) (sym (entries_are goal))
        (All-weaker (IsLeftOf goal) (IsReady says scripts after (runs_of later) goal)
        (left_over_ready says scripts after s.0.step_kind_from_parent (final_answer s r target) below later next
        (lower says scripts nodes after s below r target h rebases) given goal)
        (left ++ own)
        (All-append (IsLeftOf goal) left own (old_left goal (entries_at same old goal) (ready goal) reason holds)
        (own_left goal (enabled && same s.0.input goal) (its_goal goal enabled))))

-- entries that are rebased for a true reason can be used without the goal that is done
pub rebased_leave_ready :
    {D C V P F I R A T : Type 0} (G : DelegateOf D C V P F I R A T) (X : CxOf C I R A T) (same : I → I → Bool) (cx : C)
    (reason : Option (RebaseReason C I R A T)) (done : StackEntry C I R A T) (stack : List (StackEntry C I R A T))
    (old new : Lists I (ProvisionalCacheEntry C I R A T))
    → ((x y : I) → same x y ≡ true → x ≡ y)
    → ((goal : I) (info : A) → IsNeither X.is_yes X.is_no (G.propagated cx goal info))
    → ((goal : I) → IsNeither X.is_yes X.is_no (G.fixpoint_overflow cx goal))
    → ((goal : I) → entries_at same new goal
    ≡ rebased_for (G.propagated cx goal) (G.fixpoint_overflow cx goal) reason stack done (entries_at same old goal))
    → LeavesReady G X same cx reason done stack old new
rebased_leave_ready G X same cx reason done stack old new by_value unsure overflow_unsure exact =
    λ run below nodes after r worked same_stack ready goal.
    subst (All (IsLeftOver (verdicts X) (G.script cx) after (runs_of below) done.state.heads goal)) (sym (exact goal))
    (subst (λ l. All (IsLeftOver (verdicts X) (G.script cx) after (runs_of below) done.state.heads goal)
    (rebased_for (G.propagated cx goal) (G.fixpoint_overflow cx goal) reason l done (entries_at same old goal)))
    (sym same_stack)
    (old_left (verdicts X) same by_value (G.script cx) nodes after (done, run) below r worked.node worked.justified
    (rebases (verdicts X) nodes after done run below worked.justified r worked.node worked.has_node)
    (G.propagated cx) (G.fixpoint_overflow cx)
    (λ asked info. neither_is (verdicts X) (G.propagated cx asked info) (unsure asked info))
    (λ asked. neither_is (verdicts X) (G.fixpoint_overflow cx asked) (overflow_unsure asked)) reason worked.is_reason
    goal (entries_at same old goal) (ready goal) reason worked.is_reason))
