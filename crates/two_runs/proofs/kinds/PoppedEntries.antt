-- The provisional entries once the newest goal was popped: the goals of those that are left are joined to their heads
-- still, and the path kinds are those of all closed walks over them.
use Rattle.std.proofs.Common.{◌≡◌, ◌≢◌, ℕ, zero, suc, ◌&&◌, if◌then◌else◌, Bool, true, false, List, [], ◌∷◌, ◌++◌}
use Rattle.std.proofs.Common.{length, IsSome, Option, None, Some, slice_get, All, refl, sym, ap, ◌∙◌, subst, inl}
use Rattle.std.proofs.Common.{inr, arith}
use Rattle.std.specs.List.{filter_map}
use Rattle.std.proofs.lemmas.Bool.{cases_eq, false≢true}
use Rattle.std.proofs.lemmas.List.Elements.{All-append, All-cons, All-nil}
use Rattle.provisional_cache.proofs.RebasedEntryLists.{All-filter_map}
use Rattle.search_graph.specs.Reaching.{here, MayReach}
use Rattle.two_runs.specs.Below.{Ambiguity, at_depth, but_highest, changed_for, CycleHead, entries_at, extended_by_each}
use Rattle.two_runs.specs.Below.{has_usages, Heads, HeadUsages, highest, IsLeftHead, IsRising, Lists, no_usages}
use Rattle.two_runs.specs.Below.{NoCycleUsages, NodeId, OpenGoal, other_usages, Overflow, path_kind_from}
use Rattle.two_runs.specs.Below.{path_of_no_step, PathsToNested, ProvisionalCacheEntry, ReachedFixpoint, rebased}
use Rattle.two_runs.specs.Below.{RebaseReason, Reply, Request, StackDepth, with_unused, with_used}
use Rattle.search_rules.specs.Words.{depths_of, entries_for, entry_of, final_answer, LieBelow}
use Rattle.search_rules.specs.Words.{rebased_for, RebasesEntries}
use Rattle.two_runs.specs.OneKind.{AsksByOneKind, MayLeadTo}
use Rattle.two_runs.specs.Kinds.{AreJoined, AreLinked, AskedByKind, EntriesSuit, EntryIsLinked, IsGoalAt}
use Rattle.two_runs.specs.Kinds.{IsJoinedTo, KeepsKinds}
use Rattle.search_rules.proofs.rebasing.HeadOrder.{ascends, at_here, at_later, at_most_highest}
use Rattle.search_rules.proofs.rebasing.HeadOrder.{highest_there, no_highest}
use Rattle.two_runs.proofs.kinds.Questions.{asked_by_kind_of, greater_same, kind_of_goal}
use Rattle.search_graph.proofs.called.Reaching.{reaches_on}
use Rattle.two_runs.proofs.kinds.Stack.{at_below, at_lies_below, at_newest, many, stack_leads, stack_of}
use Rattle.two_runs.proofs.kinds.UsedEntries.{HaveHeads}
use Rattle.search_rules.proofs.rebasing.Cases.{HasNewHead, is_rebased, IsRebased, NotUsed, Still, Used}
use Rattle.search_rules.proofs.rebasing.Rising.{changed_heads_same}
use Rattle.search_rules.proofs.rebasing.Shapes.{left_there, with_all}

-- what stands in a list of heads is found at its depth
found_there : (heads : Heads) (i : ℕ) (head : StackDepth × CycleHead)
    → slice_get heads i ≡ Some head → IsSome (at_depth heads head.0)
found_there [] i head is = absurd cc
found_there (e ∷ es) zero head is =
    let same : e ≡ head = cc in
    subst (λ (h : StackDepth × CycleHead). IsSome (at_depth (e ∷ es) h.0)) same
    (subst IsSome (sym (at_here e es e.0 refl)) refl)
found_there (e ∷ es) (suc i) head is = elim (cases_eq head.0.0 e.0.0) [
  | inl same ↦ subst IsSome (sym (at_here e es head.0 same)) refl
  | inr other ↦ subst IsSome (sym (at_later e es head.0 other)) (found_there es i head is)
]

-- what becomes of an entry's result leaves its path
changed_path_same : {X I R A T : Type 0} (propagated : A → R) (overflow : R) (reason : RebaseReason X I R A T)
    (usages : HeadUsages) (entry after : ProvisionalCacheEntry X I R A T)
    → changed_for propagated overflow reason usages entry ≡ Some after → after.path_from_head ≡ entry.path_from_head
changed_path_same propagated overflow NoCycleUsages usages entry after is = absurd cc
changed_path_same propagated overflow (Ambiguity info) usages entry after is = cc
changed_path_same propagated overflow Overflow usages entry after is = cc
changed_path_same propagated overflow (ReachedFixpoint None) usages entry after is = cc
changed_path_same propagated overflow (ReachedFixpoint (Some kind)) usages entry after is =
    at (has_usages (other_usages usages kind)) is
  where
    at : (b : Bool) → (if b then None else Some entry) ≡ Some after → after.path_from_head ≡ entry.path_from_head
    at true is = absurd cc
    at false is = cc

module _ {X F I R A T : Type 0} (scripts : I → List (Reply R) → Request I R) (same : I → I → Bool)
    (s : OpenGoal X F I R A T) (below : List (OpenGoal X F I R A T)) (linked : AreLinked scripts same (s ∷ below)) where
  -- a walk of questions leads from each goal below to the one that is done
  walk_to : (place : ℕ) (head : I) → IsGoalAt below place head
      → MayLeadTo scripts head (path_kind_from (stack_of below) place s.0.step_kind_from_parent) s.0.input
  walk_to place head at =
      stack_leads scripts same below place head s.0.step_kind_from_parent s.0.input linked.1 linked.0.asked at

  heads_lower : LieBelow (length (stack_of below)) s.0.state.heads
  heads_lower depth there =
      let j = linked.0.heads depth there in
      let less = at_lies_below below depth.0 j.head j.is_at in
      let all = many below in
      omega (arith, less, all)

  -- ---- an entry that was there

  module _ (goal : I) (entry : ProvisionalCacheEntry X I R A T)
      (e : EntryIsLinked scripts same (s ∷ below) goal entry) where
    -- a head at another place is one below
    joined_below : (depth : StackDepth) → IsSome (at_depth entry.heads depth) → depth.0 ≢ length below
        → IsJoinedTo scripts below goal depth.0
    joined_below depth there other =
        let j = e.heads depth there in
        record { head = j.head; is_at = at_below s below depth.0 j.head j.is_at other; there = j.there; back = j.back }

    -- it stays, where the goal that is done is none of its heads
    pub still_linked : ((depth : StackDepth) → IsSome (at_depth entry.heads depth) → depth.0 ≢ length below)
        → EntryIsLinked scripts same below goal entry
    still_linked apart = record { heads = λ depth there. joined_below depth there (apart depth there); kind = e.kind }

    module _ (some : entry.heads ≢ []) (rising : IsRising entry.heads) where
      -- so it is where another one is the highest
      apart_from_other :
          ((head : StackDepth × CycleHead) → highest entry.heads ≡ Some head → head.0.0 ≢ length (stack_of below))
          → (depth : StackDepth) → IsSome (at_depth entry.heads depth) → depth.0 ≢ length below
      apart_from_other other depth there = at (highest entry.heads) refl
        where
          at : (o : Option (StackDepth × CycleHead)) → highest entry.heads ≡ o → depth.0 ≢ length below
          at None none = absurd (some (no_highest entry.heads none))
          at (Some head) top =
              let asc = ascends entry.heads rising in
              let most = at_most_highest entry.heads head asc top depth there in
              let j = e.heads head.0 (subst IsSome (sym (highest_there entry.heads head asc top)) refl) in
              let limit = at_lies_below (s ∷ below) head.0.0 j.head j.is_at in
              let apart = other head top in
              let all = many below in
              λ is. apart (omega (arith, is, most, limit, all))

      -- the goal that is done was its highest head
      module _ (head : StackDepth × CycleHead) (top : highest entry.heads ≡ Some head)
          (place : head.0.0 ≡ length (stack_of below)) where
        both_ways : MayReach scripts goal s.0.input × MayReach scripts s.0.input goal
        both_ways =
            let j = e.heads head.0
            (subst IsSome (sym (highest_there entry.heads head (ascends entry.heads rising) top)) refl) in
            let is : j.head ≡ s.0.input = at_newest s below head.0.0 j.head j.is_at (place ∙ many below) in
            (subst (MayReach scripts goal) is j.there, subst (λ x. MayReach scripts x goal) is j.back)

        left_joined : (depth : StackDepth)
            → IsLeftHead (length (stack_of below)) (depths_of entry.heads) (depths_of s.0.state.heads) depth.0
            → IsJoinedTo scripts below goal depth.0
        left_joined depth left = elim left.1 [
          | inl own ↦ joined_below depth own (λ is. left.0 (is ∙ sym (many below)))
          | inr came ↦
              let j = linked.0.heads depth came in
              record {
                head = j.head;
                is_at = j.is_at;
                there = reaches_on scripts both_ways.0 j.there;
                back = reaches_on scripts j.back both_ways.1;
              }
        ]

        -- the heads of that take its place, and the path from the new highest one is of the same kind
        moved : (paths : CycleHead → PathsToNested) (usages : CycleHead → HeadUsages)
            (middle after : ProvisionalCacheEntry X I R A T)
            → middle.heads ≡ with_all paths usages s.0.state.heads (but_highest entry.heads)
            → middle.path_from_head ≡ entry.path_from_head → HasNewHead (stack_of below) s.0 middle after
            → EntryIsLinked scripts same below goal after
        moved paths usages middle after heads_are same_path new =
            let all_joined : AreJoined scripts below goal after.heads = λ depth there.
            left_joined depth
            (left_there paths usages entry.heads s.0.state.heads head (length (stack_of below))
            (ascends entry.heads rising) top place heads_lower depth
            (subst (λ hs. IsSome (at_depth hs depth)) (new.same_heads ∙ heads_are) there)) in
            let j = all_joined new.head.0 (found_there after.heads _ new.head new.is_highest) in
            let walk = walk_to new.head.0.0 j.head j.is_at in
            let path : after.path_from_head ≡ entry.path_from_head =
            new.path
            ∙ greater_same middle.path_from_head
            (path_kind_from (stack_of below) new.head.0.0 s.0.step_kind_from_parent) entry.path_from_head same_path
            (kind_of_goal scripts goal entry.path_from_head e.kind walk both_ways.1 j.there) in
            record { heads = all_joined; kind = subst (AskedByKind scripts goal) (sym path) e.kind }

      pub rebased_linked : (propagated : A → R) (overflow : R) (reason : RebaseReason X I R A T)
          (after : ProvisionalCacheEntry X I R A T)
          → rebased (stack_of below) s.0 (changed_for propagated overflow reason) entry ≡ Some after
          → EntryIsLinked scripts same below goal after
      rebased_linked propagated overflow reason after is =
          at (is_rebased (stack_of below) s.0 (changed_for propagated overflow reason) entry after is)
        where
          at : IsRebased (stack_of below) s.0 (changed_for propagated overflow reason) entry after
              → EntryIsLinked scripts same below goal after
          at (Still other stays) =
              subst (EntryIsLinked scripts same below goal) stays (still_linked (apart_from_other other))
          at (NotUsed head top place none new) =
              moved head top place (λ _. path_of_no_step) (λ _. no_usages)
              (record entry { heads = with_unused s.0.state.heads (but_highest entry.heads) }) after refl refl new
          at (Used head changed top place used_there kinds ends new) =
              moved head top place (λ h. extended_by_each head.1.paths_to_head h.paths_to_head) (λ h. h.usages)
              (record changed {
                heads = with_used s.0.state.heads head.1.paths_to_head (but_highest changed.heads);
              }) after
              (ap (λ h. with_used s.0.state.heads head.1.paths_to_head (but_highest h))
              (changed_heads_same propagated overflow reason head.1.usages entry changed ends))
              (changed_path_same propagated overflow reason head.1.usages entry changed ends) new

  -- ---- the goal's own answer

  own_linked : AsksByOneKind scripts → (r : R) (node : Option NodeId) → All (EntryIsLinked scripts same below s.0.input)
      (entries_for (stack_of below) s.0.step_kind_from_parent (final_answer s r node))
  own_linked one r node = at (highest s.0.state.heads) refl
    where
      at : (o : Option (StackDepth × CycleHead)) → highest s.0.state.heads ≡ o
          → All (EntryIsLinked scripts same below s.0.input) (elim o [
            | None ↦ []
            | Some head ↦ entry_of (stack_of below) head.0.0 s.0.step_kind_from_parent (final_answer s r node) ∷ []
          ])
      at None none = All-nil (EntryIsLinked scripts same below s.0.input)
      at (Some head) top =
          let j = linked.0.heads head.0 (found_there s.0.state.heads _ head top) in
          All-cons (EntryIsLinked scripts same below s.0.input) _ []
          (record {
            heads = linked.0.heads;
            kind = asked_by_kind_of scripts one s.0.input (walk_to head.0.0 j.head j.is_at) here j.there;
          })
          (All-nil (EntryIsLinked scripts same below s.0.input))

  -- ---- all entries

  module _ (by_value : (x y : I) → same x y ≡ true → x ≡ y) (enabled : Bool) (suits : EntriesSuit enabled scripts)
      (propagated : I → A → R) (overflow : I → R) (reason : Option (RebaseReason X I R A T)) (r : R)
      (old new : Lists I (ProvisionalCacheEntry X I R A T))
      (k : KeepsKinds scripts same enabled (s ∷ below) old) (have : HaveHeads same old)
      (apart : reason ≡ None → (goal : I)
      → All (λ entry. (depth : StackDepth) → IsSome (at_depth entry.heads depth) → depth.0 ≢ length below)
      (entries_at same old goal))
      (rebases : RebasesEntries same enabled propagated overflow reason r s below old new) where
    old_linked : (goal : I) (why : Option (RebaseReason X I R A T)) → reason ≡ why
        → All (EntryIsLinked scripts same below goal)
        (rebased_for (propagated goal) (overflow goal) why (stack_of below) s.0 (entries_at same old goal))
    old_linked goal None is =
        λ i d within. still_linked goal _ (k.entries_are goal i d within) (apart is goal i d within)
    old_linked goal (Some why) is =
        All-filter_map
        (λ entry. EntryIsLinked scripts same (s ∷ below) goal entry × (entry.heads ≢ []) × IsRising entry.heads)
        (EntryIsLinked scripts same below goal)
        (rebased (stack_of below) s.0 (changed_for (propagated goal) (overflow goal) why))
        (λ entry after known becomes.
        rebased_linked goal entry known.0 known.1 known.2 (propagated goal) (overflow goal) why after becomes)
        (entries_at same old goal)
        (λ i d within. let there = have goal i d within in (k.entries_are goal i d within, there.0, there.1))

    own_at : (goal : I) (on one : Bool) → enabled ≡ on → same s.0.input goal ≡ one
        → All (EntryIsLinked scripts same below goal) (if on && one
        then entries_for (stack_of below) s.0.step_kind_from_parent (final_answer s r rebases.node) else [])
    own_at goal false one off is = All-nil (EntryIsLinked scripts same below goal)
    own_at goal true false there other = All-nil (EntryIsLinked scripts same below goal)
    own_at goal true true there is = elim suits [
      | inl off ↦ absurd (false≢true (sym off ∙ there))
      | inr kinds ↦ subst (λ g. All (EntryIsLinked scripts same below g)
          (entries_for (stack_of below) s.0.step_kind_from_parent (final_answer s r rebases.node)))
          (by_value s.0.input goal is) (own_linked kinds r rebases.node)
    ]

    pub entries_popped : (goal : I) → All (EntryIsLinked scripts same below goal) (entries_at same new goal)
    entries_popped goal =
        subst (All (EntryIsLinked scripts same below goal)) (sym (rebases.entries goal))
        (All-append (EntryIsLinked scripts same below goal)
        (rebased_for (propagated goal) (overflow goal) reason (stack_of below) s.0 (entries_at same old goal))
        (if enabled && same s.0.input goal
        then entries_for (stack_of below) s.0.step_kind_from_parent (final_answer s r rebases.node) else [])
        (old_linked goal reason refl) (own_at goal enabled (same s.0.input goal) refl refl))

    -- where none may be used there is none
    none_rebased : (goal : I) (why : Option (RebaseReason X I R A T)) (entries : List (ProvisionalCacheEntry X I R A T))
        → entries ≡ [] → rebased_for (propagated goal) (overflow goal) why (stack_of below) s.0 entries ≡ []
    none_rebased goal None entries none = none
    none_rebased goal (Some why) entries none =
        ap (filter_map (rebased (stack_of below) s.0 (changed_for (propagated goal) (overflow goal) why))) none

    pub disabled_popped : enabled ≡ false → (goal : I) → entries_at same new goal ≡ []
    disabled_popped off goal =
        rebases.entries goal
        ∙ ap (λ b. rebased_for (propagated goal) (overflow goal) reason (stack_of below) s.0 (entries_at same old goal)
        ++ (if b && same s.0.input goal
        then entries_for (stack_of below) s.0.step_kind_from_parent (final_answer s r rebases.node) else [])) off
        ∙ ap (λ l. l ++ []) (none_rebased goal reason (entries_at same old goal) (k.disabled off goal))
