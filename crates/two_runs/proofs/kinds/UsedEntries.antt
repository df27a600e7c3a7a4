-- Where the kinds of questions are kept, each provisional entry is used where its goal is asked, and a stored result is
-- passed over where one of its nested goals has an entry.
use Rattle.std.proofs.Common.{◌≡◌, ◌≢◌, ℕ, nat_eq, not, ◌&&◌, ◌||◌, if◌then◌else◌, Bool, true, false, List, [], ◌∷◌}
use Rattle.std.proofs.Common.{IsSome, is_some, Option, None, Some, All, Contains, refl, sym, ap, ◌∙◌, subst, inl, inr}
use Rattle.std.proofs.Common.{eq-eqb, unwrap_or, option_map, arith}
use Rattle.std.specs.List.{find, list_all, list_any}
use Rattle.std.proofs.lemmas.Bool.{and_parts, false≢true}
use Rattle.std.proofs.lemmas.List.Elements.{All-head}
use Rattle.std.proofs.lemmas.Map.Views.{Contains-from_lookup}
use Rattle.path_kinds.proofs.PathLaws.{first_or_later}
use Rattle.path_kinds.proofs.PathMembers.{extended-has}
use Rattle.search_graph.specs.Reaching.{AsksNewest, here, MayReach}
use Rattle.two_runs.specs.Below.{asking_heads, CycleHead, entries_at, extended, has_head_up_to, has_kind, highest}
use Rattle.two_runs.specs.Below.{IsRising, Lists, may_be_used, NestedPaths, OpenGoal, path_kind_from, PathKind}
use Rattle.two_runs.specs.Below.{paths_at, PathsToNested, ProvisionalCacheEntry, rank_of, Reply, Request}
use Rattle.two_runs.specs.Below.{StackDepth, StackEntry}
use Rattle.two_runs.specs.OneKind.{MayLeadTo}
use Rattle.two_runs.specs.Kinds.{AreLinked, EntryIsLinked, IsJoinedTo, IsReachedBy, KeepsKinds, ReachesNested}
use Rattle.search_rules.specs.LookUp.{Asking, could_be_used, is_applicable, meets_entry, usable_entry}
use Rattle.search_rules.specs.Provisional.{EntriesMetNone}
use Rattle.search_rules.proofs.rebasing.HeadOrder.{ascends, highest_there, no_highest}
use Rattle.two_runs.proofs.kinds.NestedPaths.{extended_empty}
use Rattle.two_runs.proofs.kinds.Questions.{greater_same, kind_of_goal, leads_reaches}
use Rattle.search_graph.proofs.called.Reaching.{reaches_on}
use Rattle.two_runs.proofs.kinds.Stack.{stack_leads, stack_of}

-- ---- tests of lists

found_if_all : {E : Type 0} (p : E → Bool) (xs : List E) → All (λ x. p x ≡ true) xs → find p xs ≡ None → xs ≡ []
found_if_all p [] all none = refl
found_if_all p (x ∷ xs) all none = absurd (by (p x) (All-head (λ x. p x ≡ true) x xs all) none)
  where
    by : (b : Bool) → b ≡ true → (if b then Some x else find p xs) ≡ None → ⊥
    by true is found = cc
    by false is found = cc

none_if_all : {E : Type 0} (p : E → Bool) (xs : List E) → All (λ x. p x ≡ true) xs → list_any p xs ≡ false → xs ≡ []
none_if_all p [] all none = refl
none_if_all p (x ∷ xs) all none = absurd (by (p x) (All-head (λ x. p x ≡ true) x xs all) none)
  where
    by : (b : Bool) → b ≡ true → (b || list_any p xs) ≡ false → ⊥
    by true is found = cc
    by false is found = cc

each_passes : {E : Type 0} (p : E → Bool) (xs : List E) (x : E) → list_all p xs ≡ true → Contains xs x → p x ≡ true
each_passes p [] x all (k, l, e) = absurd (omega arith)
each_passes p (y ∷ ys) x all there =
    let both = and_parts (p y) (list_all p ys) all in
    elim (first_or_later y x ys there) [
      | inl first ↦ subst (λ z. p z ≡ true) first both.0
      | inr later ↦ each_passes p ys x both.1 later
    ]

not_true : (b : Bool) → not b ≡ true → b ≡ false
not_true true is = absurd cc
not_true false is = refl

same_ranks : (k l : PathKind) → l ≡ k → nat_eq (rank_of k) (rank_of l) ≡ true
same_ranks k l is = eq-eqb (rank_of k) (rank_of l) (ap rank_of (sym is))

-- each entry rests on heads, which rise
abbrev pub HaveHeads : {X I R A T : Type 0} → (I → I → Bool) → Lists I (ProvisionalCacheEntry X I R A T) → Type 0
HaveHeads {I = I} same entries =
    (goal : I) → All (λ entry. (entry.heads ≢ []) × IsRising entry.heads) (entries_at same entries goal)

module _ {X F I R A T : Type 0} (scripts : I → List (Reply R) → Request I R) (same : I → I → Bool)
    (goals : List (OpenGoal X F I R A T)) (linked : AreLinked scripts same goals) (step : PathKind) (goal : I)
    (asks : AsksNewest scripts goals step goal) where
  -- the highest head of an entry is on the stack, and a walk of questions leads from there to what is asked
  module _ (other : I) (entry : ProvisionalCacheEntry X I R A T) (e : EntryIsLinked scripts same goals other entry)
      (rising : IsRising entry.heads) (head : StackDepth × CycleHead) (top : highest entry.heads ≡ Some head) where
    joined : IsJoinedTo scripts goals other head.0.0
    joined = e.heads head.0 (subst IsSome (sym (highest_there entry.heads head (ascends entry.heads rising) top)) refl)

    walk : MayLeadTo scripts joined.head (path_kind_from (stack_of goals) head.0.0 step) goal
    walk = stack_leads scripts same goals head.0.0 joined.head step goal linked asks joined.is_at

    -- the kind of that is the entry's, if the asked goal reaches the entry's
    path_is : MayReach scripts goal other → path_kind_from (stack_of goals) head.0.0 step ≡ entry.path_from_head
    path_is reaches = kind_of_goal scripts other entry.path_from_head e.kind walk reaches joined.there

    -- also by paths that are added
    added_is : (paths : PathsToNested) → IsReachedBy scripts goal paths other
        → has_kind (extended paths (path_kind_from (stack_of goals) head.0.0 step)) entry.path_from_head ≡ true
    added_is paths (inl itself) =
        let path = path_kind_from (stack_of goals) head.0.0 step in
        subst (λ k. has_kind (extended paths path) k ≡ true)
        (path_is (subst (MayReach scripts goal) (sym itself.1) here)) (extended_empty paths path itself.0)
    added_is paths (inr by) =
        let path = path_kind_from (stack_of goals) head.0.0 step in
        let rest : by.0 ≡ entry.path_from_head = kind_of_goal scripts other entry.path_from_head e.kind by.2 here
        (reaches_on scripts joined.there (leads_reaches scripts walk)) in
        subst (λ k. has_kind (extended paths path) k ≡ true)
        (greater_same path by.0 entry.path_from_head (path_is (leads_reaches scripts by.2)) rest)
        (extended-has paths path by.0 by.1)

  -- an entry of the asked goal may be used
  used_entry : (entry : ProvisionalCacheEntry X I R A T) → EntryIsLinked scripts same goals goal entry
      → entry.heads ≢ [] → IsRising entry.heads → entry.encountered_overflow ≡ false
      → may_be_used (stack_of goals) step entry ≡ true
  used_entry entry e some rising calm = at (highest entry.heads) refl
    where
      test : ℕ → CycleHead → Bool
      test = λ at _. (not entry.encountered_overflow || has_head_up_to at (asking_heads (stack_of goals)))
          && nat_eq (rank_of entry.path_from_head) (rank_of (path_kind_from (stack_of goals) at step))

      at : (o : Option (StackDepth × CycleHead)) → highest entry.heads ≡ o
          → unwrap_or (option_map (λ h. test h.0.0 h.1) (highest entry.heads)) false ≡ true
      at None none = absurd (some (no_highest entry.heads none))
      at (Some head) top =
          ap (λ o. unwrap_or (option_map (λ (h : StackDepth × CycleHead). test h.0.0 h.1) o) false) top
          ∙ ap (λ b. (not b || has_head_up_to head.0.0 (asking_heads (stack_of goals)))
          && nat_eq (rank_of entry.path_from_head) (rank_of (path_kind_from (stack_of goals) head.0.0 step))) calm
          ∙ same_ranks entry.path_from_head (path_kind_from (stack_of goals) head.0.0 step)
          (path_is goal entry e rising head top here)

  -- and one of a goal that is reached from it by the paths could be used
  met_entry : (entries : Lists I (ProvisionalCacheEntry X I R A T)) (other : I) (paths : PathsToNested)
      → IsReachedBy scripts goal paths other → (entry : ProvisionalCacheEntry X I R A T)
      → EntryIsLinked scripts same goals other entry → entry.heads ≢ [] → IsRising entry.heads
      → entry.encountered_overflow ≡ false
      → could_be_used (record { stack = stack_of goals; entries = entries; step = step }) paths entry ≡ true
  met_entry entries other paths reached entry e some rising calm = at (highest entry.heads) refl
    where
      test : ℕ → CycleHead → Bool
      test = λ at _. has_kind (extended paths (path_kind_from (stack_of goals) at step)) entry.path_from_head

      at : (o : Option (StackDepth × CycleHead)) → highest entry.heads ≡ o → (not entry.encountered_overflow
          && unwrap_or (option_map (λ h. test h.0.0 h.1) (highest entry.heads)) false) ≡ true
      at None none = absurd (some (no_highest entry.heads none))
      at (Some head) top =
          ap (λ b. not b
          && unwrap_or (option_map (λ (h : StackDepth × CycleHead). test h.0.0 h.1) (highest entry.heads)) false) calm
          ∙ ap (λ o. unwrap_or (option_map (λ (h : StackDepth × CycleHead). test h.0.0 h.1) o) false) top
          ∙ added_is other entry e rising head top paths reached

  -- ---- the consequences

  module _ (enabled : Bool) (entries : Lists I (ProvisionalCacheEntry X I R A T))
      (k : KeepsKinds scripts same enabled goals entries) (heads : HaveHeads same entries)
      (calm : EntriesMetNone same entries) where
    -- a question that no entry answers is of a goal without entries
    pub none_where_unanswered :
        usable_entry same enabled (record { stack = stack_of goals; entries = entries; step = step }) goal ≡ None
        → entries_at same entries goal ≡ []
    none_where_unanswered none = by enabled refl none
      where
        by : (b : Bool) → enabled ≡ b
            → (if b then find (may_be_used (stack_of goals) step) (entries_at same entries goal) else None) ≡ None
            → entries_at same entries goal ≡ []
        by false off is = k.disabled off goal
        by true there is =
            found_if_all (may_be_used (stack_of goals) step) (entries_at same entries goal)
            (λ i d within. let some = heads goal i d within in
            used_entry _ (k.entries_are goal i d within) some.0 some.1 (calm goal i d within)) is

    -- no goal that is nested in a stored result has an entry, if the result may be used
    pub none_in_used : (nested : NestedPaths I) → ReachesNested scripts same goal nested
        → ((x y : I) → same x y ≡ true → x ≡ y)
        → is_applicable same (record { stack = stack_of goals; entries = entries; step = step }) nested ≡ true
        → (other : I) → IsSome (paths_at same nested other) → entries_at same entries other ≡ []
    none_in_used nested reached by_value may other there = by (paths_at same nested other) refl there
      where
        asking : Asking X I R A T
        asking = record { stack = stack_of goals; entries = entries; step = step }

        not_met : (e : I × PathsToNested) → Contains nested e → meets_entry same asking e.0 e.1 ≡ false
        not_met e among = not_true (meets_entry same asking e.0 e.1)
            (each_passes (λ (g : I × PathsToNested). not (meets_entry same asking g.0 g.1)) nested e (and_parts
            (not (list_any (λ (e : StackEntry X I R A T). is_some (paths_at same nested e.input)) (stack_of goals)))
            (list_all (λ (g : I × PathsToNested). not (meets_entry same asking g.0 g.1)) nested) may).1 among)

        by : (o : Option PathsToNested) → paths_at same nested other ≡ o → IsSome o → entries_at same entries other ≡ []
        by None is some = absurd (false≢true some)
        by (Some paths) is some =
            none_if_all (could_be_used asking paths) (entries_at same entries other)
            (λ i d within. let some = heads other i d within in met_entry entries other paths (reached other paths is) _
            (k.entries_are other i d within) some.0 some.1 (calm other i d within))
            (not_met (other, paths) (Contains-from_lookup by_value other paths nested is))
