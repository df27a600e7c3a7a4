-- Each move keeps provisional entries apart from the goals under evaluation and from lone goals.
use Rattle.std.proofs.Common.{◌≡◌, ◌≢◌, ◌≤◌, ◌&&◌, if◌then◌else◌, Bool, true, false, List, [], ◌∷◌, ◌++◌, length}
use Rattle.std.proofs.Common.{Option, None, Some, Contains, refl, sym, ap, ◌∙◌, subst, ◌⊎◌, inl, inr, arith, filter}
use Rattle.std.specs.List.{cons_option, filter_map}
use Rattle.std.specs.Option.{IsSomeAnd}
use Rattle.std.proofs.lemmas.List.{length-append}
use Rattle.std.proofs.lemmas.List.Elements.{All-contains, All-contains_itself, Contains-append_cases}
use Rattle.global_cache.proofs.Stores.{put_cases}
use Rattle.list_lemmas.proofs.Members.{filtered_member}
use Rattle.provisional_cache.proofs.RebasedEntryLists.{All-filter_map}
use Rattle.two_runs.specs.Below.{changed_for, CycleHead, entries_at, highest, Lists, NodeId, OpenGoal, place_of}
use Rattle.two_runs.specs.Below.{ProvisionalCacheEntry, rebased, RebaseReason, StackDepth, Store, stored_from}
use Rattle.two_runs.specs.Below.{StoredResult, Success}
use Rattle.search_rules.specs.Results.{NotStored, Put, StoresAnswer}
use Rattle.search_rules.specs.Runs.{runs_of}
use Rattle.search_rules.specs.Words.{entries_for, entry_of, final_answer, rebased_for, RebasesEntries}
use Rattle.two_runs.specs.Apart.{StandApart}
use Rattle.two_runs.specs.Settled.{IsOff}
use Rattle.two_runs.specs.Lone.{IsLone}
use Rattle.two_runs.proofs.kinds.Stack.{stack_of}

-- ---- lists

none_among : {E : Type 0} (x : E) → Contains [] x → ⊥
none_among x (k, l, e) = omega (arith, l)

given_from : {E : Type 0} (f : E → Option E) (xs : List E) (y : E)
    → Contains (filter_map f xs) y → (x : E) × Contains xs x
given_from {E} f xs y there = All-contains (λ _. (x : E) × Contains xs x) (filter_map f xs) y (All-filter_map
    (Contains xs) (λ _. (x : E) × Contains xs x) f (λ x y has is. (x, has)) xs (All-contains_itself xs)) there

given_shorter : {E : Type 0} (f : E → Option E) (xs : List E) → length (filter_map f xs) ≤ length xs
given_shorter f [] = omega arith
given_shorter f (x ∷ xs) = by (f x) (given_shorter f xs)
  where
    by : (o : Option _) → length (filter_map f xs) ≤ length xs
        → length (cons_option o (filter_map f xs)) ≤ length (x ∷ xs)
    by None rest = omega (arith, rest)
    by (Some y) rest = omega (arith, rest)

filtered_shorter : {E : Type 0} (p : E → Bool) (xs : List E) → length (filter p xs) ≤ length xs
filtered_shorter p [] = omega arith
filtered_shorter p (x ∷ xs) = by (p x) (filtered_shorter p xs)
  where
    by : (b : Bool) → length (filter p xs) ≤ length xs
        → length (if b then x ∷ filter p xs else filter p xs) ≤ length (x ∷ xs)
    by true rest = omega (arith, rest)
    by false rest = omega (arith, rest)

-- ---- what stays

module _ {X F I R A T : Type 0} (same : I → I → Bool) where
  -- the goals under evaluation are the same, or fewer
  pub apart_over : (results : Store I (StoredResult I R T)) (old new : List (OpenGoal X F I R A T))
      (entries : Lists I (ProvisionalCacheEntry X I R A T))
      → ((goal : I) → IsOff (runs_of old) goal → IsOff (runs_of new) goal) → StandApart same results old entries
      → StandApart same results new entries
  apart_over results old new entries stay h =
      record { one = h.one; off = λ goal entry there. stay goal (h.off goal entry there); not_lone = h.not_lone }

  -- another state of the newest goal
  pub off_changed : (s t : OpenGoal X F I R A T) (below : List (OpenGoal X F I R A T)) → s.0.input ≡ t.0.input
      → (goal : I) → IsOff (runs_of (s ∷ below)) goal → IsOff (runs_of (t ∷ below)) goal
  off_changed s t below is goal off = (λ same_goal. off.0 (same_goal ∙ sym is), off.1)

  -- a goal without entries is pushed
  pub apart_pushed : (results : Store I (StoredResult I R T)) (s : OpenGoal X F I R A T)
      (below : List (OpenGoal X F I R A T)) (entries : Lists I (ProvisionalCacheEntry X I R A T))
      → entries_at same entries s.0.input ≡ [] → StandApart same results below entries
      → StandApart same results (s ∷ below) entries
  apart_pushed results s below entries none h = record {
    one = h.one;
    off = λ goal entry there. (
      λ is. none_among entry
          (subst (λ l. Contains l entry) none (subst (λ g. Contains (entries_at same entries g) entry) is there)),
      h.off goal entry there,
    );
    not_lone = h.not_lone;
  }

  -- entries are cleared
  pub apart_cleared : (results : Store I (StoredResult I R T)) (goals : List (OpenGoal X F I R A T))
      (old new : Lists I (ProvisionalCacheEntry X I R A T)) (stays : ProvisionalCacheEntry X I R A T → Bool)
      → ((goal : I) → entries_at same new goal ≡ filter stays (entries_at same old goal))
      → StandApart same results goals old → StandApart same results goals new
  apart_cleared results goals old new stays cleared h = record {
    one = λ goal. (let less = filtered_shorter stays (entries_at same old goal) in let one = h.one goal in
        subst (λ l. length l ≤ 1) (sym (cleared goal)) (omega (arith, less, one)));
    off = λ goal entry there. h.off goal entry (before goal entry there);
    not_lone = λ goal entry there. h.not_lone goal entry (before goal entry there);
  }
    where
      before : (goal : I) (entry : ProvisionalCacheEntry X I R A T) → Contains (entries_at same new goal) entry
          → Contains (entries_at same old goal) entry
      before goal entry there = (filtered_member stays (entries_at same old goal) entry
          (subst (λ l. Contains l entry) (cleared goal) there)).0

  -- there are none
  pub apart_none : (results : Store I (StoredResult I R T)) (goals : List (OpenGoal X F I R A T))
      (entries : Lists I (ProvisionalCacheEntry X I R A T))
      → ((goal : I) → entries_at same entries goal ≡ []) → StandApart same results goals entries
  apart_none results goals entries none = record {
    one = λ goal. subst (λ l. length l ≤ 1) (sym (none goal)) (omega arith);
    off = λ goal entry there. absurd (none_among entry (subst (λ l. Contains l entry) (none goal) there));
    not_lone = λ goal entry there lone. none_among entry (subst (λ l. Contains l entry) (none goal) there);
  }

-- ---- the newest goal is popped

module _ {X F I R A T : Type 0} (same : I → I → Bool) (by_value : (x y : I) → same x y ≡ true → x ≡ y)
    (results later : Store I (StoredResult I R T)) (s : OpenGoal X F I R A T) (below : List (OpenGoal X F I R A T))
    (enabled : Bool) (propagated : I → A → R) (overflow : I → R) (reason : Option (RebaseReason X I R A T)) (r : R)
    (target : Option NodeId) (old new : Lists I (ProvisionalCacheEntry X I R A T))
    (h : StandApart same results (s ∷ below) old)
    (rebases : RebasesEntries same enabled propagated overflow reason r s below old new)
    (stores : StoresAnswer same results later s.0.input (final_answer s r target))
    (not_lone : IsLone same results s.0.input → ⊥) (off : IsOff (runs_of below) s.0.input) where
  abbrev rebased_at : I → List (ProvisionalCacheEntry X I R A T) → List (ProvisionalCacheEntry X I R A T)
  rebased_at goal entries = rebased_for (propagated goal) (overflow goal) reason (stack_of below) s.0 entries

  abbrev own : List (ProvisionalCacheEntry X I R A T)
  own = entries_for (stack_of below) s.0.step_kind_from_parent (final_answer s r rebases.node)

  rebased_from : (goal : I) (entries : List (ProvisionalCacheEntry X I R A T)) (why : Option (RebaseReason X I R A T))
      (entry : ProvisionalCacheEntry X I R A T)
      → Contains (rebased_for (propagated goal) (overflow goal) why (stack_of below) s.0 entries) entry
      → (before : ProvisionalCacheEntry X I R A T) × Contains entries before
  rebased_from goal entries None entry there = (entry, there)
  rebased_from goal entries (Some why) entry there =
      given_from (rebased (stack_of below) s.0 (changed_for (propagated goal) (overflow goal) why)) entries entry there

  rebased_shorter :
      (goal : I) (entries : List (ProvisionalCacheEntry X I R A T)) (why : Option (RebaseReason X I R A T))
      → length (rebased_for (propagated goal) (overflow goal) why (stack_of below) s.0 entries) ≤ length entries
  rebased_shorter goal entries None = omega arith
  rebased_shorter goal entries (Some why) =
      given_shorter (rebased (stack_of below) s.0 (changed_for (propagated goal) (overflow goal) why)) entries

  -- the goal that is done had no entry
  none_of_own : entries_at same old s.0.input ≡ []
  none_of_own = by (entries_at same old s.0.input) refl
    where
      by : (l : List (ProvisionalCacheEntry X I R A T)) → entries_at same old s.0.input ≡ l → l ≡ []
      by [] is = refl
      by (entry ∷ rest) is =
          absurd ((h.off s.0.input entry (subst (λ l. Contains l entry) (sym is) (0, omega arith, refl))).0 refl)

  at_most_one : (o : Option (StackDepth × CycleHead)) → length {A = ProvisionalCacheEntry X I R A T} (elim o [
    | None ↦ []
    | Some head ↦ entry_of (stack_of below) head.0.0 s.0.step_kind_from_parent (final_answer s r rebases.node) ∷ []
  ]) ≤ 1
  at_most_one None = omega arith
  at_most_one (Some head) = omega arith

  own_rests : (entry : ProvisionalCacheEntry X I R A T) → Contains own entry → s.0.state.heads ≢ []
  own_rests entry there = by (highest s.0.state.heads) refl there
    where
      by : (o : Option (StackDepth × CycleHead)) → highest s.0.state.heads ≡ o → Contains (elim o [
        | None ↦ []
        | Some head ↦ entry_of (stack_of below) head.0.0 s.0.step_kind_from_parent (final_answer s r rebases.node) ∷ []
      ]) entry → s.0.state.heads ≢ []
      by None top has = absurd (none_among entry has)
      by (Some head) top has = λ none. (let wrong : None ≡ Some head = ap highest (sym none) ∙ top in absurd cc)

  -- what is lone was so before, or is the goal that is done and rests on no goal
  lone_from : StoresAnswer same results later s.0.input (final_answer s r target) → (goal : I) → IsLone same later goal
      → ((s.0.input ≡ goal) × (s.0.state.heads ≡ [])) ⊎ IsLone same results goal
  lone_from (NotStored is) goal lone = inr (subst (λ stored. IsLone same stored goal) is lone)
  lone_from (Put token none puts) goal lone = elim (put_cases same by_value results later s.0.input
      (place_of (final_answer s r target)) (stored_from (final_answer s r target) token) puts goal Success) [
        | inl here ↦ inl (here.0, none)
        | inr unchanged ↦ inr (subst (λ o. IsSomeAnd o (λ t. t.nested_goals ≡ [])) unchanged lone)
      ]

  -- ---- an entry that is there is one that was there, or the goal's own

  data IsFrom (goal : I) : Type 0 where
    Before : (entry : ProvisionalCacheEntry X I R A T) → Contains (entries_at same old goal) entry → IsFrom goal
    Own : s.0.input ≡ goal → s.0.state.heads ≢ [] → IsFrom goal

  from : (goal : I) (entry : ProvisionalCacheEntry X I R A T) → Contains (entries_at same new goal) entry → IsFrom goal
  from goal entry there =
      elim (Contains-append_cases (rebased_at goal (entries_at same old goal))
      (if enabled && same s.0.input goal then own else []) entry
      (subst (λ l. Contains l entry) (rebases.entries goal) there)) [
        | inl was ↦ let x = rebased_from goal (entries_at same old goal) reason entry was in Before x.0 x.1
        | inr added ↦ by enabled (same s.0.input goal) refl added
      ]
    where
      by : (on one : Bool) → same s.0.input goal ≡ one → Contains (if on && one then own else []) entry → IsFrom goal
      by false one is has = absurd (none_among entry has)
      by true false is has = absurd (none_among entry has)
      by true true is has = Own (by_value s.0.input goal is) (own_rests entry has)

  one_at : (goal : I) (on one : Bool) → same s.0.input goal ≡ one
      → length (rebased_at goal (entries_at same old goal) ++ (if on && one then own else [])) ≤ 1
  one_at goal on one is = by on one is
    where
      few : length (rebased_at goal (entries_at same old goal) ++ []) ≤ 1
      few =
          let parts = length-append (rebased_at goal (entries_at same old goal)) [] in
          let less = rebased_shorter goal (entries_at same old goal) reason in
          let before = h.one goal in
          omega (arith, parts, less, before)

      by : (on one : Bool) → same s.0.input goal ≡ one
          → length (rebased_at goal (entries_at same old goal) ++ (if on && one then own else [])) ≤ 1
      by false one is = few
      by true false is = few
      by true true is =
          let none = subst (λ g. entries_at same old g ≡ []) (by_value s.0.input goal is) none_of_own in
          let parts = length-append (rebased_at goal (entries_at same old goal)) own in
          let less = rebased_shorter goal (entries_at same old goal) reason in
          let nothing : length (entries_at same old goal) ≡ 0 = ap length none in
          let last = at_most_one (highest s.0.state.heads) in
          omega (arith, parts, less, nothing, last)

  pub apart_popped : StandApart same later below new
  apart_popped = record {
    one =
        λ goal. subst (λ l. length l ≤ 1) (sym (rebases.entries goal)) (one_at goal enabled (same s.0.input goal) refl);
    off = λ goal entry there. elim (from goal entry there) [
      | Before before was ↦ (h.off goal before was).1
      | Own is rests ↦ subst (IsOff (runs_of below)) is off
    ];
    not_lone = λ goal entry there lone. elim (lone_from stores goal lone) [
      | inl here ↦ elim (from goal entry there) [
        | Before before was ↦ (h.off goal before was).0 (sym here.0)
        | Own is rests ↦ rests here.1
      ]
      | inr still ↦ elim (from goal entry there) [
        | Before before was ↦ h.not_lone goal before was still
        | Own is rests ↦ not_lone (subst (IsLone same results) (sym is) still)
      ]
    ];
  }
