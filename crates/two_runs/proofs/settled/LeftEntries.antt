-- Which entries are left where the newest goal is run again or popped: those that are older than the goal are what they
-- were, and each later one was there with its node and result, or it is the goal's own answer.
use Rattle.std.proofs.Common.{◌≡◌, ◌≢◌, ◌<◌, ◌≤◌, ◌-◌, ◌&&◌, if◌then◌else◌, ℕ, nat_eq, not, suc, All, Bool, true, false}
use Rattle.std.proofs.Common.{Contains, filter, List, [], ◌∷◌, length, map, reverse, None, Option, Some, IsSome, refl}
use Rattle.std.proofs.Common.{sym, ap, ◌∙◌, subst, ◌⊎◌, inl, inr, arith}
use Rattle.std.specs.List.{cons_option, filter_map}
use Rattle.std.specs.Option.{IsSomeAnd, option_map, unwrap_or}
use Rattle.std.proofs.lemmas.Bool.Decides.{nat_tests}
use Rattle.std.proofs.lemmas.List.{length-map}
use Rattle.std.proofs.lemmas.List.Elements.{All-cons, All-contains, All-contains_itself, All-head, All-nil, All-tail}
use Rattle.std.proofs.lemmas.List.Elements.{Contains-append_cases, Contains-append_left}
use Rattle.list_lemmas.proofs.Members.{Contains-filtered, contains_later, filtered_member, first_or_later}
use Rattle.two_runs.specs.Below.{Ambiguity, changed_for, CycleHead, depends_on, entries_at, has_usages, HeadUsages}
use Rattle.two_runs.specs.Below.{highest, IsRising, Lists, NoCycleUsages, NodeId, OpenGoal, other_usages, Overflow}
use Rattle.two_runs.specs.Below.{ProvisionalCacheEntry, ReachedFixpoint, rebased, rebased_at, RebaseReason}
use Rattle.two_runs.specs.Below.{StackDepth, StackEntry}
use Rattle.search_rules.specs.Justified.{cycles_node}
use Rattle.two_runs.specs.Older.{HasEntry, RestOnOlder}
use Rattle.search_rules.specs.Provisional.{entries_for, entry_of, rebased_for, RebasesEntries}
use Rattle.search_rules.specs.Results.{final_answer}
use Rattle.search_rules.specs.Runs.{run_of, runs_of}
use Rattle.search_rules.proofs.rebasing.HeadOrder.{ascends, highest_there}
use Rattle.two_runs.proofs.settled.OlderEntries.{same_node, StaySame}
use Rattle.search_rules.proofs.entries.Ready.{on_stack_many}
use Rattle.search_rules.proofs.rebasing.Cases.{IsRebased, is_rebased, NotUsed, Still, Used}

-- ---- what is given of elements

module _ {X Y : Type 0} (f : X → Option Y) where
  -- what is given of one of the elements is there,
  given_stays : (xs : List X) (x : X) (y : Y) → Contains xs x → f x ≡ Some y → Contains (filter_map f xs) y
  given_stays [] x y there is = (let none = there.1 in absurd (omega (arith, none)))
  given_stays (z ∷ xs) x y there is = elim (first_or_later z x xs there) [
    | inl here ↦ rw (ap f here ∙ is) (0, omega arith, refl)
    | inr later ↦ at (f z) (given_stays xs x y later is)
  ]
    where
      at : (o : Option Y) → Contains (filter_map f xs) y → Contains (cons_option o (filter_map f xs)) y
      at None has = has
      at (Some w) has = contains_later y w (filter_map f xs) has

  -- and all that is there was given
  record IsGiven (xs : List X) (y : Y) : Type 0 where
    element : X
    there : Contains xs element
    is : f element ≡ Some y

  all_given : (P : X → Type 0) (Q : Y → Type 0) → ((x : X) (y : Y) → P x → f x ≡ Some y → Q y) → (xs : List X)
      → All P xs → All Q (filter_map f xs)
  all_given P Q gives [] all = All-nil Q
  all_given P Q gives (x ∷ xs) all = at (f x) refl (all_given P Q gives xs (All-tail P x xs all))
    where
      at : (o : Option Y) → f x ≡ o → All Q (filter_map f xs) → All Q (cons_option (f x) (filter_map f xs))
      at None none rest = rw none rest
      at (Some y) some rest = rw some (All-cons Q y (filter_map f xs) (gives x y (All-head P x xs all) some) rest)

  given_comes : (xs : List X) (y : Y) → Contains (filter_map f xs) y → IsGiven xs y
  given_comes xs y there =
      All-contains (IsGiven xs) (filter_map f xs) y
      (all_given (Contains xs) (IsGiven xs)
      (λ x given has is. record { element = x; there = has; is = is }) xs (All-contains_itself xs)) there

-- ---- one entry

module _ {X I R A T : Type 0} where
  -- it is left with its result and node, or without a node
  abbrev IsLeftAs : (before after : ProvisionalCacheEntry X I R A T) → Type 0
  IsLeftAs before after = ((after.result ≡ before.result) × (after.node ≡ before.node)) ⊎ (after.node ≡ None)

  unchanged : (before after : ProvisionalCacheEntry X I R A T) → Some before ≡ Some after → IsLeftAs before after
  unchanged before after is = let one : before ≡ after = cc in subst (IsLeftAs before) one (inl (refl, refl))

  replaced : (before after : ProvisionalCacheEntry X I R A T) (result : R)
      → Some (record before { result = result; node = None }) ≡ Some after → IsLeftAs before after
  replaced before after result is =
      let one : record before { result = result; node = None } ≡ after = cc in subst (IsLeftAs before) one (inr refl)

  changed_as : (propagated : A → R) (overflow : R) (reason : RebaseReason X I R A T) (usages : HeadUsages)
      (before after : ProvisionalCacheEntry X I R A T)
      → changed_for propagated overflow reason usages before ≡ Some after → IsLeftAs before after
  changed_as propagated overflow NoCycleUsages usages before after is = absurd cc
  changed_as propagated overflow (Ambiguity info) usages before after is = replaced before after (propagated info) is
  changed_as propagated overflow Overflow usages before after is = replaced before after overflow is
  changed_as propagated overflow (ReachedFixpoint None) usages before after is = unchanged before after is
  changed_as propagated overflow (ReachedFixpoint (Some kind)) usages before after is =
      at (has_usages (other_usages usages kind)) is
    where
      at : (b : Bool) → (if b then None else Some before) ≡ Some after → IsLeftAs before after
      at true is = absurd cc
      at false is = unchanged before after is

  module _ (stack : List (StackEntry X I R A T)) (done : StackEntry X I R A T) where
    rebased_as : (propagated : A → R) (overflow : R) (reason : RebaseReason X I R A T)
        (entry after : ProvisionalCacheEntry X I R A T)
        → rebased stack done (changed_for propagated overflow reason) entry ≡ Some after → IsLeftAs entry after
    rebased_as propagated overflow reason entry after is =
        at (is_rebased stack done (changed_for propagated overflow reason) entry after is)
      where
        at : IsRebased stack done (changed_for propagated overflow reason) entry after → IsLeftAs entry after
        at (Still other same) = subst (IsLeftAs entry) same (inl (refl, refl))
        at (NotUsed head top place none new) = inl (new.same_result, new.same_node)
        at (Used head changed top place used keeps ends new) =
            elim (changed_as propagated overflow reason head.1.usages entry changed ends) [
              | inl kept ↦ inl (new.same_result ∙ kept.0, new.same_node ∙ kept.1)
              | inr gone ↦ inr (new.same_node ∙ gone)
            ]

    -- and stays as it is, where the goal that is done is none of its heads
    rebased_stays : (change : HeadUsages → ProvisionalCacheEntry X I R A T → Option (ProvisionalCacheEntry X I R A T))
        (entry : ProvisionalCacheEntry X I R A T)
        → ((head : StackDepth × CycleHead) → highest entry.heads ≡ Some head → head.0.0 ≢ length stack)
        → rebased stack done change entry ≡ Some entry
    rebased_stays change entry other = at (highest entry.heads) refl
      where
        differ : (a b : ℕ) → a ≢ b → nat_eq a b ≡ false
        differ a b other = grind (arith, nat_tests)

        at : (o : Option (StackDepth × CycleHead)) → highest entry.heads ≡ o
            → rebased_at stack done change entry o ≡ Some entry
        at None none = refl
        at (Some head) some = rw (differ head.0.0 (length stack) (other head some)) refl

-- ---- all entries

-- what is left of the entries, where the newest goal, which began with this node, is done with the result
pub record LeavesEntries {X I R A T : Type 0} (same : I → I → Bool) (first : ℕ) (own : I) (r : R)
    (old new : Lists I (ProvisionalCacheEntry X I R A T)) : Type 0 where
  pub stay : StaySame same (λ node. node < first) old new
  pub since : (goal : I) (entry : ProvisionalCacheEntry X I R A T) (node : ℕ)
      → HasEntry same new goal entry node → first ≤ node
      → ((before : ProvisionalCacheEntry X I R A T) × HasEntry same old goal before node
      × (before.result ≡ entry.result)) ⊎ ((goal ≡ own) × (node ≡ first) × (entry.result ≡ r))

module _ {X F I R A T : Type 0} (same : I → I → Bool) (s : OpenGoal X F I R A T) (below : List (OpenGoal X F I R A T))
    (old new : Lists I (ProvisionalCacheEntry X I R A T))
    (older : RestOnOlder same old (map cycles_node (runs_of (s ∷ below))))
    (rising : (goal : I) (entry : ProvisionalCacheEntry X I R A T) (node : ℕ)
    → HasEntry same old goal entry node → IsRising entry.heads) where
  -- an older entry doesn't rest on the newest goal
  older_other : (goal : I) (entry : ProvisionalCacheEntry X I R A T) (node : ℕ) → HasEntry same old goal entry node
      → node < cycles_node (run_of s) → (head : StackDepth × CycleHead)
      → highest entry.heads ≡ Some head → head.0.0 ≢ length below
  older_other goal entry node has before head top here =
      let asc = ascends entry.heads (rising goal entry node has) in
      let began = older goal entry node has head.0 (subst IsSome (sym (highest_there entry.heads head asc top)) refl) in
      let after = began.0 (here ∙ sym (length-map (runs_of below) cycles_node ∙ length-map below run_of)) in
      omega (arith, after, before)

  -- the newest goal is run again
  module _ (cleared : (goal : I) → entries_at same new goal ≡ filter
      (λ entry. not (depends_on (record { 0 = length (s ∷ below) - 1 }) entry)) (entries_at same old goal)) where
    abbrev left : ProvisionalCacheEntry X I R A T → Bool
    left entry = not (depends_on (record { 0 = length (s ∷ below) - 1 }) entry)

    pub cleared_comes : (goal : I) (entry : ProvisionalCacheEntry X I R A T) (node : ℕ)
        → HasEntry same new goal entry node → HasEntry same old goal entry node
    cleared_comes goal entry node has = record {
      there = (filtered_member left (entries_at same old goal) entry
          (subst (λ l. Contains l entry) (cleared goal) has.there)).0;
      node_is = has.node_is;
    }

    passes_not : (entry : ProvisionalCacheEntry X I R A T)
        → ((head : StackDepth × CycleHead) → highest entry.heads ≡ Some head → head.0.0 ≢ length below)
        → left entry ≡ true
    passes_not entry other = at (highest entry.heads) refl
      where
        fails : (a n : ℕ) (b : Bool) → a ≢ n → not (nat_eq a (suc n - 1) && b) ≡ true
        fails a n b apart = let no : nat_eq a (suc n - 1) ≡ false = grind (arith, nat_tests) in rw no refl

        at : (o : Option (StackDepth × CycleHead)) → highest entry.heads ≡ o → not (unwrap_or
            (option_map (λ (h : StackDepth × CycleHead). nat_eq h.0.0 (length (s ∷ below) - 1) && has_usages h.1.usages)
            o) false) ≡ true
        at None none = refl
        at (Some head) some = fails head.0.0 (length below) (has_usages head.1.usages) (other head some)

    pub cleared_stay : StaySame same (λ node. node < cycles_node (run_of s)) old new
    cleared_stay = record {
      stays = λ goal entry node has before. record {
        there = subst (λ l. Contains l entry) (sym (cleared goal)) (Contains-filtered left (entries_at same old goal)
            entry has.there (passes_not entry (older_other goal entry node has before)));
        node_is = has.node_is;
      };
      comes = λ goal entry node has before. cleared_comes goal entry node has;
    }

  -- it is popped
  module _ (by_value : (x y : I) → same x y ≡ true → x ≡ y) (enabled : Bool) (propagated : I → A → R) (overflow : I → R)
      (reason : Option (RebaseReason X I R A T)) (r : R)
      (rebases : RebasesEntries same enabled propagated overflow reason r s below old new)
      (node_is : IsSomeAnd rebases.node (λ n. n.0 ≡ cycles_node (run_of s))) where
    abbrev stack : List (StackEntry X I R A T)
    stack = reverse (map (λ p. p.0) below)

    abbrev rest : I → List (ProvisionalCacheEntry X I R A T)
    rest goal = rebased_for (propagated goal) (overflow goal) reason stack s.0 (entries_at same old goal)

    abbrev own : I → List (ProvisionalCacheEntry X I R A T)
    own goal = if enabled && same s.0.input goal
        then entries_for stack s.0.step_kind_from_parent (final_answer s r rebases.node) else []

    stays_there : (goal : I) (entry : ProvisionalCacheEntry X I R A T) (node : ℕ) → HasEntry same old goal entry node
        → node < cycles_node (run_of s) → (why : RebaseReason X I R A T)
        → rebased stack s.0 (changed_for (propagated goal) (overflow goal) why) entry ≡ Some entry
    stays_there goal entry node has before why =
        rebased_stays stack s.0 (changed_for (propagated goal) (overflow goal) why) entry
        (λ head top. subst (λ n. head.0.0 ≢ n) (sym (on_stack_many below))
        (older_other goal entry node has before head top))

    popped_stays : (goal : I) (entry : ProvisionalCacheEntry X I R A T) (node : ℕ) → HasEntry same old goal entry node
        → node < cycles_node (run_of s) → HasEntry same new goal entry node
    popped_stays goal entry node has before = record {
      there = subst (λ l. Contains l entry) (sym (rebases.entries goal))
          (Contains-append_left (rest goal) (own goal) entry (at reason));
      node_is = has.node_is;
    }
      where
        at : (why : Option (RebaseReason X I R A T))
            → Contains (rebased_for (propagated goal) (overflow goal) why stack s.0 (entries_at same old goal)) entry
        at None = has.there
        at (Some why) = given_stays (rebased stack s.0 (changed_for (propagated goal) (overflow goal) why))
            (entries_at same old goal) entry entry has.there (stays_there goal entry node has before why)

    -- an entry that is left was there with its node and result, or it is the goal's own
    record WasThere (goal : I) (entry : ProvisionalCacheEntry X I R A T) (node : ℕ) : Type 0 where
      before : ProvisionalCacheEntry X I R A T
      has : HasEntry same old goal before node
      result_is : before.result ≡ entry.result
      as_it_was : node < cycles_node (run_of s) → before ≡ entry

    left_as : (goal : I) (why : RebaseReason X I R A T) (before entry : ProvisionalCacheEntry X I R A T) (node : ℕ)
        → Contains (entries_at same old goal) before
        → rebased stack s.0 (changed_for (propagated goal) (overflow goal) why) before ≡ Some entry
        → entry.node ≡ Some (record { 0 = node }) → WasThere goal entry node
    left_as goal why before entry node there is node_is =
        at (rebased_as stack s.0 (propagated goal) (overflow goal) why before entry is)
      where
        no_node : (n : NodeId) (o : Option NodeId) → o ≡ Some n → o ≡ None → ⊥
        no_node n o some none = cc

        one_of : (x y : ProvisionalCacheEntry X I R A T) → Some x ≡ Some y → x ≡ y
        one_of x y same = cc

        at : IsLeftAs before entry → WasThere goal entry node
        at (inl kept) =
            let has : HasEntry same old goal before node = record { there = there; node_is = sym kept.1 ∙ node_is } in
            record {
              before = before;
              has = has;
              result_is = sym kept.0;
              as_it_was = λ lower. one_of before entry (sym (stays_there goal before node has lower why) ∙ is);
            }
        at (inr gone) = absurd (no_node (record { 0 = node }) entry.node node_is gone)

    rest_was : (goal : I) (entry : ProvisionalCacheEntry X I R A T) (node : ℕ) → entry.node ≡ Some (record { 0 = node })
        → Contains (rest goal) entry → WasThere goal entry node
    rest_was goal entry node node_is there = at reason there
      where
        at : (why : Option (RebaseReason X I R A T))
            → Contains (rebased_for (propagated goal) (overflow goal) why stack s.0 (entries_at same old goal)) entry
            → WasThere goal entry node
        at None there = record {
          before = entry;
          has = record { there = there; node_is = node_is };
          result_is = refl;
          as_it_was = λ lower. refl;
        }
        at (Some why) there =
            let given = given_comes (rebased stack s.0 (changed_for (propagated goal) (overflow goal) why))
            (entries_at same old goal) entry there in
            left_as goal why given.element entry node given.there given.is node_is

    -- the goal's own answer
    record IsOwn (goal : I) (entry : ProvisionalCacheEntry X I R A T) : Type 0 where
      of_goal : goal ≡ s.0.input
      with_node : entry.node ≡ rebases.node
      result_is : entry.result ≡ r

    own_is : (goal : I) (entry : ProvisionalCacheEntry X I R A T) → Contains (own goal) entry → IsOwn goal entry
    own_is goal entry there = at enabled (same s.0.input goal) refl there
      where
        single : (x : ProvisionalCacheEntry X I R A T) → Contains (x ∷ []) entry → x ≡ entry
        single x has = elim (first_or_later x entry [] has) [
          | inl here ↦ here
          | inr later ↦ (let none = later.1 in absurd (omega (arith, none)))
        ]

        by : goal ≡ s.0.input → (o : Option (StackDepth × CycleHead)) → Contains (elim o [
          | None ↦ []
          | Some head ↦ entry_of stack head.0.0 s.0.step_kind_from_parent (final_answer s r rebases.node) ∷ []
        ]) entry → IsOwn goal entry
        by of_goal None there = (let none = there.1 in absurd (omega (arith, none)))
        by of_goal (Some head) there =
            let one =
            single (entry_of stack head.0.0 s.0.step_kind_from_parent (final_answer s r rebases.node)) there in
            subst (IsOwn goal) one (record { of_goal = of_goal; with_node = refl; result_is = refl })

        at : (on one : Bool) → same s.0.input goal ≡ one → Contains
            (if on && one then entries_for stack s.0.step_kind_from_parent (final_answer s r rebases.node) else [])
            entry → IsOwn goal entry
        at true true is there = by (sym (by_value s.0.input goal is)) (highest s.0.state.heads) there
        at true false is there = (let none = there.1 in absurd (omega (arith, none)))
        at false one is there = (let none = there.1 in absurd (omega (arith, none)))

    own_first : (o : Option NodeId) (node : ℕ) → IsSomeAnd o (λ n. n.0 ≡ cycles_node (run_of s))
        → o ≡ Some (record { 0 = node }) → node ≡ cycles_node (run_of s)
    own_first None node is some = absurd is
    own_first (Some n) node is some = same_node node n.0 (Some n) some refl ∙ is

    cases : (goal : I) (entry : ProvisionalCacheEntry X I R A T) (node : ℕ) → HasEntry same new goal entry node
        → WasThere goal entry node ⊎ ((goal ≡ s.0.input) × (node ≡ cycles_node (run_of s)) × (entry.result ≡ r))
    cases goal entry node has = elim (Contains-append_cases (rest goal) (own goal) entry
        (subst (λ l. Contains l entry) (rebases.entries goal) has.there)) [
          | inl there ↦ inl (rest_was goal entry node has.node_is there)
          | inr there ↦ let is = own_is goal entry there in
              inr (is.of_goal, own_first rebases.node node node_is (sym is.with_node ∙ has.node_is), is.result_is)
        ]

    pub popped_leaves : LeavesEntries same (cycles_node (run_of s)) s.0.input r old new
    popped_leaves = record {
      stay = record {
        stays = popped_stays;
        comes = λ goal entry node has before. elim (cases goal entry node has) [
          | inl was ↦ subst (λ (e : ProvisionalCacheEntry X I R A T). HasEntry same old goal e node)
              (was.as_it_was before) was.has
          | inr own ↦ (let at = own.1 in absurd (omega (arith, at, before)))
        ];
      };
      since = λ goal entry node has after.
          elim (cases goal entry node has) [ inl was ↦ inl (was.before, was.has, was.result_is) | inr own ↦ inr own ];
    }
