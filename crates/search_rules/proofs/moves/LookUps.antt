-- Which stored results are used.
use Rattle.std.proofs.Common.{◌≡◌, ◌≢◌, ℕ, ◌<◌, ◌≤◌, Bool, true, false, not, ◌&&◌, ◌||◌, cond, List, [], ◌∷◌, map}
use Rattle.std.proofs.Common.{reverse, is_some, Option, None, Some, All, length, get_or, refl, sym, ap, ap₂, ◌∙◌, subst}
use Rattle.std.proofs.Common.{inl, inr, nat_lt, ◌+◌, lt-ltb, le-ltb, suc, arith}
use Rattle.std.specs.List.{list_all, list_any, position, position_or_len}
use Rattle.std.specs.Option.{IfSome, option_map}
use Rattle.std.proofs.lemmas.List.Elements.{All-get_or}
use Rattle.search_rules.specs.Below.{highest, Request, Reply, CacheData, Success, WithOverflow, StoredResult, PathKind}
use Rattle.search_rules.specs.Below.{ProvisionalCacheEntry, StackEntry, Lists, entries_at, Hit, hit_of, first_accepted}
use Rattle.search_rules.specs.Below.{usable, NestedPaths, paths_at, IsPlain, IsBelowRank, Store}
use Rattle.std.proofs.lemmas.Bool.{cases_Bool, cases_lt}
use Rattle.std.proofs.lemmas.Map.Made.{is_some-lookup}
use Rattle.search_stack.specs.Words.{position_of}
use Rattle.global_cache.proofs.Stored.{used_holds}
use Rattle.search_rules.specs.Words.{is_applicable, meets_entry, AreOnStack, Asking, IsUsable}

-- ---- a goal that two lists have in common is found by walking either of them

or-middle : (a b c d : Bool) → ((a || b) || (c || d)) ≡ ((a || c) || (b || d))
or-middle true b c d = refl
or-middle false true true d = refl
or-middle false true false d = refl
or-middle false false c d = refl

any-none : {A : Type 0} (xs : List A) → false ≡ list_any (λ x. false) xs
any-none [] = refl
any-none (x ∷ xs) = any-none xs

any-or : {A : Type 0} (f g : A → Bool) (xs : List A) → (list_any f xs || list_any g xs) ≡ list_any (λ x. f x || g x) xs
any-or f g [] = refl
any-or f g (x ∷ xs) =
    or-middle (f x) (list_any f xs) (g x) (list_any g xs) ∙ ap (λ b. (f x || g x) || b) (any-or f g xs)

any-swapped : {A B : Type 0} (p : A → B → Bool) (xs : List A) (ys : List B)
    → list_any (λ x. list_any (p x) ys) xs ≡ list_any (λ y. list_any (λ x. p x y) xs) ys
any-swapped p [] ys = any-none ys
any-swapped p (x ∷ xs) ys =
    ap (λ b. list_any (p x) ys || b) (any-swapped p xs ys) ∙ any-or (p x) (λ y. list_any (λ x. p x y) xs) ys

any-mapped : {A B : Type 0} (f : A → B) (p : B → Bool) (xs : List A)
    → list_any p (map f xs) ≡ list_any (λ x. p (f x)) xs
any-mapped f p [] = refl
any-mapped f p (x ∷ xs) = ap (λ b. p (f x) || b) (any-mapped f p xs)

some-if : (b : Bool) (n : ℕ) → is_some (cond b (Some n) None) ≡ b
some-if true n = refl
some-if false n = refl

less-both : (m n : ℕ) → nat_lt (1 + m) (suc n) ≡ nat_lt m n
less-both m n = elim (cases_lt m n) [
  | inl less ↦ lt-ltb (1 + m) (suc n) (omega (arith, less)) ∙ sym (lt-ltb m n less)
  | inr at_least ↦ le-ltb (1 + m) (suc n) (omega (arith, at_least)) ∙ sym (le-ltb m n at_least)
]

any-within : {A : Type 0} (p : A → Bool) (xs : List A) → nat_lt (position_or_len p xs) (length xs) ≡ list_any p xs
any-within p [] = refl
any-within p (x ∷ xs) = elim (cases_Bool (p x)) [
  | inl here ↦ rw here (lt-ltb 0 (length (x ∷ xs)) (omega arith))
  | inr not_here ↦ rw not_here (less-both (position_or_len p xs) (length xs) ∙ any-within p xs)
]

any-position : {A : Type 0} (p : A → Bool) (xs : List A) → is_some (position p xs) ≡ list_any p xs
any-position p xs = some-if (nat_lt (position_or_len p xs) (length xs)) (position_or_len p xs) ∙ any-within p xs

-- the goals below a result, of which one is on the stack
pub any-shared : {X I R A T : Type 0} (same : I → I → Bool) → ((x y : I) → same x y ≡ same y x)
    → (stack : List (StackEntry X I R A T)) (nested : NestedPaths I)
    → list_any (λ g. is_some (position_of same g.0 stack)) nested
    ≡ list_any (λ e. is_some (paths_at same nested e.input)) stack
any-shared same symm stack nested =
    (λ i. list_any
    (λ g. (any-position (same g.0) (map (λ e. e.input) stack) ∙ any-mapped (λ e. e.input) (same g.0) stack) i) nested)
    ∙ any-swapped (λ g e. same g.0 e.input) nested stack
    ∙ (λ i. list_any (λ e. list_any (λ g. symm g.0 e.input i) nested) stack)
    ∙ (λ i. list_any
    (λ e. sym (is_some-lookup (same e.input) nested ∙ any-mapped (λ g. g.0) (same e.input) nested) i) stack)

-- ---- what is stored

-- nothing is below a result without goals
nothing_below : {X I R A T : Type 0} (same : I → I → Bool) (stack : List (StackEntry X I R A T))
    → list_any (λ e. is_some (paths_at same [] e.input)) stack ≡ false
nothing_below same [] = refl
nothing_below same (e ∷ es) = nothing_below same es

pub empty_is_applicable : {X I R A T : Type 0} (same : I → I → Bool) (asking : Asking X I R A T)
    (nested : NestedPaths I) → nested ≡ [] → true ≡ is_applicable same asking nested
empty_is_applicable same asking nested is =
    sym (ap (is_applicable same asking) is ∙ ap (λ b. not b && true) (nothing_below same asking.stack))

module _ {X I R A T : Type 0} (same : I → I → Bool) (asking : Asking X I R A T) (nested : NestedPaths I) (found : Bool)
    (is : found ≡ list_any (λ e. is_some (paths_at same nested e.input)) asking.stack) where
  -- a result is not used where one of the goals below it is on the stack,
  pub refused_on_stack : found ≡ true → not found ≡ is_applicable same asking nested
  refused_on_stack there = ap not there
      ∙ ap (λ b. not b && list_all (λ goal. not (meets_entry same asking goal.0 goal.1)) nested) (sym there ∙ is)

  -- and elsewhere the entries of those goals decide
  pub decided_by_entries : found ≡ false → (rest : Bool)
      → rest ≡ list_all (λ goal. not (meets_entry same asking goal.0 goal.1)) nested
      → rest ≡ is_applicable same asking nested
  decided_by_entries absent rest decided = decided
      ∙ ap (λ b. not b && list_all (λ goal. not (meets_entry same asking goal.0 goal.1)) nested) (sym absent ∙ is)

-- an entry of a goal has heads, the highest of which is on the stack
pub entry_on_stack : {X I R A T : Type 0} (same : I → I → Bool) (stack now : List (StackEntry X I R A T))
    (entries : Lists I (ProvisionalCacheEntry X I R A T)) (goal : I) (es : List (ProvisionalCacheEntry X I R A T))
    → AreOnStack same stack entries → stack ≡ now → es ≡ entries_at same entries goal
    → All (λ entry. entry.heads ≢ []) es → (k : ℕ) (e : ProvisionalCacheEntry X I R A T) → k < length es
    → e ≡ get_or es k e → (e.heads ≢ []) × IfSome (highest e.heads) (λ head. head.0.0 < length now)
entry_on_stack {X} {I} {R} {A} {T} same stack now entries goal es on same_stack of_goal heads k e within is =
    let there :
    All (λ (entry : ProvisionalCacheEntry X I R A T). IfSome (highest entry.heads) (λ head. head.0.0 < length now)) es =
    subst (λ l. All (λ (entry : ProvisionalCacheEntry X I R A T).
    IfSome (highest entry.heads) (λ head. head.0.0 < length l)) es) same_stack
    (subst (λ l.
    All (λ (entry : ProvisionalCacheEntry X I R A T). IfSome (highest entry.heads) (λ head. head.0.0 < length stack)) l)
    (sym of_goal) (on goal)) in (
      subst (λ (entry : ProvisionalCacheEntry X I R A T). entry.heads ≢ []) (sym is)
          (All-get_or (λ (entry : ProvisionalCacheEntry X I R A T). entry.heads ≢ []) es k e within heads),
      subst (λ (entry : ProvisionalCacheEntry X I R A T). IfSome (highest entry.heads) (λ head. head.0.0 < length now))
          (sym is) (All-get_or (λ (entry : ProvisionalCacheEntry X I R A T).
          IfSome (highest entry.heads) (λ head. head.0.0 < length now)) es k e within there),
    )

-- pairs with the same parts
pub same_pair : {A B : Type 0} (x y : A × B) → x.0 ≡ y.0 → x.1 ≡ y.1 → x ≡ y
same_pair x y first second = ap₂ (λ a b. (a, b)) first second

-- a used result is stored of the goal
module _ {I R T : Type 0} (same : I → I → Bool) (scripts : I → List (Reply R) → Request I R)
    (results : Store I (StoredResult I R T)) (goal : I) (depth : ℕ) where
  -- what is known of it besides
  pub record IsGood (hit : Hit I R T) : Type 0 where
    pub value : hit.encountered_overflow ≡ false → IsPlain scripts goal hit.result
    pub overflow : hit.encountered_overflow ≡ true → IsBelowRank scripts goal depth
    pub within : hit.required_depth ≤ depth

  good : {X A : Type 0} (found : Option (CacheData X I R A T))
      → IfSome found (λ hit. hit.encountered_overflow ≡ false → IsPlain scripts goal hit.result)
      → IfSome found (λ hit. hit.encountered_overflow ≡ true → IsBelowRank scripts goal depth)
      → IfSome found (λ hit. hit.required_depth ≤ depth) → IfSome found (λ hit. IsGood (hit_of hit))
  good None v o w = tt
  good (Some hit) v o w = record { value = v; overflow = o; within = w }

  usable_then : {X A : Type 0} (found : Option (CacheData X I R A T))
      → IfSome found (λ hit. IsGood (hit_of hit) → IsUsable same scripts results goal depth (hit_of hit))
      → IfSome found (λ hit. IsGood (hit_of hit))
      → IfSome found (λ hit. IsUsable same scripts results goal depth (hit_of hit))
  usable_then None f g = tt
  usable_then (Some hit) f g = f g

  pub found_is_usable : {X A : Type 0} (accepts : NestedPaths I → Bool) (found : Option (CacheData X I R A T))
      → option_map hit_of found ≡ first_accepted accepts (usable same results goal depth)
      → IfSome found (λ hit. hit.encountered_overflow ≡ false → IsPlain scripts goal hit.result)
      → IfSome found (λ hit. hit.encountered_overflow ≡ true → IsBelowRank scripts goal depth)
      → IfSome found (λ hit. hit.required_depth ≤ depth)
      → IfSome found (λ hit. IsUsable same scripts results goal depth (hit_of hit))
  found_is_usable accepts found is v o w =
      usable_then found (used_holds (λ hit. IsGood hit → IsUsable same scripts results goal depth hit)
      same results goal depth accepts found
      (λ s at within known. record {
        place = Success;
        stored = s;
        is_stored = at;
        result_is = refl;
        node_is = refl;
        place_is = λ e. absurd cc;
        value = known.value;
        overflow = known.overflow;
        within = known.within;
      })
      (λ s at known. record {
        place = WithOverflow depth;
        stored = s;
        is_stored = at;
        result_is = refl;
        node_is = refl;
        place_is = λ e. refl;
        value = known.value;
        overflow = known.overflow;
        within = known.within;
      }) is)
      (good found v o w)

-- over no goals and no entries each result may be used
no_entry_met : {I : Type 0} (nested : NestedPaths I) → list_all (λ goal. true) nested ≡ true
no_entry_met [] = refl
no_entry_met (goal ∷ nested) = no_entry_met nested

first_over_none :
    (X A : Type 0) {I R T : Type 0} (same : I → I → Bool) (step : PathKind) (hits : List (Hit I R T)) → first_accepted
    (is_applicable {X = X} {R = R} {A = A} {T = T} same (record { stack = []; entries = []; step = step })) hits
    ≡ first_accepted (λ nested. true) hits
first_over_none X A {R = R} {T = T} same step [] = refl
first_over_none X A {R = R} {T = T} same step (hit ∷ hits) = ap (λ b. cond b (Some hit) (first_accepted
    (is_applicable {X = X} {R = R} {A = A} {T = T} same (record { stack = []; entries = []; step = step })) hits))
    (no_entry_met hit.nested_goals)

pub accepted_over_none : {X F I R A T : Type 0} (same : I → I → Bool) (goals : List (StackEntry X I R A T × F))
    → goals ≡ [] → (stack : List (StackEntry X I R A T)) → stack ≡ reverse (map (λ s. s.0) goals)
    → (entries : Lists I (ProvisionalCacheEntry X I R A T)) → entries ≡ [] → (step : PathKind) (hits : List (Hit I R T))
    → first_accepted (is_applicable same (record { stack = stack; entries = entries; step = step })) hits
    ≡ first_accepted (λ nested. true) hits
accepted_over_none {X = X} {A = A} same goals none stack is entries empty step hits =
    ap (λ (l : List (StackEntry _ _ _ _ _)).
    first_accepted (is_applicable same (record { stack = l; entries = entries; step = step })) hits)
    (is ∙ ap (λ l. reverse (map (λ s. s.0) l)) none)
    ∙ ap (λ (l : Lists _ (ProvisionalCacheEntry _ _ _ _ _)).
    first_accepted (is_applicable same (record { stack = []; entries = l; step = step })) hits) empty
    ∙ first_over_none X A same step hits

pub stored_over_none : {X F I R A T : Type 0} (same : I → I → Bool) (goals : List (StackEntry X I R A T × F))
    → goals ≡ [] → (found : Option (CacheData X I R A T)) (stack : List (StackEntry X I R A T))
    → stack ≡ reverse (map (λ s. s.0) goals) → (entries : Lists I (ProvisionalCacheEntry X I R A T)) → entries ≡ []
    → (step : PathKind) (hits : List (Hit I R T)) → option_map hit_of found
    ≡ first_accepted (is_applicable same (record { stack = stack; entries = entries; step = step })) hits
    → option_map hit_of found ≡ first_accepted (λ nested. true) hits
stored_over_none same goals none found stack is entries empty step hits h =
    h ∙ accepted_over_none same goals none stack is entries empty step hits

-- where a look-up gives nothing, nothing that may be used is stored
pub nothing_stored :
    {X I R A T : Type 0} (found : Option (CacheData X I R A T)) (first : Option (Hit I R T)) (P : Hit I R T → Type 0)
    → ((stored : CacheData X I R A T) → found ≡ Some stored → ⊥) → option_map hit_of found ≡ first → IfSome first P
nothing_stored None first P never is = subst (λ o. IfSome o P) is tt
nothing_stored (Some stored) first P never is = absurd (never stored refl)

-- and where it gives a result, that is the one that may be used
pub something_stored : {X I R A T : Type 0} (found : Option (CacheData X I R A T)) (first : Option (Hit I R T))
    (P : Hit I R T → Type 0) (stored : CacheData X I R A T)
    → found ≡ Some stored → option_map hit_of found ≡ first → P (hit_of stored) → IfSome first P
something_stored found first P stored at is holds = subst (λ o. IfSome o P) (ap (option_map hit_of) (sym at) ∙ is) holds
