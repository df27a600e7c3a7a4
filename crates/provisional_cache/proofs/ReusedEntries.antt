-- Which entry may be used again: the first in a list, and what decides for one.
use Rattle.std.proofs.Common.{◌≡◌, ◌≢◌, ℕ, ◌+◌, ◌-◌, ◌<◌, Bool, true, false, not, ◌&&◌, ◌||◌, cond, nat_eq, List, []}
use Rattle.std.proofs.Common.{◌∷◌, drop, get_or, length, Option, Some, None, IfSome, refl, sym, ap, ◌∙◌, subst, arith}
use Rattle.std.proofs.lemmas.List.{drop_more}
use Rattle.std.proofs.lemmas.Option.{slice_get-get_or}
use Rattle.std.specs.List.{find}
use Rattle.std.specs.Option.{option_map, unwrap_or}
use denote.Enum.Bare.{sameb}
use denote.Enum.Declared.{tag_of}
use Rattle.path_kinds.specs.contracts.path.PathKind.{the_type}
use Rattle.path_kinds.specs.declared.path.PathKind.TheVariants.{Inductive, Unknown, Coinductive, ForcedAmbiguity}
use Rattle.search_stack.specs.Cycle.{path_kind_from}
use Rattle.provisional_cache.specs.Below.{CycleHead, PathKind, StackDepth, StackEntry, highest, rank_of}
use Rattle.provisional_cache.specs.Reuse.{asking_heads}
use Rattle.provisional_cache.specs.Words.{has_head_up_to, may_be_used, ProvisionalCacheEntry}

tag_as_rank : (kind : PathKind) → tag_of the_type kind ≡ rank_of kind
tag_as_rank Inductive = refl
tag_as_rank Unknown = refl
tag_as_rank Coinductive = refl
tag_as_rank ForcedAmbiguity = refl

-- two kinds are the same where their places in the order are
pub same_kind : (same : Bool) (k l m : PathKind) → same ≡ sameb the_type k l → l ≡ m
    → same ≡ nat_eq (rank_of k) (rank_of m)
same_kind same k l m is other =
    is ∙ ap (λ n. nat_eq n (tag_of the_type l)) (tag_as_rank k) ∙ ap (nat_eq (rank_of k)) (tag_as_rank l)
    ∙ ap (λ kind. nat_eq (rank_of k) (rank_of kind)) other

module _ {X : Type 0} (test : X → Bool) (xs : List X) (i : ℕ) (x : X) (below : i < length xs) (at : x ≡ get_or xs i x)
    (so_far : find test (drop i xs) ≡ find test xs) (passes : Bool) (tells : passes ≡ test x) where
  first_left : cond passes (Some x) (find test (drop (i + 1) xs)) ≡ find test xs
  first_left =
      ap (λ b. cond b (Some x) (find test (drop (i + 1) xs))) tells
      ∙ ap (λ y. find test (y ∷ drop (i + 1) xs)) at
      ∙ ap (find test) (sym (drop_more xs i x below))
      ∙ so_far

  -- an element that passes is the first one that does, where none before it does
  pub found_here : passes ≡ true → Some x ≡ find test xs
  found_here is = ap (λ b. cond b (Some x) (find test (drop (i + 1) xs))) (sym is) ∙ first_left

  -- one that doesn't is passed over
  pub found_later : passes ≡ false → find test (drop (i + 1) xs) ≡ find test xs
  found_later is = ap (λ b. cond b (Some x) (find test (drop (i + 1) xs))) (sym is) ∙ first_left

-- a list that isn't empty has an element
pub has_some : {A : Type 0} (xs : List A) → xs ≢ [] → 0 < length xs
has_some [] some = absurd (some refl)
has_some (x ∷ xs) some = omega arith

-- a head that is there, and is on the stack
pub top_within : (o : Option (StackDepth × CycleHead)) (depth : StackDepth) (n : ℕ)
    → option_map (λ e. e.0) o ≡ Some depth → IfSome o (λ head. head.0.0 < n) → depth.0 < n
top_within None depth n is within = cc
top_within (Some head) depth n is within = let same : head.0 ≡ depth = cc in subst (λ d. d.0 < n) same within

-- and a test of its depth alone
top_passes : (o : Option (StackDepth × CycleHead)) (depth : StackDepth) (test : ℕ → Bool)
    → option_map (λ e. e.0) o ≡ Some depth → unwrap_or (option_map (λ h. test h.0.0) o) false ≡ test depth.0
top_passes None depth test is = cc
top_passes (Some head) depth test is = let same : head.0 ≡ depth = cc in ap (λ d. test d.0) same

module _ {X I R A T : Type 0} (stack : List (StackEntry X I R A T)) (step : PathKind)
    (entry : ProvisionalCacheEntry X I R A T) (depth : StackDepth)
    (top : option_map (λ e. e.0) (highest entry.heads) ≡ Some depth) where
  abbrev path_stays : Bool
  path_stays = nat_eq (rank_of entry.path_from_head) (rank_of (path_kind_from stack depth.0 step))

  -- the highest head decides
  at_top : may_be_used stack step entry
      ≡ ((not entry.encountered_overflow || has_head_up_to depth.0 (asking_heads stack)) && path_stays)
  at_top = top_passes (highest entry.heads) depth
      (λ at. (not entry.encountered_overflow || has_head_up_to at (asking_heads stack))
      && nat_eq (rank_of entry.path_from_head) (rank_of (path_kind_from stack at step))) top

  -- an entry that met no overflow may be used where its path is of the same kind
  pub used_without_overflow : entry.encountered_overflow ≡ false → (same : Bool) → same ≡ path_stays
      → same ≡ may_be_used stack step entry
  used_without_overflow none same is =
      is ∙ ap (λ b. (not b || has_head_up_to depth.0 (asking_heads stack)) && path_stays) (sym none) ∙ sym at_top

  module _ (last : StackEntry X I R A T) (within : depth.0 < length stack)
      (is_last : last ≡ get_or stack (length stack - 1) last) where
    last_asks : asking_heads stack ≡ last.state.heads
    last_asks =
        ap (λ o. unwrap_or (option_map (λ e. e.state.heads) o) [])
        (slice_get-get_or stack (length stack - 1) last (omega (arith, within)))
        ∙ ap (λ e. e.state.heads) (sym is_last)

    -- another one may not be used where the last goal has no head so low
    pub not_used : entry.encountered_overflow ≡ true → (low : Bool) → low ≡ has_head_up_to depth.0 last.state.heads
        → low ≡ false → false ≡ may_be_used stack step entry
    not_used met low is none =
        let lower : has_head_up_to depth.0 (asking_heads stack) ≡ false =
        ap (has_head_up_to depth.0) last_asks ∙ sym is ∙ none in
        ap (λ b. b && path_stays) (sym lower)
        ∙ ap (λ b. (not b || has_head_up_to depth.0 (asking_heads stack)) && path_stays) (sym met)
        ∙ sym at_top

    -- and where it has one, it may be used where its path is of the same kind
    pub used_with_overflow : entry.encountered_overflow ≡ true → (low : Bool)
        → low ≡ has_head_up_to depth.0 last.state.heads → low ≡ true → (same : Bool) → same ≡ path_stays
        → same ≡ may_be_used stack step entry
    used_with_overflow met low is some same decides =
        let lower : has_head_up_to depth.0 (asking_heads stack) ≡ true =
        ap (has_head_up_to depth.0) last_asks ∙ sym is ∙ some in
        decides
        ∙ ap (λ b. b && path_stays) (sym lower)
        ∙ ap (λ b. (not b || has_head_up_to depth.0 (asking_heads stack)) && path_stays) (sym met)
        ∙ sym at_top
