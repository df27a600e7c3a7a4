-- The tests of a rebased entry in the theory's words: that each cycle over the goal that is done keeps its kind,
-- whether the goal was used, and what becomes of the result.
use Rattle.std.proofs.Common.{◌≡◌, ◌≢◌, ℕ, zero, suc, max, ◌&&◌, ◌==◌, Bool, true, false, not, IsTrue, if◌then◌else◌}
use Rattle.std.proofs.Common.{List, [], ◌∷◌, length, Contains, Option, Some, None, refl, sym, ap, ◌∙◌, subst, inl}
use Rattle.std.proofs.Common.{inr, arith}
use Rattle.std.specs.List.{list_all}
use Rattle.std.proofs.lemmas.Bool.{cases_eq, eqb-true, false≢true}
use Rattle.std.proofs.lemmas.Grind.{common_steps}
use Rattle.open_graphs.specs.Graph as theory
use Rattle.search_rules.specs.Below.{Entry, path_kind, PassesPathTest, IsZero, IsSingle, HasResult, StackDepth}
use Rattle.search_rules.specs.Below.{PathKind, Inductive, Unknown, Coinductive, ForcedAmbiguity, CycleHead, HeadUsages}
use Rattle.search_rules.specs.Below.{Heads, at_depth, count_at, head_shape, heads_shape, rank_of, greater_kind}
use Rattle.search_rules.specs.Below.{kinds_in, count_of, has_usages, other_usages, StackEntry, ProvisionalCacheEntry}
use Rattle.search_rules.specs.Below.{RebaseReason, NoCycleUsages, Ambiguity, Overflow, ReachedFixpoint, from_head}
use Rattle.search_rules.specs.Below.{keeps_kind, keeps_kinds, changed_for, verdict_of, Verdicts}
use Rattle.open_graphs.specs.Use as uses
use Rattle.cycle_heads.proofs.Counts.{none_of_others, used_by_test}
use Rattle.cycle_heads.proofs.HeadShapes.{count_at-of, path_of_rank}
use Rattle.path_kinds.proofs.PathLaws.{first_or_later}
use Rattle.path_kinds.proofs.PathMembers.{kinds_in-has}
use Rattle.path_kinds.proofs.PathRanks.{greater_rank}
use Rattle.search_rules.specs.Words.{reason_shape}
use Rattle.search_rules.proofs.rebasing.HeadOrder.{at_here, at_later, same_depth}

-- ---- tests of all elements

both_hold : (a b : Bool) → (a && b) ≡ true → (a ≡ true) × (b ≡ true)
both_hold true b is = (refl, is)
both_hold false b is = absurd (false≢true is)

kind_passes : (p : PathKind → Bool) (kinds : List PathKind) (kind : PathKind) → list_all p kinds ≡ true
    → Contains kinds kind → p kind ≡ true
kind_passes p [] kind all (k, l, e) = absurd (omega arith)
kind_passes p (first ∷ rest) kind all there =
    let both = both_hold (p first) (list_all p rest) all in
    elim (first_or_later first kind rest there) [
      | inl here ↦ subst (λ k. p k ≡ true) here both.0
      | inr later ↦ kind_passes p rest kind both.1 later
    ]

head_passes : (p : StackDepth × CycleHead → Bool) (heads : Heads) (depth : StackDepth) (head : CycleHead)
    → list_all p heads ≡ true → at_depth heads depth ≡ Some head → p (depth, head) ≡ true
head_passes p [] depth head all at = absurd cc
head_passes p (e ∷ es) depth head all at =
    let both = both_hold (p e) (list_all p es) all in
    elim (cases_eq depth.0 e.0.0) [
      | inl same ↦
          let value : Some e.1 ≡ Some head = sym (at_here e es depth same) ∙ at in
          let head_is : e.1 ≡ head = cc in
          subst (λ d. p (d, head) ≡ true) (sym (same_depth depth e.0 same))
          (subst (λ h. p (e.0, h) ≡ true) head_is both.0)
      | inr other ↦ head_passes p es depth head both.1 (sym (at_later e es depth other) ∙ at)
    ]

-- ---- the path test

same_kinds : (f e w t ft fe few fewt from_depth own_path top_path : ℕ) → max f t ≡ ft → max f e ≡ fe → max fe w ≡ few
    → max few t ≡ fewt → ft ≡ fewt → f ≡ from_depth → w ≡ own_path → t ≡ top_path
    → max from_depth top_path ≡ max (max (max from_depth e) own_path) top_path
same_kinds f e w t ft fe few fewt from_depth own_path top_path a b c d same i j k =
    omega (arith, a, b, c, d, same, i, j, k)

module _ {X I R A T : Type 0} (stack : List (StackEntry X I R A T)) (done : StackEntry X I R A T) (below : List Entry)
    (top : Entry) (kinds : (depth : ℕ) → rank_of (from_head stack done depth) ≡ path_kind below top.step depth) where
  kind_kept : (to_entry : PathKind) (depth own_path top_path : ℕ) (own to_head : PathKind) → rank_of own ≡ own_path
      → rank_of to_head ≡ top_path → keeps_kind (from_head stack done depth) to_entry own to_head ≡ true
      → max (path_kind below top.step depth) top_path
      ≡ max (max (max (path_kind below top.step depth) (rank_of to_entry)) own_path) top_path
  kind_kept to_entry depth own_path top_path own to_head own_is top_is keeps =
      let from = from_head stack done depth in
      let over_entry = greater_kind from to_entry in
      let over_done = greater_kind over_entry own in
      same_kinds (rank_of from) (rank_of to_entry) (rank_of own) (rank_of to_head)
      (rank_of (greater_kind from to_head)) (rank_of over_entry) (rank_of over_done)
      (rank_of (greater_kind over_done to_head))
      (path_kind below top.step depth) own_path top_path
      (greater_rank from to_head) (greater_rank from to_entry)
      (greater_rank over_entry own) (greater_rank over_done to_head)
      (eqb-true (rank_of (greater_kind from to_head)) (rank_of (greater_kind over_done to_head)) keeps)
      (kinds depth) own_is top_is

  pub passes_path_test : (to_entry : PathKind) (heads : uses.Heads) (head : CycleHead)
      → heads (length below) ≡ head_shape (Some head) → keeps_kinds stack done to_entry head.paths_to_head ≡ true
      → PassesPathTest below top (rank_of to_entry) heads (heads_shape done.state.heads)
  passes_path_test to_entry heads head popped keeps depth top_path own_path has_top has_own =
      at (at_depth done.state.heads (record { 0 = depth })) refl has_top
    where
      at : (o : Option CycleHead) → at_depth done.state.heads (record { 0 = depth }) ≡ o
          → IsTrue ((head_shape o).paths top_path)
          → max (path_kind below top.step depth) top_path
          ≡ max (max (max (path_kind below top.step depth) (rank_of to_entry)) own_path) top_path
      at None is has = absurd (false≢true has)
      at (Some other) is has =
          let to_head = path_of_rank other.paths_to_head top_path has in
          let own = path_of_rank head.paths_to_head own_path (subst (λ h. IsTrue (h.paths own_path)) popped has_own) in
          let passes : (StackDepth × CycleHead) → Bool = λ h. list_all
          (λ t. list_all (λ o. keeps_kind (from_head stack done h.0.0) to_entry o t) (kinds_in head.paths_to_head))
          (kinds_in h.1.paths_to_head) in
          let each = head_passes passes done.state.heads (record { 0 = depth }) other keeps is in
          let for_path = kind_passes
          (λ t. list_all (λ o. keeps_kind (from_head stack done depth) to_entry o t) (kinds_in head.paths_to_head))
          (kinds_in other.paths_to_head) to_head.0 each ((kinds_in-has other.paths_to_head to_head.0).1 to_head.2) in
          let for_own = kind_passes (λ o. keeps_kind (from_head stack done depth) to_entry o to_head.0)
          (kinds_in head.paths_to_head) own.0 for_path ((kinds_in-has head.paths_to_head own.0).1 own.2) in
          kind_kept to_entry depth own_path top_path own.0 to_head.0 own.1 to_head.1 for_own

-- ---- usages

not_false : (b : Bool) → not b ≡ false → b ≡ true
not_false true is = refl
not_false false is = absurd (false≢true (sym is))

all_zero : (i u c f : ℕ) → ((i == 0) && (u == 0) && (c == 0) && (f == 0)) ≡ true → (i ≡ 0) × (u ≡ 0) × (c ≡ 0) × (f ≡ 0)
all_zero i u c f test =
    (grind (arith, common_steps), grind (arith, common_steps), grind (arith, common_steps), grind (arith, common_steps))

none_used : (usages : HeadUsages) → has_usages usages ≡ false → (kind : PathKind) → count_of usages kind ≡ 0
none_used usages none =
    let each = all_zero usages.inductive usages.unknown usages.coinductive usages.forced_ambiguity
    (not_false ((usages.inductive == 0) && (usages.unknown == 0) && (usages.coinductive == 0)
    && (usages.forced_ambiguity == 0)) none) in
    λ kind. elim kind as (λ kind. count_of usages kind ≡ 0) [
      | Inductive ↦ each.0
      | Unknown ↦ each.1
      | Coinductive ↦ each.2
      | ForcedAmbiguity ↦ each.3
    ]

none_but : (usages : HeadUsages) (kind : PathKind) → ((other : PathKind) → other ≢ kind → count_of usages other ≡ 0)
    → (n : ℕ) → n ≢ rank_of kind → count_at usages n ≡ 0
none_but usages kind none zero apart = none Inductive (λ same. apart (ap rank_of same))
none_but usages kind none (suc zero) apart = none Unknown (λ same. apart (ap rank_of same))
none_but usages kind none (suc (suc zero)) apart = none Coinductive (λ same. apart (ap rank_of same))
none_but usages kind none (suc (suc (suc zero))) apart = none ForcedAmbiguity (λ same. apart (ap rank_of same))
none_but usages kind none (suc (suc (suc (suc n)))) apart = refl

none_at_rank : (usages : HeadUsages) → ((kind : PathKind) → count_of usages kind ≡ 0) → (n : ℕ) → count_at usages n ≡ 0
none_at_rank usages none zero = none Inductive
none_at_rank usages none (suc zero) = none Unknown
none_at_rank usages none (suc (suc zero)) = none Coinductive
none_at_rank usages none (suc (suc (suc zero))) = none ForcedAmbiguity
none_at_rank usages none (suc (suc (suc (suc n)))) = refl

-- a head without usages was not used, and one with usages was
pub is_zero : (head : CycleHead) → has_usages head.usages ≡ false → IsZero (head_shape (Some head))
is_zero head none = none_at_rank head.usages (none_used head.usages none)

pub not_zero : (head : CycleHead) → has_usages head.usages ≡ true → IsZero (head_shape (Some head)) → ⊥
not_zero head some zeros =
    let none : (kind : PathKind) → count_of head.usages kind ≡ 0 =
    λ kind. sym (count_at-of head.usages kind) ∙ zeros (rank_of kind) in
    false≢true (used_by_test head.usages true ((λ _. none), (λ _. refl)) ∙ some)

-- a head without usages of other kinds was used by cycles of this kind alone
pub is_single : (head : CycleHead) (kind : PathKind) → has_usages (other_usages head.usages kind) ≡ false
    → IsSingle (rank_of kind) (head_shape (Some head))
is_single head kind none =
    none_but head.usages kind ((none_of_others head.usages kind).0 (none_used (other_usages head.usages kind) none))

-- ---- the result

module _ {X I R A T : Type 0} (says : Verdicts R) (propagated : A → R) (overflow : R)
    (unsure : (info : A) → verdict_of says (propagated info) ≡ theory.Neither)
    (overflow_unsure : verdict_of says overflow ≡ theory.Neither) where
  -- what becomes of an entry that used this head: its result is the one that the theory has for the reason, the
  -- heads and the path stay
  pub record IsChanged (reason : RebaseReason X I R A T) (head : CycleHead)
      (before after : ProvisionalCacheEntry X I R A T) : Type 0 where
    pub result : HasResult (reason_shape reason) (head_shape (Some head))
        (verdict_of says before.result) (verdict_of says after.result)
    pub same_heads : after.heads ≡ before.heads
    pub same_path : after.path_from_head ≡ before.path_from_head

  is_unchanged : (reason : RebaseReason X I R A T) (head : CycleHead) (before after : ProvisionalCacheEntry X I R A T)
      → HasResult (reason_shape reason) (head_shape (Some head))
      (verdict_of says before.result) (verdict_of says before.result)
      → Some before ≡ Some after → IsChanged reason head before after
  is_unchanged reason head before after result is =
      let same : before ≡ after = cc in
      subst (IsChanged reason head before) same (record { result = result; same_heads = refl; same_path = refl })

  replaced : (reason : RebaseReason X I R A T) (head : CycleHead)
      (before after : ProvisionalCacheEntry X I R A T) (result : R)
      → HasResult (reason_shape reason) (head_shape (Some head))
      (verdict_of says before.result) (verdict_of says result)
      → Some (record before { result = result; node = None }) ≡ Some after → IsChanged reason head before after
  replaced reason head before after result has is =
      let same : record before { result = result; node = None } ≡ after = cc in
      subst (IsChanged reason head before) same (record { result = has; same_heads = refl; same_path = refl })

  pub is_changed : (reason : RebaseReason X I R A T) (head : CycleHead) (before after : ProvisionalCacheEntry X I R A T)
      → changed_for propagated overflow reason head.usages before ≡ Some after → IsChanged reason head before after
  is_changed NoCycleUsages head before after is = absurd cc
  is_changed (Ambiguity info) head before after is =
      replaced (Ambiguity info) head before after (propagated info) (unsure info) is
  is_changed Overflow head before after is = replaced Overflow head before after overflow overflow_unsure is
  is_changed (ReachedFixpoint None) head before after is = is_unchanged (ReachedFixpoint None) head before after refl is
  is_changed (ReachedFixpoint (Some kind)) head before after is =
      at (has_usages (other_usages head.usages kind)) refl is
    where
      at : (b : Bool) → has_usages (other_usages head.usages kind) ≡ b → (if b then None else Some before) ≡ Some after
          → IsChanged (ReachedFixpoint (Some kind)) head before after
      at true others is = absurd cc
      at false none is =
          is_unchanged (ReachedFixpoint (Some kind)) head before after (is_single head kind none, refl) is
