-- Heads when a goal that is done is given up as a head: what is taken out, and that what is left is on the stack.
use Rattle.std.proofs.Common.{◌≡◌, ◌≢◌, ℕ, zero, suc, ◌-◌, ◌<◌, ◌≤◌, [], ◌∷◌, ◌++◌, All, Some, length, ap, sym, refl}
use Rattle.std.proofs.Common.{◌∙◌, subst, inl, inr, arith}
use Rattle.std.proofs.lemmas.Bool.{cases_lt, cases_eq}
use Rattle.std.proofs.lemmas.List.Elements.{All-cons, All-contains, All-head, All-tail, All-weaker, Contains-push}
use Rattle.std.proofs.lemmas.Grind.{common_steps}
use Rattle.std.proofs.lemmas.List.{take-append-le, take_all}
use Rattle.std.specs.BTreeMap.{insert_entry}
use Rattle.std.specs.List.{slice_get}
use Rattle.std.specs.Option.{IfSome}
use Rattle.provisional_cache.specs.Below.{StackDepth, CycleHead, HeadUsages, PathsToNested, at_depth, depth_cmp}
use Rattle.provisional_cache.specs.Below.{highest, joined_head, with_head, Heads, extended_by_each}
use Rattle.provisional_cache.specs.Below.{path_of_no_step, no_usages}
use Rattle.provisional_cache.specs.Words.{but_highest, with_unused, with_used}
use Rattle.cycle_heads.proofs.HeadLists.{placed_first, placed_here, placed_later}
use Rattle.cycle_heads.proofs.HighestHeads.{highest-push}

-- the head at the end is at most at n, where all are
last_within : (heads : Heads) (depth : StackDepth) (head : CycleHead) (n : ℕ)
    → All (λ e. e.0.0 ≤ n) (heads ++ (depth, head) ∷ []) → depth.0 ≤ n
last_within heads depth head n within =
    All-contains (λ e. e.0.0 ≤ n) (heads ++ (depth, head) ∷ []) (depth, head) within (Contains-push heads (depth, head))

weaker_bound : (m n : ℕ) → m ≤ n → (d : StackDepth × CycleHead) → d.0.0 < m → d.0.0 < n
weaker_bound m n le d lt = omega arith

-- below the highest head, where it is at most at n, all are below n
pub below_highest : (old new : Heads) (head : CycleHead) (n : ℕ)
    → (depth : StackDepth) × (old ≡ new ++ (depth, head) ∷ [])
    → IfSome (highest old) (λ e. All (λ d. d.0.0 < e.0.0) new) → All (λ e. e.0.0 ≤ n) old → All (λ e. e.0.0 < n) new
below_highest old new head n (depth, is) below within =
    let top : highest old ≡ Some (depth, head) = ap highest is ∙ highest-push new (depth, head) in
    let lower : All (λ d. d.0.0 < depth.0) new = subst (λ o. IfSome o (λ e. All (λ d. d.0.0 < e.0.0) new)) top below in
    let last : depth.0 ≤ n = last_within new depth head n (subst (All (λ e. e.0.0 ≤ n)) is within) in
    All-weaker (λ d. d.0.0 < depth.0) (λ d. d.0.0 < n) (weaker_bound depth.0 n last) new lower

-- what is left where the highest head is taken out
pub lower_heads : (old new : Heads) (head : CycleHead)
    → (depth : StackDepth) × (old ≡ new ++ (depth, head) ∷ []) → new ≡ but_highest old
lower_heads old new head (depth, is) =
    let same : length (new ++ (depth, head) ∷ []) - 1 ≡ length new = grind (arith, common_steps) in
    subst (λ o. new ≡ but_highest o) (sym is)
    (sym (take-append-le _ new ((depth, head) ∷ []) (omega (arith, same)) ∙ take_all _ new (omega (arith, same))))

-- there is a head where there are heads
pub some_heads : (heads : Heads) → heads ≢ [] → 0 < length heads
some_heads [] some = absurd (some refl)
some_heads (e ∷ es) some = omega arith

module _ (n : ℕ) where
  all_inserted : (depth : StackDepth) (head : CycleHead) → depth.0 < n → (heads : Heads) → All (λ e. e.0.0 < n) heads
      → All (λ e. e.0.0 < n) (insert_entry depth_cmp heads depth head)
  all_inserted depth head lt [] all = All-cons (λ e. e.0.0 < n) (depth, head) [] lt all
  all_inserted depth head lt (e ∷ es) all =
      let P : StackDepth × CycleHead → Type 0 = λ e. e.0.0 < n in
      let here : e.0.0 < n = All-head P e es all in
      let later : All P es = All-tail P e es all in
      elim (cases_lt depth.0 e.0.0) [
        | inl less ↦ rw (placed_first depth head e es less) (All-cons P (depth, head) (e ∷ es) lt all)
        | inr at_least ↦ elim (cases_eq depth.0 e.0.0) [
          | inl same ↦ rw (placed_here depth head e es same) (All-cons P (e.0, head) es here later)
          | inr ne ↦ rw (placed_later depth head e es (omega arith))
              (All-cons P e (insert_entry depth_cmp es depth head) here (all_inserted depth head lt es later))
        ]
      ]

  -- a head that is recorded is on the stack, where it and the others are
  pub all_with_head : (heads : Heads) (depth : StackDepth) (paths : PathsToNested) (usages : HeadUsages)
      → depth.0 < n → All (λ e. e.0.0 < n) heads
      → All (λ e. e.0.0 < n) (with_head heads depth paths usages)
  all_with_head heads depth paths usages lt all =
      all_inserted depth (joined_head (at_depth heads depth) paths usages) lt heads all

  pub all_with_unused : (done own : Heads) → All (λ e. e.0.0 < n) done → All (λ e. e.0.0 < n) own
      → All (λ e. e.0.0 < n) (with_unused done own)
  all_with_unused [] own done_within own_within = own_within
  all_with_unused (e ∷ es) own done_within own_within =
      all_with_unused es (with_head own e.0 path_of_no_step no_usages) (All-tail (λ e. e.0.0 < n) e es done_within)
      (all_with_head own e.0 path_of_no_step no_usages (All-head (λ e. e.0.0 < n) e es done_within) own_within)

  pub all_with_used : (to_done : PathsToNested) (done own : Heads) → All (λ e. e.0.0 < n) done
      → All (λ e. e.0.0 < n) own → All (λ e. e.0.0 < n) (with_used done to_done own)
  all_with_used to_done [] own done_within own_within = own_within
  all_with_used to_done (e ∷ es) own done_within own_within =
      let paths = extended_by_each to_done e.1.paths_to_head in
      all_with_used to_done es (with_head own e.0 paths e.1.usages) (All-tail (λ e. e.0.0 < n) e es done_within)
      (all_with_head own e.0 paths e.1.usages (All-head (λ e. e.0.0 < n) e es done_within) own_within)

  some_within : (heads : Heads) (i : ℕ) → All (λ e. e.0.0 < n) heads → IfSome (slice_get heads i) (λ e. e.0.0 < n)
  some_within [] i all = tt
  some_within (e ∷ es) zero all = All-head (λ e. e.0.0 < n) e es all
  some_within (e ∷ es) (suc i) all = some_within es i (All-tail (λ e. e.0.0 < n) e es all)

  -- then the highest one is on the stack, if there is one
  pub highest_within : (heads : Heads) → All (λ e. e.0.0 < n) heads → IfSome (highest heads) (λ e. e.0.0 < n)
  highest_within heads all = some_within heads (length heads - 1) all

  -- what was recorded in place of the highest head is on the stack
  pub unused_within : (old new after done : Heads) (head : CycleHead)
      → (depth : StackDepth) × (old ≡ new ++ (depth, head) ∷ [])
      → IfSome (highest old) (λ e. All (λ d. d.0.0 < e.0.0) new) → after ≡ with_unused done new
      → All (λ e. e.0.0 ≤ n) old → All (λ e. e.0.0 < n) done → IfSome (highest after) (λ e. e.0.0 < n)
  unused_within old new after done head taken below recorded within on_stack =
      rw recorded (highest_within _
      (all_with_unused done new on_stack (below_highest old new head n taken below within)))

  pub used_within : (to_done : PathsToNested) (old new after done : Heads) (head : CycleHead)
      → (depth : StackDepth) × (old ≡ new ++ (depth, head) ∷ [])
      → IfSome (highest old) (λ e. All (λ d. d.0.0 < e.0.0) new) → after ≡ with_used done to_done new
      → All (λ e. e.0.0 ≤ n) old → All (λ e. e.0.0 < n) done → IfSome (highest after) (λ e. e.0.0 < n)
  used_within to_done old new after done head taken below recorded within on_stack =
      rw recorded (highest_within _
      (all_with_used to_done done new on_stack (below_highest old new head n taken below within)))
