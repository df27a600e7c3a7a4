-- The head of the greatest depth, at the end of a list of heads.
use Rattle.std.proofs.Common.{◌≡◌, ◌-◌, ◌<◌, ◌≤◌, List, [], ◌∷◌, ◌++◌, All, Some, IfSome, length, sym, ap, subst, ◌∙◌}
use Rattle.std.proofs.Common.{inl, inr, arith}
use Rattle.std.proofs.lemmas.Bool.{cases_eq}
use Rattle.std.proofs.lemmas.Cmp.{ranked}
use Rattle.std.proofs.lemmas.List.{length_push, get_or-map, length-map, map-append}
use Rattle.std.proofs.lemmas.List.Elements.{All-from_recursion}
use Rattle.std.proofs.lemmas.Option.{get_or_from_slice_get}
use Rattle.std.specs.List.{AllByRecursion, slice_get}
use Rattle.std.specs.List.Sorted.{IsStrictlySortedBy}
use Rattle.std.specs.Map.{keys_of}
use Rattle.std.specs.declared.cmp.Ordering.TheVariants.{Less}
use Rattle.list_lemmas.proofs.Lists.{get_end}
use Rattle.cycle_heads.specs.Words.{StackDepth, CycleHead, depth_cmp, highest, Heads, IsRising}
use Rattle.cycle_heads.proofs.Places.{rising_at}

-- a head at the end is the highest one
pub highest-push : (heads : Heads) (head : StackDepth × CycleHead) → highest (heads ++ head ∷ []) ≡ Some head
highest-push heads head =
    let last : length (heads ++ head ∷ []) - 1 ≡ length heads = omega (arith, length_push heads head) in
    ap (slice_get (heads ++ head ∷ [])) last ∙ get_end heads head

-- each head is at most as high as the highest
pub greatest : (heads : Heads) (top : StackDepth × CycleHead) → IsRising heads
    → highest heads ≡ Some top → All (λ e. e.0.0 ≤ top.0.0) heads
greatest heads top rising is k d within =
    let last = get_or_from_slice_get heads (length heads - 1) top d is in
    elim (cases_eq k (length heads - 1)) [
      | inl same ↦ rw (same, last) (omega arith)
      | inr other ↦
          omega (arith, rising_at heads rising k (length heads - 1) d (omega arith) (omega arith), ap (λ e. e.0.0) last)
    ]

each_before : (P : StackDepth → Type 0) (depths : List StackDepth) (last : StackDepth)
    → AllByRecursion P (depths ++ last ∷ []) → AllByRecursion P depths × P last
each_before P [] last each = (tt, each.0)
each_before P (depth ∷ depths) last each = let rest = each_before P depths last each.1 in ((each.0, rest.0), rest.1)

rising_before : (depths : List StackDepth) (last : StackDepth) → IsStrictlySortedBy depth_cmp (depths ++ last ∷ [])
    → IsStrictlySortedBy depth_cmp depths × AllByRecursion (λ depth. depth_cmp depth last ≡ Less) depths
unfolding IsStrictlySortedBy
rising_before [] last rising = (tt, tt)
rising_before (depth ∷ depths) last rising =
    let first = each_before (λ other. depth_cmp depth other ≡ Less) depths last rising.0 in
    let rest = rising_before depths last rising.1 in
    ((first.0, rest.0), (first.1, rest.1))

-- without the last of them the heads still rise, and each is below that one, which was the highest
pub before_last : (heads : Heads) (top : StackDepth × CycleHead) → IsRising (heads ++ top ∷ [])
    → IsRising heads × IfSome (highest (heads ++ top ∷ [])) (λ e. All (λ d. d.0.0 < e.0.0) heads)
before_last heads top rising =
    let both = rising_before (keys_of heads) top.0
    (subst (IsStrictlySortedBy depth_cmp) (map-append (λ e. e.0) heads (top ∷ [])) rising) in (
      both.0,
      rw (highest-push heads top) (λ k d within.
          let less = All-from_recursion (λ depth. depth_cmp depth top.0 ≡ Less) (keys_of heads) both.1 k d.0
          (rw (length-map heads (λ e. e.0)) within) in
          ranked _ _ Less (sym (rw (get_or-map (λ e. e.0) heads k d d.0 within) at less))),
    )
