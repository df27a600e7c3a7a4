-- Heads whose depths rise: the highest one, and what is left without it.
use Rattle.std.proofs.Common.{◌≡◌, ◌≢◌, ℕ, suc, ◌-◌, ◌<◌, ◌≤◌, [], ◌∷◌, length, take, Some, None, IsSome, cond}
use Rattle.std.proofs.Common.{slice_get, refl, sym, ap, ◌∙◌, subst, inl, inr, arith, lt-ltb}
use Rattle.std.proofs.lemmas.Bool.{cases_eq, cases_lt, false≢true}
use Rattle.std.proofs.lemmas.Bool.Decides.{nat_tests}
use Rattle.std.proofs.lemmas.Map.Keys.{sorted_head}
use Rattle.std.specs.List.{AllByRecursion}
use Rattle.std.specs.List.Sorted.{IsStrictlySortedBy}
use Rattle.std.specs.declared.cmp.Ordering.TheVariants.{Less}
use Rattle.std.specs.BTreeMap.{insert_entry, is_at}
use Rattle.std.specs.Map.{keys_of}
use Rattle.std.specs.Ordering.{nat_cmp}
use Rattle.search_rules.specs.Below.{StackDepth, CycleHead, Heads, at_depth, depth_cmp, highest, IsRising, but_highest}
use Rattle.cycle_heads.proofs.HeadLists.{at_depth-first, at_depth-rest, at_depth-insert_other, placed_first}
use Rattle.cycle_heads.proofs.HeadLists.{placed_here, placed_later, rising_later}

-- ---- what the first head is, and the others

pub same_depth : (depth other : StackDepth) → depth.0 ≡ other.0 → depth ≡ other
same_depth depth other is = let made : ℕ → StackDepth = λ n. record { 0 = n } in ap made is

pub at_here : (e : StackDepth × CycleHead) (es : Heads) (depth : StackDepth) → depth.0 ≡ e.0.0
    → at_depth (e ∷ es) depth ≡ Some e.1
at_here e es depth is =
    subst (λ d. at_depth (e ∷ es) d ≡ Some e.1) (sym (same_depth depth e.0 is)) (at_depth-first e.0 e.1 es)

pub at_later : (e : StackDepth × CycleHead) (es : Heads) (depth : StackDepth) → depth.0 ≢ e.0.0
    → at_depth (e ∷ es) depth ≡ at_depth es depth
at_later e es depth other = at_depth-rest e.0 depth e.1 es other

-- each depth is below those after it
abbrev pub Ascends : Heads → Type 0
Ascends [] = Unit {0}
Ascends (e ∷ es) = ((depth : StackDepth) → IsSome (at_depth es depth) → e.0.0 < depth.0) × Ascends es

less_from : (n m : ℕ) → nat_cmp n m ≡ Less → n < m
less_from n m is = grind (arith, nat_tests)

above_all : (least : StackDepth) (es : Heads) → AllByRecursion (λ other. depth_cmp least other ≡ Less) (keys_of es)
    → (depth : StackDepth) → IsSome (at_depth es depth) → least.0 < depth.0
above_all least [] below depth some = absurd (false≢true some)
above_all least (e ∷ es) below depth some = elim (cases_eq depth.0 e.0.0) [
  | inl same ↦ let less = less_from least.0 e.0.0 below.0 in omega (arith, less, same)
  | inr other ↦ above_all least es below.1 depth (subst IsSome (at_later e es depth other) some)
]

pub ascends : (heads : Heads) → IsRising heads → Ascends heads
ascends [] rising = tt
ascends (e ∷ es) rising =
    (above_all e.0 es (sorted_head depth_cmp e.0 (keys_of es) rising), ascends es (rising_later e.0 e.1 es rising))

-- heads ascend when one more is inserted
pub insert_ascends : (depth : StackDepth) (head : CycleHead) (heads : Heads) → Ascends heads
    → Ascends (insert_entry depth_cmp heads depth head)
insert_ascends depth head [] asc = ((λ other some. absurd (false≢true some)), tt)
insert_ascends depth head (e ∷ es) asc = elim (cases_lt depth.0 e.0.0) [
  | inl less ↦ rw (placed_first depth head e es less) ((λ other some. above_first other less some), asc)
  | inr at_least ↦ elim (cases_eq depth.0 e.0.0) [
    | inl same ↦ rw (placed_here depth head e es same) asc
    | inr ne ↦ rw (placed_later depth head e es (omega arith)) (
      (λ other some. above_rest other (omega arith) some),
      insert_ascends depth head es asc.1,
    )
  ]
]
  where
    above_first : (other : StackDepth) → depth.0 < e.0.0 → IsSome (at_depth (e ∷ es) other) → depth.0 < other.0
    above_first other less some = elim (cases_eq other.0 e.0.0) [
      | inl same ↦ omega (arith, less, same)
      | inr apart ↦
          let above = asc.0 other (subst IsSome (at_later e es other apart) some) in omega (arith, less, above)
    ]

    above_rest : (other : StackDepth) → e.0.0 < depth.0
        → IsSome (at_depth (insert_entry depth_cmp es depth head) other) → e.0.0 < other.0
    above_rest other more some = elim (cases_eq other.0 depth.0) [
      | inl same ↦ omega (arith, more, same)
      | inr apart ↦ asc.0 other (subst IsSome (at_depth-insert_other depth head es other apart) some)
    ]

-- ---- the highest head

highest_later : (e f : StackDepth × CycleHead) (rest : Heads) → highest (e ∷ f ∷ rest) ≡ highest (f ∷ rest)
highest_later e f rest =
    let next : length (e ∷ f ∷ rest) - 1 ≡ suc (length (f ∷ rest) - 1) = omega arith in
    ap (slice_get (e ∷ f ∷ rest)) next

but_later : (e f : StackDepth × CycleHead) (rest : Heads) → but_highest (e ∷ f ∷ rest) ≡ e ∷ but_highest (f ∷ rest)
but_later e f rest =
    let next : length (e ∷ f ∷ rest) - 1 ≡ suc (length (f ∷ rest) - 1) = omega arith in
    ap (λ n. take n (e ∷ f ∷ rest)) next

only_highest : (e top : StackDepth × CycleHead) → highest (e ∷ []) ≡ Some top → e ≡ top
only_highest e top is = let same : Some e ≡ Some top = is in cc

-- it is found at its depth
pub highest_there : (heads : Heads) (top : StackDepth × CycleHead) → Ascends heads
    → highest heads ≡ Some top → at_depth heads top.0 ≡ Some top.1
highest_there [] top asc is = absurd cc
highest_there (e ∷ []) top asc is = subst (λ (x : StackDepth × CycleHead). at_depth (e ∷ []) x.0 ≡ Some x.1)
    (only_highest e top is) (at_here e [] e.0 refl)
highest_there (e ∷ f ∷ rest) top asc is =
    let later = highest_there (f ∷ rest) top asc.1 (sym (highest_later e f rest) ∙ is) in
    let above = asc.0 top.0 (subst IsSome (sym later) refl) in
    at_later e (f ∷ rest) top.0 (λ same. absurd (omega (arith, above, same))) ∙ later

above_highest : (e f : StackDepth × CycleHead) (rest : Heads) (top : StackDepth × CycleHead) → Ascends (e ∷ f ∷ rest)
    → highest (e ∷ f ∷ rest) ≡ Some top → e.0.0 < top.0.0
above_highest e f rest top asc is =
    asc.0 top.0 (subst IsSome (sym (highest_there (f ∷ rest) top asc.1 (sym (highest_later e f rest) ∙ is))) refl)

-- and no head is above it
pub at_most_highest : (heads : Heads) (top : StackDepth × CycleHead) → Ascends heads → highest heads ≡ Some top
    → (depth : StackDepth) → IsSome (at_depth heads depth) → depth.0 ≤ top.0.0
at_most_highest [] top asc is depth some = absurd cc
at_most_highest (e ∷ []) top asc is depth some = elim (cases_eq depth.0 e.0.0) [
  | inl same ↦ let top_is : e.0.0 ≡ top.0.0 = ap (λ (x : StackDepth × CycleHead). x.0.0) (only_highest e top is) in
      omega (arith, same, top_is)
  | inr other ↦ absurd (false≢true (subst IsSome (at_later e [] depth other) some))
]
at_most_highest (e ∷ f ∷ rest) top asc is depth some = elim (cases_eq depth.0 e.0.0) [
  | inl same ↦ let above = above_highest e f rest top asc is in omega (arith, same, above)
  | inr other ↦ at_most_highest (f ∷ rest) top asc.1 (sym (highest_later e f rest) ∙ is) depth
      (subst IsSome (at_later e (f ∷ rest) depth other) some)
]

-- ---- the heads but the highest one

-- the others stay
pub others_stay : (heads : Heads) (top : StackDepth × CycleHead) → highest heads ≡ Some top → (depth : StackDepth)
    → depth.0 ≢ top.0.0 → at_depth (but_highest heads) depth ≡ at_depth heads depth
others_stay [] top is depth other = absurd cc
others_stay (e ∷ []) top is depth other = sym
    (at_later e [] depth (λ same. other (same ∙ ap (λ (x : StackDepth × CycleHead). x.0.0) (only_highest e top is))))
others_stay (e ∷ f ∷ rest) top is depth other =
    ap (λ l. at_depth l depth) (but_later e f rest)
    ∙ ap (cond (is_at (depth_cmp depth) e.0) (Some e.1))
    (others_stay (f ∷ rest) top (sym (highest_later e f rest) ∙ is) depth other)

-- and it is gone
pub highest_gone : (heads : Heads) (top : StackDepth × CycleHead) → Ascends heads → highest heads ≡ Some top
    → (depth : StackDepth) → depth.0 ≡ top.0.0 → at_depth (but_highest heads) depth ≡ None
highest_gone [] top asc is depth same = absurd cc
highest_gone (e ∷ []) top asc is depth same = refl
highest_gone (e ∷ f ∷ rest) top asc is depth same =
    let above = above_highest e f rest top asc is in
    ap (λ l. at_depth l depth) (but_later e f rest)
    ∙ at_later e (but_highest (f ∷ rest)) depth (λ first. absurd (omega (arith, above, same, first)))
    ∙ highest_gone (f ∷ rest) top asc.1 (sym (highest_later e f rest) ∙ is) depth same

left_within : (heads : Heads) (depth : StackDepth)
    → IsSome (at_depth (but_highest heads) depth) → IsSome (at_depth heads depth)
left_within [] depth some = absurd (false≢true some)
left_within (e ∷ []) depth some = absurd (false≢true some)
left_within (e ∷ f ∷ rest) depth some = elim (cases_eq depth.0 e.0.0) [
  | inl same ↦ subst IsSome (sym (at_here e (f ∷ rest) depth same)) refl
  | inr other ↦ subst IsSome (sym (at_later e (f ∷ rest) depth other)) (left_within (f ∷ rest) depth
      (subst IsSome
      (ap (λ l. at_depth l depth) (but_later e f rest) ∙ at_later e (but_highest (f ∷ rest)) depth other) some))
]

pub left_ascends : (heads : Heads) → Ascends heads → Ascends (but_highest heads)
left_ascends [] asc = tt
left_ascends (e ∷ []) asc = tt
left_ascends (e ∷ f ∷ rest) asc =
    subst Ascends (sym (but_later e f rest))
    ((λ depth some. asc.0 depth (left_within (f ∷ rest) depth some)), left_ascends (f ∷ rest) asc.1)

-- only where there are no heads, none is the highest one
pub no_highest : (heads : Heads) → highest heads ≡ None → heads ≡ []
no_highest [] is = refl
no_highest (e ∷ []) is = absurd (let wrong : Some e ≡ None = is in cc)
no_highest (e ∷ f ∷ rest) is =
    absurd (let none : f ∷ rest ≡ [] = no_highest (f ∷ rest) (sym (highest_later e f rest) ∙ is) in cc)

-- ---- ascending heads rise

all_less : (least : StackDepth) (es : Heads) → ((depth : StackDepth) → IsSome (at_depth es depth) → least.0 < depth.0)
    → AllByRecursion (λ other. depth_cmp least other ≡ Less) (keys_of es)
all_less least [] above = tt
all_less least (e ∷ es) above = (
  (let less = above e.0 (subst IsSome (sym (at_here e es e.0 refl)) refl) in rw (lt-ltb least.0 e.0.0 less) refl),
  all_less least es (λ depth some. above depth (elim (cases_eq depth.0 e.0.0) [
    | inl same ↦ subst IsSome (sym (at_here e es depth same)) refl
    | inr other ↦ subst IsSome (sym (at_later e es depth other)) some
  ])),
)

rising_first : (e : StackDepth × CycleHead) (es : Heads)
    → AllByRecursion (λ other. depth_cmp e.0 other ≡ Less) (keys_of es) → IsRising es → IsRising (e ∷ es)
unfolding IsStrictlySortedBy
rising_first e es below rising = (below, rising)

no_heads_rise : (none : Heads) → none ≡ [] → IsRising none
unfolding IsStrictlySortedBy
no_heads_rise none is = subst IsRising (sym is) tt

pub rises : (heads : Heads) → Ascends heads → IsRising heads
rises [] asc = no_heads_rise [] refl
rises (e ∷ es) asc = rising_first e es (all_less e.0 es asc.0) (rises es asc.1)
