-- The entries of the provisional cache that may be used over the goals: what their heads are, and what
-- keeps all of them so.
use Rattle.std.proofs.Common.{◌≡◌, ℕ, ◌<◌, ◌≤◌, Bool, List, [], ◌∷◌, length, map, reverse, All, Option, Some, None}
use Rattle.std.proofs.Common.{IsSome, refl, sym, ◌∙◌, subst, inl, inr, arith, ne_eqb}
use Rattle.std.specs.Option.{IfSome, option_map}
use Rattle.std.proofs.lemmas.Bool.{cases_eq, false≢true}
use Rattle.std.proofs.lemmas.List.{length-map, length-reverse}
use Rattle.std.proofs.lemmas.List.Elements.{All-cons, All-nil, All-weaker}
use Rattle.search_rules.specs.Below.{StackDepth, CycleHead, Heads, at_depth, highest, Request, Reply, OpenGoal}
use Rattle.search_rules.specs.Below.{ProvisionalCacheEntry, CacheNode, Lists, entries_at, Verdicts}
use Rattle.search_rules.specs.Words.{OpenRun, HaveTallies, IsReusable, AreOnStack, IsHead, IsReady, AreReady, RestsOn}
use Rattle.search_rules.specs.Words.{runs_of, run_of, Tally, counted, LieBelow}
use Rattle.search_rules.proofs.rebasing.HeadOrder.{ascends, at_here, at_later, highest_there}
use Rattle.search_rules.proofs.answers.Kept.{KeepsUses}
use Rattle.search_rules.proofs.entries.Reusable.{reusable_kept}

-- ---- heads by their depths

-- what holds at each depth where a head is recorded holds of each head
pub all_at_depths : (P : StackDepth → Type 0) (heads : Heads)
    → ((depth : StackDepth) → IsSome (at_depth heads depth) → P depth) → All (λ head. P head.0) heads
all_at_depths P [] at = All-nil (λ (head : StackDepth × CycleHead). P head.0)
all_at_depths P (e ∷ es) at =
    All-cons (λ (head : StackDepth × CycleHead). P head.0) e es
    (at e.0 (subst IsSome (sym (at_here e es e.0 refl)) refl))
    (all_at_depths P es (λ depth some. at depth (elim (cases_eq depth.0 e.0.0) [
      | inl same ↦ subst IsSome (sym (at_here e es depth same)) refl
      | inr other ↦ subst IsSome (sym (at_later e es depth other)) some
    ])))

-- a head that lies below a place and is counted there, or the place itself
pub counted_at_most : (place : ℕ) (t : Tally) → LieBelow place t.heads → (head : StackDepth)
    → IsSome (counted place t head) → head.0 ≤ place
counted_at_most place t lower head some = elim (cases_eq head.0 place) [
  | inl same ↦ omega (arith, same)
  | inr other ↦
      let known : IsSome (option_map (λ (k : CycleHead). k.usages) (at_depth t.heads head)) =
      subst IsSome (let apart = ne_eqb head.0 place other in rw apart refl) some in
      let below : head.0 < place = lower head (recorded (at_depth t.heads head) known) in
      omega (arith, below)
]
  where
    recorded : (o : Option CycleHead) → IsSome (option_map (λ (k : CycleHead). k.usages) o) → IsSome o
    recorded None known = absurd (false≢true known)
    recorded (Some k) known = refl

-- the heads of the goals stand among them
pub is_below : {I R : Type 0} (goals : List (OpenRun I R)) → HaveTallies goals → (head : StackDepth)
    → IsHead goals head → head.0 < length goals
is_below [] tallies head is = absurd is
is_below (o ∷ below) tallies head (inl some) =
    let most = counted_at_most (length below) o.tally tallies.0.tallied.lower head some in omega (arith, most)
is_below (o ∷ below) tallies head (inr is) = let less = is_below below tallies.1 head is in omega (arith, less)

-- ---- what the heads of the entries are

module _ {X I R A T : Type 0} (says : Verdicts R) (scripts : I → List (Reply R) → Request I R)
    (nodes : List (CacheNode I R)) (goals : List (OpenRun I R)) (goal : I) (entry : ProvisionalCacheEntry X I R A T)
    (ready : IsReady says scripts nodes goals goal entry) where
  -- the highest head of an entry is one of the goals
  pub highest_is_head : (top : StackDepth × CycleHead) → highest entry.heads ≡ Some top → IsHead goals top.0
  highest_is_head top is = ready.are_heads top.0
      (subst IsSome (sym (highest_there entry.heads top (ascends entry.heads ready.rising) is)) refl)

  -- each head of an entry stands among the goals
  pub heads_below : HaveTallies goals → All (λ (head : StackDepth × CycleHead). head.0.0 < length goals) entry.heads
  heads_below tallies = all_at_depths (λ head. head.0 < length goals) entry.heads
      (λ head some. is_below goals tallies head (ready.are_heads head some))

module _ {X F I R A T : Type 0} where
  -- as many goals are on the stack as there are items
  pub on_stack_many : (items : List (OpenGoal X F I R A T)) → length (reverse (map (λ s. s.0) items)) ≡ length items
  on_stack_many items = length-reverse (map (λ s. s.0) items) ∙ length-map items (λ s. s.0)

  -- the heads of the newest goal are on the stack below it
  pub heads_on_stack : (s : OpenGoal X F I R A T) (below : List (OpenGoal X F I R A T))
      → HaveTallies (runs_of (s ∷ below))
      → All (λ (head : StackDepth × CycleHead). head.0.0 < length (reverse (map (λ s. s.0) below))) s.0.state.heads
  heads_on_stack s below tallies =
      all_at_depths (λ head. head.0 < length (reverse (map (λ (s : OpenGoal X F I R A T). s.0) below))) s.0.state.heads
      (λ head some. let less = tallies.0.tallied.lower head some in
      omega (arith, less, on_stack_many below, length-map below run_of))

  module _ (says : Verdicts R) (same : I → I → Bool) (scripts : I → List (Reply R) → Request I R)
      (nodes : List (CacheNode I R)) (lists : Lists I (ProvisionalCacheEntry X I R A T)) where
    -- the highest head of each entry is on the stack
    pub are_on_stack : (items : List (OpenGoal X F I R A T)) → HaveTallies (runs_of items)
        → AreReady says same scripts nodes (runs_of items) lists
        → AreOnStack same (reverse (map (λ s. s.0) items)) lists
    are_on_stack items tallies ready = λ goal.
        All-weaker (IsReady says scripts nodes (runs_of items) goal) (λ (entry : ProvisionalCacheEntry X I R A T).
        IfSome (highest entry.heads) (λ head. head.0.0 < length (reverse (map (λ s. s.0) items))))
        (λ entry one. at goal entry one (highest entry.heads) refl) (entries_at same lists goal) (ready goal)
      where
        at :
            (goal : I) (entry : ProvisionalCacheEntry X I R A T) → IsReady says scripts nodes (runs_of items) goal entry
            → (o : Option (StackDepth × CycleHead)) → highest entry.heads ≡ o
            → IfSome o (λ head. head.0.0 < length (reverse (map (λ s. s.0) items)))
        at goal entry one None is = tt
        at goal entry one (Some top) is =
            let less = is_below (runs_of items) tallies top.0
            (highest_is_head says scripts nodes (runs_of items) goal entry one top is) in
            omega (arith, less, on_stack_many items, length-map items run_of)

    -- each head of each entry is on the stack below the newest goal, or that goal
    pub are_within : (s : OpenGoal X F I R A T) (below : List (OpenGoal X F I R A T))
        → HaveTallies (runs_of (s ∷ below)) → AreReady says same scripts nodes (runs_of (s ∷ below)) lists → (goal : I)
        → All (λ (entry : ProvisionalCacheEntry X I R A T).
        All (λ (head : StackDepth × CycleHead). head.0.0 ≤ length (reverse (map (λ s. s.0) below))) entry.heads)
        (entries_at same lists goal)
    are_within s below tallies ready = λ goal.
        All-weaker (IsReady says scripts nodes (runs_of (s ∷ below)) goal) (λ (entry : ProvisionalCacheEntry X I R A T).
        All (λ (head : StackDepth × CycleHead). head.0.0 ≤ length (reverse (map (λ s. s.0) below))) entry.heads)
        (λ entry one.
        All-weaker (λ (head : StackDepth × CycleHead). head.0.0 < length (runs_of (s ∷ below)))
        (λ (head : StackDepth × CycleHead). head.0.0 ≤ length (reverse (map (λ s. s.0) below)))
        (λ head less. omega (arith, less, on_stack_many below, length-map below run_of)) entry.heads
        (heads_below says scripts nodes (runs_of (s ∷ below)) goal entry one tallies))
        (entries_at same lists goal) (ready goal)

-- ---- from goals to goals

module _ {X I R A T : Type 0} (says : Verdicts R) (scripts : I → List (Reply R) → Request I R) where
  -- an entry stays ready where it is reusable still, and its heads are heads
  pub RestsOn-kept : (nodes after : List (CacheNode I R)) (goals later : List (OpenRun I R))
      (is_head later_head : StackDepth → Type 0) (goal : I) (entry : ProvisionalCacheEntry X I R A T)
      → (IsReusable says nodes goals goal entry → IsReusable says after later goal entry)
      → ((head : StackDepth) → IsSome (at_depth entry.heads head) → is_head head → later_head head)
      → RestsOn says scripts nodes goals is_head goal entry → RestsOn says scripts after later later_head goal entry
  RestsOn-kept nodes after goals later is_head later_head goal entry reusable heads one = record {
    reusable = reusable one.reusable;
    some = one.some;
    rising = one.rising;
    are_heads = λ head some. heads head some (one.are_heads head some);
    no_rank = one.no_rank;
  }

module _ {X I R A T : Type 0} (says : Verdicts R) (same : I → I → Bool)
    (scripts : I → List (Reply R) → Request I R) where
  -- a move keeps all answers and heads
  pub uses_kept_ready : (nodes after : List (CacheNode I R)) (goals later : List (OpenRun I R))
      (lists : Lists I (ProvisionalCacheEntry X I R A T)) → KeepsUses says nodes after goals later
      → AreReady says same scripts nodes goals lists → AreReady says same scripts after later lists
  uses_kept_ready nodes after goals later lists keeps ready = λ goal.
      All-weaker (IsReady says scripts nodes goals goal) (IsReady says scripts after later goal)
      (λ entry. RestsOn-kept says scripts nodes after goals later (IsHead goals) (IsHead later) goal entry
      (reusable_kept says nodes after goals later keeps goal entry) (λ head some. keeps.heads head))
      (entries_at same lists goal) (ready goal)

  -- without entries there is nothing to show
  pub none_ready : (nodes : List (CacheNode I R)) (goals : List (OpenRun I R))
      → AreReady {X = X} {A = A} {T = T} says same scripts nodes goals []
  none_ready nodes goals = λ goal. All-nil (IsReady says scripts nodes goals goal)
