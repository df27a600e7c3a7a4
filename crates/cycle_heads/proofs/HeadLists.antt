-- Lists of what is recorded by depth.
use Rattle.std.proofs.Common.{◌≡◌, ◌≢◌, ℕ, zero, suc, ◌+◌, ◌<◌, drop, get_or, length, subst, ◌∙◌, true, false, List, []}
use Rattle.std.proofs.Common.{◌∷◌, Some, None, IsSome, cond, refl, ap, inl, inr, arith, lt-ltb, le-ltb, eq-eqb, ne_eqb}
use Rattle.std.proofs.Math.Seq.{drop-cons}
use Rattle.std.proofs.lemmas.Bool.{cases_lt, cases_eq, false≢true}
use Rattle.std.proofs.lemmas.Map.Keys.{sorted_head, sorted_tail}
use Rattle.std.specs.List.{AllByRecursion}
use Rattle.std.specs.List.Sorted.{IsStrictlySortedBy}
use Rattle.std.specs.declared.cmp.Ordering.TheVariants.{Less}
use Rattle.std.specs.Ordering.{is_eq, nat_cmp}
use Rattle.std.specs.BTreeMap.{insert_entry, is_at}
use Rattle.std.specs.Map.{keys_of, set_value}
use Rattle.cycle_heads.specs.Words.{StackDepth, CycleHead, HeadUsages, at_depth, depth_cmp, IsRising}

tied : (a b : ℕ) → a ≡ b → is_eq (nat_cmp a b) ≡ true
tied a b e = rw (le-ltb a b (omega arith), eq-eqb a b e) refl

apart : (a b : ℕ) → (a ≡ b → ⊥) → is_eq (nat_cmp a b) ≡ false
apart a b ne = elim (cases_lt a b) [
  | inl less ↦ rw (lt-ltb a b less) refl
  | inr at_least ↦ rw (le-ltb a b at_least, ne_eqb a b ne) refl
]

-- a depth below all others is not among them
pub absent_below : {A : Type 0} (entries : List (StackDepth × A)) (depth : StackDepth)
    → AllByRecursion (λ other. depth_cmp depth other ≡ Less) (keys_of entries) → at_depth entries depth ≡ None
absent_below [] depth below = refl
absent_below (e ∷ es) depth below =
    rw (ap is_eq below.0) (absent_below es depth below.1)

pub rising_none : (A : Type 0) → IsRising {A = A} []
unfolding IsStrictlySortedBy
rising_none A = tt

-- the first depth of a rising list comes once
pub absent_later : {A : Type 0} (depth : StackDepth) (value : A) (rest : List (StackDepth × A))
    → IsRising ((depth, value) ∷ rest) → at_depth rest depth ≡ None
absent_later depth value rest rising = absent_below rest depth (sorted_head depth_cmp depth (keys_of rest) rising)

pub rising_later : {A : Type 0} (depth : StackDepth) (value : A) (rest : List (StackDepth × A))
    → IsRising ((depth, value) ∷ rest) → IsRising rest
rising_later depth value rest rising = sorted_tail depth_cmp depth (keys_of rest) rising

pub rising_from : {A : Type 0} (entries : List (StackDepth × A)) (i : ℕ) → IsRising entries → IsRising (drop i entries)
rising_from entries zero rising = rising
rising_from [] (suc i) rising = rising
rising_from (e ∷ es) (suc i) rising = rising_from es i (rising_later e.0 e.1 es rising)

-- at a place in a list, that entry is the first of those that are left
pub next_entry : {A : Type 0} (entries : List (StackDepth × A)) (i : ℕ) (e : StackDepth × A) → i < length entries
    → drop i entries ≡ ((get_or entries i e).0, (get_or entries i e).1) ∷ drop (i + 1) entries
next_entry entries i e within =
    subst (λ n. drop i entries ≡ ((get_or entries i e).0, (get_or entries i e).1) ∷ drop n entries)
    {x = suc i} (omega arith)
    (drop-cons entries i e within ∙ ap (λ first. first ∷ drop (suc i) entries) (same_pair (get_or entries i e)))
  where
    same_pair : {A : Type 0} (e : StackDepth × A) → e ≡ (e.0, e.1)
    same_pair (depth, value) = refl

-- what a loop reads where there is no entry
abbrev pub no_head : StackDepth × CycleHead
no_head = (
  record { 0 = 0 },
  record {
    paths_to_head = record { 0 = 0 };
    usages = record { inductive = 0; unknown = 0; coinductive = 0; forced_ambiguity = 0 };
  },
)

abbrev pub no_counts : StackDepth × HeadUsages
no_counts = (record { 0 = 0 }, record { inductive = 0; unknown = 0; coinductive = 0; forced_ambiguity = 0 })

-- the first of a list is found at its depth, and other depths are sought in the rest
pub at_depth-first : {A : Type 0} (depth : StackDepth) (value : A) (rest : List (StackDepth × A))
    → at_depth ((depth, value) ∷ rest) depth ≡ Some value
at_depth-first depth value rest = rw (tied depth.0 depth.0 refl) refl

pub at_depth-rest :
    {A : Type 0} (depth other : StackDepth) (value : A) (rest : List (StackDepth × A)) → other.0 ≢ depth.0
    → at_depth ((depth, value) ∷ rest) other ≡ at_depth rest other
at_depth-rest depth other value rest ne = rw (apart other.0 depth.0 ne) refl

module _ {A : Type 0} (depth : StackDepth) (value : A) where
  pub placed_first : (e : StackDepth × A) (es : List (StackDepth × A)) → depth.0 < e.0.0
      → insert_entry depth_cmp (e ∷ es) depth value ≡ (depth, value) ∷ e ∷ es
  placed_first e es less = rw (lt-ltb depth.0 e.0.0 less) refl

  pub placed_here : (e : StackDepth × A) (es : List (StackDepth × A)) → depth.0 ≡ e.0.0
      → insert_entry depth_cmp (e ∷ es) depth value ≡ (e.0, value) ∷ es
  placed_here e es same = rw (le-ltb depth.0 e.0.0 (omega arith), eq-eqb depth.0 e.0.0 same) refl

  pub placed_later : (e : StackDepth × A) (es : List (StackDepth × A)) → e.0.0 < depth.0
      → insert_entry depth_cmp (e ∷ es) depth value ≡ e ∷ insert_entry depth_cmp es depth value
  placed_later e es more = rw (le-ltb depth.0 e.0.0 (omega arith), ne_eqb depth.0 e.0.0 (omega arith)) refl

  -- what is inserted is found at its depth
  pub at_depth-insert_same : (entries : List (StackDepth × A))
      → at_depth (insert_entry depth_cmp entries depth value) depth ≡ Some value
  at_depth-insert_same [] = rw (tied depth.0 depth.0 refl) refl
  at_depth-insert_same (e ∷ es) = elim (cases_lt depth.0 e.0.0) [
    | inl less ↦ rw (placed_first e es less, tied depth.0 depth.0 refl) refl
    | inr at_least ↦ elim (cases_eq depth.0 e.0.0) [
      | inl same ↦ rw (placed_here e es same, tied depth.0 e.0.0 same) refl
      | inr ne ↦ rw (placed_later e es (omega arith), apart depth.0 e.0.0 ne) (at_depth-insert_same es)
    ]
  ]

  -- and other depths keep what they have
  pub at_depth-insert_other : (entries : List (StackDepth × A)) (other : StackDepth) → other.0 ≢ depth.0
      → at_depth (insert_entry depth_cmp entries depth value) other ≡ at_depth entries other
  at_depth-insert_other [] other ne = rw (apart other.0 depth.0 ne) refl
  at_depth-insert_other (e ∷ es) other ne = elim (cases_lt depth.0 e.0.0) [
    | inl less ↦ rw (placed_first e es less, apart other.0 depth.0 ne) refl
    | inr at_least ↦ elim (cases_eq depth.0 e.0.0) [
      | inl same ↦ rw (placed_here e es same, apart other.0 e.0.0 (λ e. ne (omega arith))) refl
      | inr later ↦ rw (placed_later e es (omega arith))
          (ap (cond (is_at (depth_cmp other) e.0) (Some e.1)) (at_depth-insert_other es other ne))
    ]
  ]

  -- what replaces a value is found at its depth
  pub at_depth-set_same : (entries : List (StackDepth × A)) → IsSome (at_depth entries depth)
      → at_depth (set_value (is_at (depth_cmp depth)) entries value) depth ≡ Some value
  at_depth-set_same [] there = absurd (false≢true there)
  at_depth-set_same (e ∷ es) there = elim (cases_eq depth.0 e.0.0) [
    | inl same ↦ rw (tied depth.0 e.0.0 same, tied depth.0 e.0.0 same) refl
    | inr ne ↦ rw (apart depth.0 e.0.0 ne, apart depth.0 e.0.0 ne)
        (at_depth-set_same es (rw (apart depth.0 e.0.0 ne) at there))
  ]

  pub at_depth-set_other : (entries : List (StackDepth × A)) (other : StackDepth) → other.0 ≢ depth.0
      → at_depth (set_value (is_at (depth_cmp depth)) entries value) other ≡ at_depth entries other
  at_depth-set_other [] other ne = refl
  at_depth-set_other (e ∷ es) other ne = elim (cases_eq depth.0 e.0.0) [
    | inl same ↦ rw (tied depth.0 e.0.0 same, apart other.0 e.0.0 (λ e. ne (omega arith))) refl
    | inr later ↦ rw (apart depth.0 e.0.0 later)
        (ap (cond (is_at (depth_cmp other) e.0) (Some e.1)) (at_depth-set_other es other ne))
  ]
