-- The laws of sets of paths, for bits that no flag has too: the flags are the five lowest bits.
use Rattle.std.proofs.Common.{◌≡◌, ℕ, ◌+◌, ◌*◌, ◌/◌, ◌%◌, ◌^◌, ◌<◌, Bool, true, false, ◌||◌, not, ◌==◌, nat_lt, List}
use Rattle.std.proofs.Common.{[], ◌∷◌, ◌++◌, map, filter, fold, if◌then◌else◌, Contains, IsTrue, ◌↔◌, refl, ap, sym}
use Rattle.std.proofs.Common.{◌∙◌, subst, ◌⊎◌, inl, inr, arith}
use Rattle.std.proofs.lemmas.Bool.{eqb-true, false≢true, or_cases, or_left, or_right, ltb-true, not-true}
use Rattle.std.proofs.lemmas.Nat.{and_block, and_le_r, or_block, or_comm, or_mod, or_shr, or_shifted}
use Rattle.std.specs.Int.RustNames.{bit_and, bit_or}
use Rattle.path_kinds.specs.Words.{PathKind, Inductive, Unknown, Coinductive, ForcedAmbiguity, PathsToNested}
use Rattle.path_kinds.specs.Words.{greater_kind, extended, has_empty, has_kind, kinds_after, no_paths, paths_of, union}
use Rattle.path_kinds.specs.Words.{union_of, unnamed_in}
use Rattle.list_lemmas.proofs.Members.{contains_later}
pub use Rattle.list_lemmas.proofs.Members.{first_or_later}
use Rattle.path_kinds.proofs.PathSets.{all_below, passes, passes_each, same_bits}
use Rattle.path_kinds.proofs.PathRanks.{each_kind}

-- a flag is read from the five lowest bits
low_flag : (n flag : ℕ) → flag < 32 → bit_and n flag ≡ bit_and (n % 32) flag
low_flag n flag lt =
    let split : n ≡ n / 32 * 2 ^ 5 + n % 32 = omega arith in
    let none : flag ≡ 0 * 2 ^ 5 + flag = omega arith in
    let above : bit_and (n / 32) 0 * 2 ^ 5 + bit_and (n % 32) flag ≡ bit_and (n % 32) flag =
    omega (arith, and_le_r (n / 32) 0) in
    (λ i. bit_and (split i) (none i)) ∙ and_block 5 (n / 32) 0 (n % 32) flag (omega arith) lt ∙ above

same_kind : (n : ℕ) (kind : PathKind) → has_kind (record { 0 = n }) kind ≡ has_kind (record { 0 = n % 32 }) kind
same_kind n Inductive = ap (λ m. m == 2) (low_flag n 2 (omega arith))
same_kind n Unknown = ap (λ m. m == 4) (low_flag n 4 (omega arith))
same_kind n Coinductive = ap (λ m. m == 8) (low_flag n 8 (omega arith))
same_kind n ForcedAmbiguity = ap (λ m. m == 16) (low_flag n 16 (omega arith))

same_empty : (n : ℕ) → has_empty (record { 0 = n }) ≡ has_empty (record { 0 = n % 32 })
same_empty n = ap (λ m. m == 1) (low_flag n 1 (omega arith))

same_kinds_after : (n : ℕ) (step : PathKind)
    → kinds_after (record { 0 = n }) step ≡ kinds_after (record { 0 = n % 32 }) step
same_kinds_after n step = λ i. map (greater_kind step) ((if same_empty n i then Inductive ∷ [] else [])
    ++ filter (λ kind. same_kind n kind i) (Inductive ∷ Unknown ∷ Coinductive ∷ ForcedAmbiguity ∷ []))

-- the flags of a set after a step
abbrev named : PathKind → ℕ → ℕ
named step n = (union_of (map paths_of (kinds_after (record { 0 = n }) step))).0

named_low : (step : PathKind) (n : ℕ) → named step n ≡ named step (n % 32)
named_low step n = ap (λ kinds. (union_of (map paths_of kinds)).0) (same_kinds_after n step)

named_fits : (step : PathKind) (n : ℕ) → n < 32 → nat_lt (named step n) 32 ≡ true
named_fits step = passes_each (λ step m. nat_lt (named step m) 32) 32 refl refl refl refl step

named_moves : (step : PathKind) (n : ℕ) → n < 32 → not (bit_and (named step n) 1 == 1) ≡ true
named_moves step = passes_each (λ step m. not (bit_and (named step m) 1 == 1)) 32 refl refl refl refl step

abbrev joins : PathKind → ℕ → ℕ → Bool
joins step a b = named step (bit_or a b) == bit_or (named step a) (named step b)

named_joins : (step : PathKind) (a : ℕ) → a < 32 → all_below (joins step a) 32 ≡ true
named_joins step = passes_each (λ step m. all_below (joins step m) 32) 32 refl refl refl refl step

-- the flags of a set after a step, and the bits above as they were
extended_parts : (paths : PathsToNested) (step : PathKind)
    → (extended paths step).0 ≡ paths.0 / 32 * 2 ^ 5 + named step (paths.0 % 32)
unfolding extended
extended_parts paths step =
    let fits = ltb-true _ _ (named_fits step (paths.0 % 32) (omega arith)) in
    ap (λ m. bit_or m (paths.0 / 32 * 32)) (named_low step paths.0)
    ∙ or_comm (named step (paths.0 % 32)) (paths.0 / 32 * 32)
    ∙ or_shifted (paths.0 / 32) 5 (named step (paths.0 % 32)) fits

pub extended-union : (some more : PathsToNested) (step : PathKind)
    → extended (union some more) step ≡ union (extended some step) (extended more step)
extended-union some more step =
    let a = some.0 in
    let b = more.0 in
    let fits_a : named step (a % 32) < 32 = ltb-true _ _ (named_fits step (a % 32) (omega arith)) in
    let fits_b : named step (b % 32) < 32 = ltb-true _ _ (named_fits step (b % 32) (omega arith)) in
    let joined : named step (bit_or (a % 32) (b % 32)) ≡ bit_or (named step (a % 32)) (named step (b % 32)) =
    eqb-true _ _ (passes (joins step (a % 32)) 32 (named_joins step (a % 32) (omega arith)) (b % 32) (omega arith)) in
    same_bits _ _ (extended_parts (union some more) step
    ∙ (λ i. or_shr a b 5 i * 2 ^ 5 + named step (or_mod a b 5 i))
    ∙ ap (λ m. bit_or (a / 32) (b / 32) * 2 ^ 5 + m) joined
    ∙ sym (or_block 5 (a / 32) (b / 32) (named step (a % 32)) (named step (b % 32)) fits_a fits_b)
    ∙ (λ i. bit_or (sym (extended_parts some step) i) (sym (extended_parts more step) i)))

twice : PathKind → PathKind → ℕ → Bool
twice some more n = named more (named some n) == named (greater_kind some more) n

named_twice : (some more : PathKind) (n : ℕ) → n < 32 → twice some more n ≡ true
unfolding twice
named_twice some more = each_kind (λ k. (n : ℕ) → n < 32 → twice k more n ≡ true)
    (passes_each (twice Inductive) 32 refl refl refl refl more)
    (passes_each (twice Unknown) 32 refl refl refl refl more)
    (passes_each (twice Coinductive) 32 refl refl refl refl more)
    (passes_each (twice ForcedAmbiguity) 32 refl refl refl refl more) some

-- two steps in turn are the greater one
pub extended-twice : (paths : PathsToNested) (some more : PathKind)
    → extended (extended paths some) more ≡ extended paths (greater_kind some more)
unfolding twice
extended-twice paths some more =
    let low = paths.0 % 32 in
    let once = extended_parts paths some in
    let fits : named some low < 32 = ltb-true _ _ (named_fits some low (omega arith)) in
    let high : (extended paths some).0 / 32 ≡ paths.0 / 32 = omega (arith, once, fits) in
    let left : (extended paths some).0 % 32 ≡ named some low = omega (arith, once, fits) in
    same_bits _ _ (extended_parts (extended paths some) more
    ∙ (λ i. high i * 2 ^ 5 + named more (left i))
    ∙ ap (λ m. paths.0 / 32 * 2 ^ 5 + m) (eqb-true _ _ (named_twice some more low (omega arith)))
    ∙ sym (extended_parts paths (greater_kind some more)))

pub extended-none : (step : PathKind) → extended no_paths step ≡ no_paths
unfolding extended
extended-none = each_kind (λ step. extended no_paths step ≡ no_paths) refl refl refl refl

pub extended-no_empty : (paths : PathsToNested) (step : PathKind) → has_empty (extended paths step) ≡ false
extended-no_empty paths step =
    let n = (extended paths step).0 in
    let parts = extended_parts paths step in
    let fits : named step (paths.0 % 32) < 32 = ltb-true _ _ (named_fits step (paths.0 % 32) (omega arith)) in
    let low : n % 32 ≡ named step (paths.0 % 32) = omega arith in
    same_empty n ∙ ap (λ m. bit_and m 1 == 1) low ∙ not-true _ (named_moves step (paths.0 % 32) (omega arith))

same_test : Bool → Bool → Bool
same_test a b = if a then b else not b

same_from_test : (a b : Bool) → same_test a b ≡ true → a ≡ b
unfolding same_test
same_from_test true b h = sym h
same_from_test false true h = h
same_from_test false false h = refl

abbrev keeps_kind : PathKind → ℕ → ℕ → Bool
keeps_kind kind a b = same_test (has_kind (record { 0 = bit_or a b }) kind)
    (has_kind (record { 0 = a }) kind || has_kind (record { 0 = b }) kind)

low_keeps_kind : (kind : PathKind) (a : ℕ) → a < 32 → all_below (keeps_kind kind a) 32 ≡ true
unfolding same_test
low_keeps_kind kind = passes_each (λ kind m. all_below (keeps_kind kind m) 32) 32 refl refl refl refl kind

pub has_kind-union : (some more : PathsToNested) (kind : PathKind)
    → has_kind (union some more) kind ≡ (has_kind some kind || has_kind more kind)
has_kind-union some more kind =
    let a = some.0 in
    let b = more.0 in
    same_kind (bit_or a b) kind
    ∙ ap (λ n. has_kind (record { 0 = n }) kind) (or_mod a b 5)
    ∙ same_from_test _ _
    (passes (keeps_kind kind (a % 32)) 32 (low_keeps_kind kind (a % 32) (omega arith)) (b % 32) (omega arith))
    ∙ (λ i. sym (same_kind a kind) i || sym (same_kind b kind) i)

pub has_kind-none : (kind : PathKind) → has_kind no_paths kind ≡ false
has_kind-none = each_kind (λ kind. has_kind no_paths kind ≡ false) refl refl refl refl

has_kind-unnamed : (paths : PathsToNested) (kind : PathKind) → has_kind (unnamed_in paths) kind ≡ false
has_kind-unnamed paths kind =
    let none : paths.0 / 32 * 32 % 32 ≡ 0 = omega arith in
    same_kind (paths.0 / 32 * 32) kind ∙ ap (λ n. has_kind (record { 0 = n }) kind) none ∙ has_kind-none kind

has_kind-paths_of : (kind other : PathKind) → has_kind (paths_of kind) other ≡ true → kind ≡ other
has_kind-paths_of Inductive Inductive h = refl
has_kind-paths_of Unknown Unknown h = refl
has_kind-paths_of Coinductive Coinductive h = refl
has_kind-paths_of ForcedAmbiguity ForcedAmbiguity h = refl
has_kind-paths_of _ _ h = absurd cc

has_own_kind : (kind : PathKind) → has_kind (paths_of kind) kind ≡ true
has_own_kind = each_kind (λ kind. has_kind (paths_of kind) kind ≡ true) refl refl refl refl

-- what a union of sets has, one of them has
pub some_set : (f : PathKind → PathsToNested) (steps : List PathKind) (before : PathsToNested) (kind : PathKind)
    → has_kind (fold union before (map f steps)) kind ≡ true
    → (has_kind before kind ≡ true) ⊎ ((step : PathKind) × Contains steps step × (has_kind (f step) kind ≡ true))
some_set f [] before kind h = inl h
some_set f (first ∷ rest) before kind h =
    elim (some_set f rest (union before (f first)) kind h) [
      | inl joined ↦ elim (or_cases _ _ (sym (has_kind-union before (f first) kind) ∙ joined)) [
        | inl old ↦ inl old
        | inr new ↦ inr (first, (0, omega arith, refl), new)
      ]
      | inr later ↦ inr (later.0, contains_later later.0 first rest later.1, later.2)
    ]

kept : (f : PathKind → PathsToNested) (steps : List PathKind) (before : PathsToNested) (kind : PathKind)
    → has_kind before kind ≡ true → has_kind (fold union before (map f steps)) kind ≡ true
kept f [] before kind h = h
kept f (first ∷ rest) before kind h =
    kept f rest (union before (f first)) kind (has_kind-union before (f first) kind ∙ or_left _ _ h)

pub each_set : (f : PathKind → PathsToNested) (steps : List PathKind) (before : PathsToNested) (kind step : PathKind)
    → Contains steps step → has_kind (f step) kind ≡ true → has_kind (fold union before (map f steps)) kind ≡ true
each_set f [] before kind step (k, l, e) h = absurd (omega arith)
each_set f (first ∷ rest) before kind step there h = elim (first_or_later first step rest there) [
  | inl here ↦
      let own : has_kind (f first) kind ≡ true = subst (λ k. has_kind (f k) kind ≡ true) (sym here) h in
      kept f rest (union before (f first)) kind (has_kind-union before (f first) kind ∙ or_right _ _ own)
  | inr later ↦ each_set f rest (union before (f first)) kind step later h
]

-- the kinds of a set after a step are those of its paths after the step
pub extended-kinds : (paths : PathsToNested) (step kind : PathKind)
    → IsTrue (has_kind (extended paths step) kind) ↔ Contains (kinds_after paths step) kind
unfolding extended
extended-kinds paths step kind =
    let kinds = kinds_after paths step in
    let split = has_kind-union (union_of (map paths_of kinds)) (unnamed_in paths) kind in (
      λ h. elim (or_cases _ _ (sym split ∙ h)) [
        | inl named ↦ elim (some_set paths_of kinds no_paths kind named) [
          | inl none ↦ absurd (false≢true (sym (has_kind-none kind) ∙ none))
          | inr some ↦ subst (Contains kinds) (has_kind-paths_of some.0 kind some.2) some.1
        ]
        | inr unnamed ↦ absurd (false≢true (sym (has_kind-unnamed paths kind) ∙ unnamed))
      ],
      λ there. split ∙ or_left _ _ (each_set paths_of kinds no_paths kind kind there (has_own_kind kind)),
    )
