-- Sets of paths are bytes, so what holds of each of them is found by trying them all.
use Rattle.std.proofs.Common.{◌≡◌, ℕ, zero, suc, ◌+◌, ◌-◌, ◌<◌, Bool, true, false, ◌&&◌, not, ◌==◌, refl, subst, inl}
use Rattle.std.proofs.Common.{inr, arith, if◌then◌else◌}
use Rattle.std.proofs.lemmas.Bool.{and_parts, cases_lt}
use borrow.Author.Tests.{eqb-true}
use Rattle.std.specs.Int.RustNames.{bit_and, bit_or}
use Rattle.bitflags.specs.Sets.{without}
use Rattle.path_kinds.specs.Words.{PathKind, Inductive, Unknown, Coinductive, ForcedAmbiguity, PathsToNested}
use Rattle.path_kinds.specs.Words.{extended, paths_of}
use Rattle.path_kinds.proofs.PathRanks.{each_kind}

-- whether each number below a bound passes
abbrev pub all_below : (ℕ → Bool) → ℕ → Bool
all_below p zero = true
all_below p (suc n) = p n && all_below p n

pub passes : (p : ℕ → Bool) (n : ℕ) → all_below p n ≡ true → (k : ℕ) → k < n → p k ≡ true
passes p zero all k lt = absurd (omega arith)
passes p (suc n) all k lt =
    elim (cases_lt k n) [
      | inl below ↦ passes p n (and_parts (p n) (all_below p n) all).1 k below
      | inr at_least ↦
          let same : n ≡ k = omega arith in subst (λ m. p m ≡ true) same (and_parts (p n) (all_below p n) all).0
    ]

-- the same of a test for each kind
pub passes_each : (p : PathKind → ℕ → Bool) (n : ℕ)
    → all_below (p Inductive) n ≡ true → all_below (p Unknown) n ≡ true → all_below (p Coinductive) n ≡ true
    → all_below (p ForcedAmbiguity) n ≡ true
    → (kind : PathKind) (k : ℕ) → k < n → p kind k ≡ true
passes_each p n i u c f kind = passes (p kind) n (each_kind (λ kind. all_below (p kind) n ≡ true) i u c f kind)

-- what the code makes of a byte, where `weaker` has the flags below that of the step
abbrev raised : ℕ → PathKind → ℕ → ℕ
raised n step weaker = if not (bit_and n weaker == 0) then bit_or (without 8 n weaker) (paths_of step).0 else n

abbrev is_raised : PathKind → ℕ → Bool
is_raised step n = (extended (record { 0 = n }) step).0 == raised n step ((paths_of step).0 - 1)

each_is_raised : (step : PathKind) (n : ℕ) → n < 256 → is_raised step n ≡ true
unfolding extended
each_is_raised step = passes_each is_raised 256 refl refl refl refl step

pub same_bits : (a b : PathsToNested) → a.0 ≡ b.0 → a ≡ b
same_bits a b e = λ i. record { 0 = e i }

extended-raised : (paths : PathsToNested) (step : PathKind) (weaker : ℕ) → paths.0 < 256
    → weaker + 1 ≡ (paths_of step).0 → (extended paths step).0 ≡ raised paths.0 step weaker
extended-raised paths step weaker lt e =
    let same : (paths_of step).0 - 1 ≡ weaker = omega arith in
    subst (λ w. (extended paths step).0 ≡ raised paths.0 step w) same (eqb-true _ _ (each_is_raised step paths.0 lt))

-- where a set has flags below that of the step, they give way to it
pub extended-weaker : (paths : PathsToNested) (step : PathKind) (weaker : ℕ)
    → paths.0 < 256 → weaker + 1 ≡ (paths_of step).0
    → not (bit_and paths.0 weaker == 0) ≡ true
    → (extended paths step).0 ≡ bit_or (without 8 paths.0 weaker) (paths_of step).0
extended-weaker paths step weaker lt e some = rw some at (extended-raised paths step weaker lt e)

-- where it has none, the step changes nothing
pub extended-same : (paths : PathsToNested) (step : PathKind) (weaker : ℕ)
    → paths.0 < 256 → weaker + 1 ≡ (paths_of step).0
    → not (bit_and paths.0 weaker == 0) ≡ false → extended paths step ≡ paths
extended-same paths step weaker lt e none = same_bits _ _ (rw none at (extended-raised paths step weaker lt e))
