-- Sets of places, as tests. A family of sets that only grows stays the same at some time, as far as finitely many
-- places go; and each place that is in at last has a time at which it came in.
use Rattle.std.proofs.Common.{◌≡◌, ◌≢◌, ℕ, zero, suc, ◌+◌, ◌<◌, ◌≤◌, Bool, true, false, cond, ◌⊎◌, inl, inr, refl, sym}
use Rattle.std.proofs.Common.{subst, arith}
use Rattle.std.proofs.lemmas.Bool.{cases_Bool, cases_lt}
use Rattle.std.proofs.lemmas.Bool.Decides.{eqb_tells}

-- how many places below a bound are in the set
abbrev size : (ℕ → Bool) → ℕ → ℕ
size p zero = 0
size p (suc n) = cond (p n) 1 0 + size p n

size_within : (p : ℕ → Bool) (n : ℕ) → size p n ≤ n
size_within p zero = omega arith
size_within p (suc n) =
    let h = size_within p n in
    elim (cases_Bool (p n)) [ inl e ↦ rw e (omega arith) | inr e ↦ rw e (omega arith) ]

-- every member of the second set, below a bound, is one of the first
abbrev IsCovered : (ℕ → Bool) → (ℕ → Bool) → ℕ → Type 0
IsCovered p q n = (x : ℕ) → x < n → q x ≡ true → p x ≡ true

module _ (p q : ℕ → Bool) (within : (x : ℕ) → p x ≡ true → q x ≡ true) where
  size_grows : (n : ℕ) → size p n ≤ size q n
  size_grows zero = omega arith
  size_grows (suc n) =
      let h = size_grows n in
      elim (cases_Bool (p n)) [
        | inl e ↦ let f = within n e in rw (e, f) (omega arith)
        | inr e ↦ rw e (omega arith)
      ]

  one_more : (n : ℕ) → IsCovered p q n → (q n ≡ true → p n ≡ true) → IsCovered p q (suc n)
  one_more n below here x l is =
      elim (eqb_tells x n) [
        | inl w ↦ subst (λ y. p y ≡ true) (sym w.1) (here (subst (λ y. q y ≡ true) w.1 is))
        | inr w ↦ let ne : x ≢ n = w.1 in below x (omega arith) is
      ]

  -- the greater set has no more members, or it is larger
  same_or_larger : (n : ℕ) → IsCovered p q n ⊎ (size p n < size q n)
  same_or_larger zero = inl (λ x l is. absurd (omega arith))
  same_or_larger (suc n) =
      let grows = size_grows n in
      elim (cases_Bool (p n)) [
        | inl e ↦ let f = within n e in elim (same_or_larger n) [
          | inl same ↦ inl (one_more n same (λ is. e))
          | inr less ↦ inr (rw (e, f) (omega arith))
        ]
        | inr e ↦ elim (cases_Bool (q n)) [
          | inl f ↦ inr (rw (e, f) (omega arith))
          | inr f ↦ elim (same_or_larger n) [
            | inl same ↦ inl (one_more n same (λ is. cc))
            | inr less ↦ inr (rw (e, f) (omega arith))
          ]
        ]
      ]

module _ (family : ℕ → ℕ → Bool) (grows : (k x : ℕ) → family k x ≡ true → family (suc k) x ≡ true) where
  -- what is in stays in
  pub later : (x j k : ℕ) → j ≤ k → family j x ≡ true → family k x ≡ true
  later x j zero l is = let e : j ≡ 0 = omega arith in subst (λ i. family i x ≡ true) e is
  later x j (suc k) l is =
      elim (eqb_tells j (suc k)) [
        | inl w ↦ subst (λ i. family i x ≡ true) w.1 is
        | inr w ↦ let ne : j ≢ suc k = w.1 in grows k x (later x j k (omega arith) is)
      ]

  module _ (n : ℕ) where
    stops_within : (fuel k : ℕ) → n < size (family k) n + fuel → (at : ℕ) × IsCovered (family at) (family (suc at)) n
    stops_within zero k l = let h = size_within (family k) n in absurd (omega arith)
    stops_within (suc fuel) k l =
        elim (same_or_larger (family k) (family (suc k)) (grows k) n) [
          | inl same ↦ (k, same)
          | inr less ↦ stops_within fuel (suc k) (omega arith)
        ]

    -- at some time no place below the bound comes in any more
    pub stops : (at : ℕ) × IsCovered (family at) (family (suc at)) n
    stops = stops_within (suc n) 0 (omega arith)

  -- the time since which the place is in, as far as it was seen
  abbrev pub came : ℕ → ℕ → ℕ
  came x zero = 0
  came x (suc k) = cond (family k x) (came x k) (suc k)

  -- a place came in no later than where it is in,
  pub came_by : (x j k : ℕ) → family j x ≡ true → came x k ≤ j
  came_by x j zero is = omega arith
  came_by x j (suc k) is =
      let before = came_by x j k is in
      elim (cases_Bool (family k x)) [
        | inl e ↦ rw e before
        | inr e ↦ rw e (elim (cases_lt k j) [ inl l ↦ omega arith | inr l ↦ let f = later x j k l is in absurd cc ])
      ]

  -- and it was not in just before
  pub came_at : (x k : ℕ) → family 0 x ≡ false → family k x ≡ true
      → (j : ℕ) × (came x k ≡ suc j) × (family j x ≡ false) × (family (suc j) x ≡ true) × (j < k)
  came_at x zero none is = absurd cc
  came_at x (suc k) none is =
      elim (cases_Bool (family k x)) [
        | inl e ↦ let w = came_at x k none e in (w.0, rw e w.1, w.2, w.3, omega (arith, w.4))
        | inr e ↦ (k, rw e refl, e, is, omega arith)
      ]
