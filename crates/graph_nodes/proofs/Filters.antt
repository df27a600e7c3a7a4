-- What a test leaves of a list.
use Rattle.std.proofs.Common.{◌≡◌, ℕ, zero, suc, Bool, true, false, ◌&&◌, cond, List, [], ◌∷◌, Some, slice_get}
use Rattle.std.proofs.Common.{slice_set, length, arith, refl, ◌∙◌, ap, ap₂}
use Rattle.std.specs.List.{filter}

module _ {A : Type 0} where
  pub none_long : (xs : List A) → length xs ≡ 0 → xs ≡ []
  none_long [] is = refl
  none_long (x ∷ xs) is = absurd (omega arith)

  -- a test that all pass leaves all
  pub filter_all : (p : A → Bool) (xs : List A) → ((i : ℕ) (x : A) → slice_get xs i ≡ Some x → p x ≡ true)
      → filter p xs ≡ xs
  filter_all p [] passes = refl
  filter_all p (x ∷ xs) passes =
      ap₂ (λ b l. cond b (x ∷ l) l) (passes zero x refl) (filter_all p xs (λ i y is. passes (suc i) y is))

  -- tests that say the same of each element leave the same
  pub filter_alike : (p q : A → Bool) (xs : List A) → ((i : ℕ) (x : A) → slice_get xs i ≡ Some x → p x ≡ q x)
      → filter p xs ≡ filter q xs
  filter_alike p q [] alike = refl
  filter_alike p q (x ∷ xs) alike =
      ap₂ (λ b l. cond b (x ∷ l) l) (alike zero x refl) (filter_alike p q xs (λ i y is. alike (suc i) y is))

  -- two tests leave what passes both
  pub filter_both : (p q : A → Bool) (xs : List A) → filter q (filter p xs) ≡ filter (λ x. q x && p x) xs
  filter_both p q [] = refl
  filter_both p q (x ∷ xs) = first (filter_both p q xs) (p x) (q x) refl
    where
      first : filter q (filter p xs) ≡ filter (λ y. q y && p y) xs → (b c : Bool) → q x ≡ c
          → filter q (cond b (x ∷ filter p xs) (filter p xs))
          ≡ cond (c && b) (x ∷ filter (λ y. q y && p y) xs) (filter (λ y. q y && p y) xs)
      first rest false false e = rest
      first rest false true e = rest
      first rest true false e = ap (λ d. cond d (x ∷ filter q (filter p xs)) (filter q (filter p xs))) e ∙ rest
      first rest true true e =
          ap (λ d. cond d (x ∷ filter q (filter p xs)) (filter q (filter p xs))) e ∙ ap (λ l. x ∷ l) rest

  -- where an element that passes is replaced by another one that does, so it is in what is left
  pub filter_set : (p : A → Bool) (xs : List A) (i : ℕ) (x y : A) → slice_get xs i ≡ Some x → p x ≡ true → p y ≡ true
      → (j : ℕ) × (slice_get (filter p xs) j ≡ Some x) × (filter p (slice_set xs i y) ≡ slice_set (filter p xs) j y)
  filter_set p [] i x y is px py = absurd cc
  filter_set p (z ∷ xs) zero x y is px py =
      let same : z ≡ x = cc in here (p z) (p y) (ap p same ∙ px) py same
    where
      here : (b c : Bool) → b ≡ true → c ≡ true → z ≡ x
          → (j : ℕ) × (slice_get (cond b (z ∷ filter p xs) (filter p xs)) j ≡ Some x)
          × (cond c (y ∷ filter p xs) (filter p xs) ≡ slice_set (cond b (z ∷ filter p xs) (filter p xs)) j y)
      here true true pz py' same = (zero, ap Some same, refl)
      here false c pz py' same = absurd cc
      here true false pz py' same = absurd cc
  filter_set p (z ∷ xs) (suc i) x y is px py = behind (filter_set p xs i x y is px py) (p z)
    where
      behind : (j : ℕ) × (slice_get (filter p xs) j ≡ Some x)
          × (filter p (slice_set xs i y) ≡ slice_set (filter p xs) j y)
          → (b : Bool) → (j : ℕ) × (slice_get (cond b (z ∷ filter p xs) (filter p xs)) j ≡ Some x)
          × (cond b (z ∷ filter p (slice_set xs i y)) (filter p (slice_set xs i y))
          ≡ slice_set (cond b (z ∷ filter p xs) (filter p xs)) j y)
      behind later true = (suc later.0, later.1, ap (λ l. z ∷ l) later.2)
      behind later false = later

  -- what is left was there
  pub filter_from : (p : A → Bool) (xs : List A) (i : ℕ) (x : A) → slice_get (filter p xs) i ≡ Some x
      → (j : ℕ) × (slice_get xs j ≡ Some x)
  filter_from p [] i x is = absurd cc
  filter_from p (z ∷ xs) i x is = from (λ j there. filter_from p xs j x there) (p z) i is
    where
      from : ((j : ℕ) → slice_get (filter p xs) j ≡ Some x → (k : ℕ) × (slice_get xs k ≡ Some x))
          → (b : Bool) (j : ℕ) → slice_get (cond b (z ∷ filter p xs) (filter p xs)) j ≡ Some x
          → (k : ℕ) × (slice_get (z ∷ xs) k ≡ Some x)
      from later false j there = let w = later j there in (suc w.0, w.1)
      from later true zero there = (zero, there)
      from later true (suc j) there = let w = later j there in (suc w.0, w.1)
