-- Lists that are filtered, and flags by number, with one more element or one element changed.
use Rattle.std.proofs.Common.{◌≡◌, ℕ, zero, suc, ◌<◌, ◌==◌, Bool, true, false, ◌&&◌, ◌||◌, cond, List, [], ◌∷◌, ◌++◌}
use Rattle.std.proofs.Common.{map, length, get_or, slice_set, inl, inr, refl, sym, ap, ◌∙◌}
use Rattle.std.specs.List.{filter}
use Rattle.std.proofs.lemmas.List.{map-append, get_or-set_same, get_or-set_other}
use Rattle.std.proofs.lemmas.List.Elements.{filter-append}
use Rattle.std.proofs.lemmas.Bool.Decides.{eqb_tells}

filtered_one : {A B : Type 0} (f : A → B) (x : A) (b : Bool) → map f (cond b (x ∷ []) []) ≡ cond b (f x ∷ []) []
filtered_one f x true = refl
filtered_one f x false = refl

-- one more element at the end stays if it passes the test
pub filtered_more : {A B : Type 0} (f : A → B) (test : A → Bool) (xs : List A) (x : A) (b : Bool) → test x ≡ b
    → map f (filter test (xs ++ x ∷ [])) ≡ map f (filter test xs) ++ cond b (f x ∷ []) []
filtered_more f test xs x b is =
    ap (map f) (filter-append test xs (x ∷ []))
    ∙ map-append f (filter test xs) (filter test (x ∷ []))
    ∙ ap (λ c. map f (filter test xs) ++ map f (cond c (x ∷ []) [])) is
    ∙ ap (λ ys. map f (filter test xs) ++ ys) (filtered_one f x b)

filter_all : {A : Type 0} (xs : List A) → filter (λ _. true) xs ≡ xs
filter_all [] = refl
filter_all (x ∷ xs) = ap (λ l. x ∷ l) (filter_all xs)

module _ {A B C : Type 0} (f : A → B × C) (test : A → Bool) (count : C → Bool) where
  filtered_step : (x : A) (tested counted : Bool) → count (f x).1 ≡ counted → (both some : List A)
      → map (λ a. (f a).0) both ≡ map (λ q. q.0) (filter (λ q. count q.1) (map f some))
      → map (λ a. (f a).0) (cond (tested && counted) (x ∷ both) both)
      ≡ map (λ q. q.0) (filter (λ q. count q.1) (map f (cond tested (x ∷ some) some)))
  filtered_step x false counted is both some same = same
  filtered_step x true true is both some same = rw is (ap (λ l. (f x).0 ∷ l) same)
  filtered_step x true false is both some same = rw is same

  -- of two tests, that of the second half may come last
  pub filtered_twice : (xs : List A) → map (λ a. (f a).0) (filter (λ a. test a && count (f a).1) xs)
      ≡ map (λ q. q.0) (filter (λ q. count q.1) (map f (filter test xs)))
  filtered_twice [] = refl
  filtered_twice (x ∷ xs) = filtered_step x (test x) (count (f x).1) refl (filter (λ a. test a && count (f a).1) xs)
      (filter test xs) (filtered_twice xs)

-- a test of the second half may come last
pub filtered_halves : {A B C : Type 0} (f : A → B × C) (count : C → Bool) (xs : List A)
    → map (λ a. (f a).0) (filter (λ a. count (f a).1) xs) ≡ map (λ q. q.0) (filter (λ q. count q.1) (map f xs))
filtered_halves f count xs =
    filtered_twice f (λ _. true) count xs ∙ ap (λ l. map (λ q. q.0) (filter (λ q. count q.1) (map f l))) (filter_all xs)

-- a candidate isn't ignored as it is finished,
pub ignored_after_finish : (ignored_flags : List Bool) (n : ℕ)
    → get_or (ignored_flags ++ false ∷ []) n false ≡ get_or ignored_flags n false
ignored_after_finish [] zero = refl
ignored_after_finish [] (suc n) = refl
ignored_after_finish (b ∷ ignored_flags) zero = refl
ignored_after_finish (b ∷ ignored_flags) (suc n) = ignored_after_finish ignored_flags n

-- and one that is to be ignored is from then on, and no other changes
pub ignored_after_ignore : (ignored_flags : List Bool) (m n : ℕ) → m < length ignored_flags
    → get_or (slice_set ignored_flags m true) n false ≡ (m == n || get_or ignored_flags n false)
ignored_after_ignore ignored_flags m n within =
    elim (eqb_tells m n) [
      | inl (same, e) ↦ rw same (rw (sym e) (get_or-set_same ignored_flags m true false within))
      | inr (other, differ) ↦ rw other (get_or-set_other ignored_flags m n true false (λ e. differ (sym e)))
    ]
