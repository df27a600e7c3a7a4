-- Members of lists that are mapped and filtered.
use Rattle.std.specs.Prelude.{◌≡◌, ℕ, zero, suc, ◌<◌, ◌≤◌, Bool, true, false, cond, List, [], ◌∷◌, length, map, filter}
use Rattle.std.specs.Prelude.{slice_get, Contains, Some, None}
use Rattle.std.proofs.Common.{sym, ap, ◌∙◌, subst, arith}
use Rattle.std.proofs.lemmas.Option.{slice_get_within, get_or_from_slice_get, slice_get-get_or}

pub Contains-from_slice_get : {A : Type 0} (xs : List A) (i : ℕ) (x : A) → slice_get xs i ≡ Some x → Contains xs x
Contains-from_slice_get xs i x e = (i, slice_get_within xs i x e, get_or_from_slice_get xs i x x e)

pub slice_get-from_Contains : {A : Type 0} (xs : List A) (x : A) (w : Contains xs x) → slice_get xs w.0 ≡ Some x
slice_get-from_Contains xs x w = slice_get-get_or xs w.0 x w.1 ∙ ap Some w.2

Contains-next : {A : Type 0} (y : A) (xs : List A) (x : A) → Contains xs x → Contains (y ∷ xs) x
Contains-next y xs x w = (suc w.0, omega (arith, w.1), w.2)

pub Contains-mapped : {A B : Type 0} (f : A → B) (xs : List A) (x : A) → Contains xs x → Contains (map f xs) (f x)
Contains-mapped f [] x w = absurd (omega (arith, w.1))
Contains-mapped f (y ∷ xs) x (zero, l, e) = (0, omega arith, ap f e)
Contains-mapped f (y ∷ xs) x (suc k, l, e) =
    Contains-next (f y) (map f xs) (f x) (Contains-mapped f xs x (k, omega arith, e))

Contains-cond : {A : Type 0} (b : Bool) (y : A) (xs : List A) (x : A) → Contains xs x → Contains (cond b (y ∷ xs) xs) x
Contains-cond true y xs x w = Contains-next y xs x w
Contains-cond false y xs x w = w

pub Contains-filtered : {A : Type 0} (p : A → Bool) (xs : List A) (x : A) → Contains xs x
    → p x ≡ true → Contains (filter p xs) x
Contains-filtered p [] x w h = absurd (omega (arith, w.1))
Contains-filtered p (y ∷ xs) x (zero, l, e) h =
    subst (λ b. Contains (cond b (y ∷ filter p xs) (filter p xs)) x) (sym h ∙ sym (ap p e)) (0, omega arith, e)
Contains-filtered p (y ∷ xs) x (suc k, l, e) h =
    Contains-cond (p y) y (filter p xs) x (Contains-filtered p xs x (k, omega arith, e) h)

none_past : {A : Type 0} (xs : List A) (i : ℕ) → slice_get xs i ≡ None → length xs ≤ i
none_past [] i e = omega arith
none_past (x ∷ xs) zero e = absurd cc
none_past (x ∷ xs) (suc i) e = let h = none_past xs i e in omega arith

-- a place is before one where nothing stands
pub before_end : {A : Type 0} (xs : List A) (k n : ℕ) → slice_get xs n ≡ None → k < length xs → k < n
before_end xs k n e l = let h = none_past xs n e in omega arith
