-- Lists that grow at their ends.
use Rattle.std.proofs.Common.{◌≡◌, ℕ, zero, suc, ◌+◌, ◌<◌, inl, inr, true, false, ◌||◌, List, [], ◌∷◌, ◌++◌, length}
use Rattle.std.proofs.Common.{map, take, get_or, refl, ap, sym, ◌∙◌, subst, arith}
use Rattle.std.specs.Prelude.{◌==◌, Contains}
use Rattle.std.specs.List.{AllZip, list_any}
use Rattle.std.proofs.lemmas.Bool.Decides.{eqb_tells}
use Rattle.std.proofs.lemmas.List.{map-append, take_more}

pub contains_later : {A : Type 0} (y x : A) (xs : List A) → Contains xs y → Contains (x ∷ xs) y
contains_later y x xs h = let l = h.1 in (suc h.0, omega arith, h.2)

module _ (f : ℕ → ℕ) (n : ℕ) where
  -- some item has the number
  pub any_found : (xs : List ℕ) → list_any (λ x. f x == n) xs ≡ true → (x : ℕ) × Contains xs x × (f x ≡ n)
  any_found [] e = absurd cc
  any_found (x ∷ xs) e = elim (eqb_tells (f x) n) [
    | inl w ↦ (x, (0, omega arith, refl), w.1)
    | inr w ↦ let r = any_found xs (subst (λ b. (b || list_any (λ y. f y == n) xs) ≡ true) w.0 e) in
        (r.0, contains_later r.0 x xs r.1, r.2)
  ]

  -- no item has it
  pub any_none : (xs : List ℕ) → list_any (λ x. f x == n) xs ≡ false → (x : ℕ) → Contains xs x → f x ≡ n → ⊥
  any_none [] e x h same = let l = h.1 in omega arith
  any_none (y ∷ xs) e x (zero, l, here) same = elim (eqb_tells (f y) n) [
    | inl w ↦ let g : (true || list_any (λ z. f z == n) xs) ≡ false =
        subst (λ b. (b || list_any (λ z. f z == n) xs) ≡ false) w.0 e in absurd cc
    | inr w ↦ w.1 (ap f here ∙ same)
  ]
  any_none (y ∷ xs) e x (suc k, l, later) same = elim (eqb_tells (f y) n) [
    | inl w ↦ let g : (true || list_any (λ z. f z == n) xs) ≡ false =
        subst (λ b. (b || list_any (λ z. f z == n) xs) ≡ false) w.0 e in absurd cc
    | inr w ↦ any_none xs (subst (λ b. (b || list_any (λ z. f z == n) xs) ≡ false) w.0 e) x (k, omega arith, later) same
  ]

-- what holds of each place holds by something weaker, too
pub AllZip-weaker : {A B : Type 0} (R S : A → B → Type 0) → ((x : A) (y : B) → R x y → S x y)
    → (xs : List A) (ys : List B) → AllZip R xs ys → AllZip S xs ys
AllZip-weaker R S f [] [] h = tt
AllZip-weaker R S f [] (y ∷ ys) h = absurd h
AllZip-weaker R S f (x ∷ xs) [] h = absurd h
AllZip-weaker R S f (x ∷ xs) (y ∷ ys) h = (f x y h.0, AllZip-weaker R S f xs ys h.1)

-- a map of a beginning with one more item
pub map_take_more : {A B : Type 0} (f : A → B) (xs : List A) (i : ℕ) (x : A) → i < length xs → x ≡ get_or xs i x
    → map f (take (i + 1) xs) ≡ map f (take i xs) ++ f x ∷ []
map_take_more f xs i x l e =
    ap (map f) (take_more xs i x l ∙ ap (λ y. take i xs ++ y ∷ []) (sym e)) ∙ map-append f (take i xs) (x ∷ [])

-- the same, where the item is read with some default
pub map_take_next : {A B : Type 0} (f : A → B) (xs : List A) (i : ℕ) (d : A) → i < length xs
    → map f (take (i + 1) xs) ≡ map f (take i xs) ++ f (get_or xs i d) ∷ []
map_take_next f xs i d l = ap (map f) (take_more xs i d l) ∙ map-append f (take i xs) (get_or xs i d ∷ [])

pub AllZip-append : {A B : Type 0} (R : A → B → Type 0) (xs : List A) (ys : List B) (xs' : List A) (ys' : List B)
    → AllZip R xs ys → AllZip R xs' ys' → AllZip R (xs ++ xs') (ys ++ ys')
AllZip-append R [] [] xs' ys' h g = g
AllZip-append R [] (y ∷ ys) xs' ys' h g = absurd h
AllZip-append R (x ∷ xs) [] xs' ys' h g = absurd h
AllZip-append R (x ∷ xs) (y ∷ ys) xs' ys' h g = (h.0, AllZip-append R xs ys xs' ys' h.1 g)

pub map_take : {A B : Type 0} (f : A → B) (n : ℕ) (xs : List A) → map f (take n xs) ≡ take n (map f xs)
map_take f zero xs = refl
map_take f (suc n) [] = refl
map_take f (suc n) (x ∷ xs) = ap (λ ys. f x ∷ ys) (map_take f n xs)
