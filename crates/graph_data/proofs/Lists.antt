-- Lists, item by item.
use Rattle.std.proofs.Common.{◌≡◌, ◌<◌, arith, length, List, [], ◌∷◌, ◌++◌, ap, ◌∙◌, refl, Some, suc, zero, ℕ}
use Rattle.std.specs.Prelude.{slice_get}
use Rattle.std.specs.List.{AllByRecursion, AllZip}

pub AllByRecursion-append : {A : Type 0} (P : A → Type 0) (xs ys : List A) → AllByRecursion P xs
    → AllByRecursion P ys → AllByRecursion P (xs ++ ys)
AllByRecursion-append P [] ys h k = k
AllByRecursion-append P (x ∷ xs) ys h k = (h.0, AllByRecursion-append P xs ys h.1 k)

pub AllZip-append : {A B : Type 0} (R : A → B → Type 0) (xs more : List A) (ys others : List B) → AllZip R xs ys
    → AllZip R more others → AllZip R (xs ++ more) (ys ++ others)
AllZip-append R [] more [] others h k = k
AllZip-append R [] more (y ∷ ys) others h k = absurd h
AllZip-append R (x ∷ xs) more [] others h k = absurd h
AllZip-append R (x ∷ xs) more (y ∷ ys) others h k = (h.0, AllZip-append R xs more ys others h.1 k)

-- where R gives one item, so it does of lists
pub zip_one : {A B : Type 0} (R : A → B → Type 0) → ((x : A) (y z : B) → R x y → R x z → y ≡ z)
    → (xs : List A) (ys zs : List B) → AllZip R xs ys → AllZip R xs zs → ys ≡ zs
zip_one R one [] [] [] p q = refl
zip_one R one [] [] (z ∷ zs) p q = absurd q
zip_one R one [] (y ∷ ys) zs p q = absurd p
zip_one R one (x ∷ xs) [] zs p q = absurd p
zip_one R one (x ∷ xs) (y ∷ ys) [] p q = absurd q
zip_one R one (x ∷ xs) (y ∷ ys) (z ∷ zs) p q =
    ap (λ v. v ∷ ys) (one x y z p.0 q.0) ∙ ap (λ vs. z ∷ vs) (zip_one R one xs ys zs p.1 q.1)

-- what is related to the same items is related
pub zip_over : {A B C : Type 0} (R : A → C → Type 0) (S : B → C → Type 0) (T : A → B → Type 0)
    → ((a : A) (b : B) (c : C) → R a c → S b c → T a b) → (xs : List A) (ys : List B) (zs : List C)
    → AllZip R xs zs → AllZip S ys zs → AllZip T xs ys
zip_over R S T over [] [] zs p q = tt
zip_over R S T over [] (y ∷ ys) [] p q = absurd q
zip_over R S T over [] (y ∷ ys) (z ∷ zs) p q = absurd p
zip_over R S T over (x ∷ xs) ys [] p q = absurd p
zip_over R S T over (x ∷ xs) [] (z ∷ zs) p q = absurd q
zip_over R S T over (x ∷ xs) (y ∷ ys) (z ∷ zs) p q = (over x y z p.0 q.0, zip_over R S T over xs ys zs p.1 q.1)

-- a place of a list has an item
pub item_at : {A : Type 0} (xs : List A) (at : ℕ) → at < length xs → (x : A) × (slice_get xs at ≡ Some x)
item_at [] at l = absurd (omega arith)
item_at (x ∷ xs) zero l = (x, refl)
item_at (x ∷ xs) (suc at) l = item_at xs at (omega arith)
