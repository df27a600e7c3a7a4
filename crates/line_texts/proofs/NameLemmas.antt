-- Names and their numbers.
use Rattle.std.proofs.Common.{◌≡◌, ℕ, zero, suc, ◌+◌, ◌<◌, Bool, true, false, not, cond, ◌||◌, List, [], ◌∷◌, ◌++◌}
use Rattle.std.proofs.Common.{length, map, Some, None, refl, ap, sym, ◌∙◌, subst, arith, inl, inr, ◌⊎◌}
use Rattle.std.specs.Prelude.{min, slice_get, nat_lt, ◌↔◌}
use Rattle.std.specs.List.{AllByRecursion, IsDistinct, list_any, position, position_or_len}
use Rattle.std.specs.Str.{bytes_eq}
use Rattle.std.proofs.lemmas.Bool.{cases_Bool}
use Rattle.std.proofs.lemmas.Bool.Decides.{nat_tests}
use Rattle.std.proofs.lemmas.List.{length-map, length-take, map-append}
use Rattle.std.proofs.lemmas.Option.{slice_get_within}
use Rattle.std.proofs.lemmas.Map.Keys.{IsDistinct-head, IsDistinct-tail}
use Rattle.std.proofs.lemmas.Slice.Eq.{bytes_eq-Decides}
use Rattle.line_texts.specs.Names.{same_name, text_of, with_name}
use Rattle.line_texts.specs.declared.names.name.Name.{Name}

own_name : (name : List ℕ) → bytes_eq name name ≡ true
own_name name = (bytes_eq-Decides name name).1 refl

pub some_same : {A : Type 0} (x y : A) → Some x ≡ Some y → x ≡ y
some_same x y e = cc

or_second : (a b : Bool) → b ≡ true → (a || b) ≡ true
or_second true b e = refl
or_second false b e = e

or_first : (a b : Bool) → a ≡ true → (a || b) ≡ true
or_first true b e = refl
or_first false b e = absurd cc

-- a name that has a place is among the names
pub is_among : (names : List (List ℕ)) (name : List ℕ) (n : ℕ) → slice_get names n ≡ Some name
    → list_any (bytes_eq name) names ≡ true
is_among [] name n e = absurd cc
is_among (x ∷ names) name zero e = or_first (bytes_eq name x) (list_any (bytes_eq name) names)
    (ap (bytes_eq name) (some_same x name e) ∙ own_name name)
is_among (x ∷ names) name (suc n) e =
    or_second (bytes_eq name x) (list_any (bytes_eq name) names) (is_among names name n e)

-- a name among the names has a place
place_first : (names : List (List ℕ)) (x name : List ℕ) (b : Bool) → bytes_eq name x ≡ b →
    (list_any (bytes_eq name) names ≡ true → (n : ℕ) × (slice_get names n ≡ Some name)) →
    (b || list_any (bytes_eq name) names) ≡ true → (n : ℕ) × (slice_get (x ∷ names) n ≡ Some name)
place_first names x name true e rest h = (0, ap Some (sym ((bytes_eq-Decides name x).0 e)))
place_first names x name false e rest h = let w = rest h in (suc w.0, w.1)

pub has_place : (names : List (List ℕ)) (name : List ℕ) → list_any (bytes_eq name) names ≡ true
    → (n : ℕ) × (slice_get names n ≡ Some name)
has_place [] name h = absurd cc
has_place (x ∷ names) name h = place_first names x name (bytes_eq name x) refl (has_place names name) h

pub at_end : {A : Type 0} (xs : List A) (x : A) (n : ℕ) → n ≡ length xs → slice_get (xs ++ x ∷ []) n ≡ Some x
at_end [] x n e = rw e refl
at_end (y ∷ xs) x zero e = absurd (omega arith)
at_end (y ∷ xs) x (suc n) e = at_end xs x n (omega arith)

pub slice_get-append_left : {A : Type 0} (xs ys : List A) (n : ℕ) (x : A)
    → slice_get xs n ≡ Some x → slice_get (xs ++ ys) n ≡ Some x
slice_get-append_left [] ys n x e = absurd cc
slice_get-append_left (y ∷ xs) ys zero x e = e
slice_get-append_left (y ∷ xs) ys (suc n) x e = slice_get-append_left xs ys n x e

-- what has a place in a longer list: it had it before, or it is the new one
pub place_in_longer : {A : Type 0} (xs : List A) (y : A) (n : ℕ) (x : A) → slice_get (xs ++ y ∷ []) n ≡ Some x
    → (slice_get xs n ≡ Some x) ⊎ ((n ≡ length xs) × (x ≡ y))
place_in_longer [] y zero x e = inr (omega arith, sym (some_same y x e))
place_in_longer [] y (suc n) x e = absurd cc
place_in_longer (z ∷ xs) y zero x e = inl e
place_in_longer (z ∷ xs) y (suc n) x e =
    elim (place_in_longer xs y n x e) [ inl w ↦ inl w | inr w ↦ inr (omega (arith, w.0), w.1) ]

-- interning a name that is there adds nothing
pub with_known : (names : List (List ℕ)) (name : List ℕ) (n : ℕ)
    → slice_get names n ≡ Some name → names ≡ with_name names name
with_known names name n e = sym (rw (is_among names name n e) refl)

-- interning another one adds it
with_new : (names : List (List ℕ)) (name : List ℕ) → ((n : ℕ) → slice_get names n ≡ Some name → ⊥)
    → names ++ name ∷ [] ≡ with_name names name
with_new names name none = elim (cases_Bool (list_any (bytes_eq name) names)) [
  | inl w ↦ absurd (let p = has_place names name w in none p.0 p.1)
  | inr w ↦ sym (rw w refl)
]

-- ---- names that are numbered

-- the test that finds a name
abbrev is_named : List ℕ → Name → Bool
is_named name key = bytes_eq name (text_of key)

pub differs : (a b : List ℕ) → bytes_eq a b ≡ false → bytes_eq b a ≡ false
differs a b other = elim (cases_Bool (bytes_eq b a)) [
  | inl same ↦ let e : bytes_eq a b ≡ true = (bytes_eq-Decides a b).1 (sym ((bytes_eq-Decides b a).0 same)) in absurd cc
  | inr w ↦ w
]

-- a name that has a place behind another one is not that
other_behind : (key : Name) (keys : List Name) (name : List ℕ) (n : ℕ)
    → AllByRecursion (λ other. same_name key other ≡ false) keys
    → slice_get (map text_of keys) n ≡ Some name → is_named name key ≡ false
other_behind key [] name n apart e = absurd cc
other_behind key (x ∷ keys) name zero apart e = differs (text_of key) name
    (subst (λ text. bytes_eq (text_of key) text ≡ false) (some_same (text_of x) name e) apart.0)
other_behind key (x ∷ keys) name (suc n) apart e = other_behind key keys name n apart.1 e

-- where no two names are the same, the first place of a name is the only one
pub first_place : (keys : List Name) (name : List ℕ) (n : ℕ) → IsDistinct same_name keys
    → slice_get (map text_of keys) n ≡ Some name → position_or_len (is_named name) keys ≡ n
first_place [] name n apart e = absurd cc
first_place (x ∷ keys) name zero apart e =
    rw ((bytes_eq-Decides name (text_of x)).1 (sym (some_same (text_of x) name e))) refl
first_place (x ∷ keys) name (suc n) apart e =
    let behind = first_place keys name n (IsDistinct-tail same_name x keys apart) e in
    rw (other_behind x keys name n (IsDistinct-head same_name x keys apart) e) (omega (arith, behind))

-- what is found has the name
found : (keys : List Name) (name : List ℕ) (n : ℕ) → position_or_len (is_named name) keys ≡ n → n < length keys
    → slice_get (map text_of keys) n ≡ Some name
found [] name n is within = absurd (omega (arith, within))
found (x ∷ keys) name n is within = by (found keys name) (is_named name x) refl n is within
  where
    by : ((m : ℕ) → position_or_len (is_named name) keys ≡ m → m < length keys
        → slice_get (map text_of keys) m ≡ Some name)
        → (passes : Bool) → is_named name x ≡ passes → (n : ℕ) → position_or_len (is_named name) (x ∷ keys) ≡ n
        → n < length (x ∷ keys) → slice_get (map text_of (x ∷ keys)) n ≡ Some name
    by rest true same zero is within = ap Some (sym ((bytes_eq-Decides name (text_of x)).0 same))
    by rest true same (suc n) is within =
        let none : 0 ≡ suc n = subst (λ b. cond (not b) (1 + position_or_len (is_named name) keys) 0 ≡ suc n) same is in
        absurd cc
    by rest false other zero is within = let some : 1 + position_or_len (is_named name) keys ≡ 0 =
        subst (λ b. cond (not b) (1 + position_or_len (is_named name) keys) 0 ≡ 0) other is in
        absurd (omega (arith, some))
    by rest false other (suc n) is within =
        let behind : 1 + position_or_len (is_named name) keys ≡ suc n =
        subst (λ b. cond (not b) (1 + position_or_len (is_named name) keys) 0 ≡ suc n) other is in
        rest n (omega (arith, behind)) (omega (arith, within))

-- a name is found at its place, and at no other
pub number_is : (keys : List Name) (name : List ℕ) → IsDistinct same_name keys → (n : ℕ)
    → (position (is_named name) keys ≡ Some n) ↔ (slice_get (map text_of keys) n ≡ Some name)
number_is keys name apart n =
    (λ is. there (nat_lt (position_or_len (is_named name) keys) (length keys)) refl is, λ at. here at)
  where
    there : (within : Bool) → nat_lt (position_or_len (is_named name) keys) (length keys) ≡ within
        → cond within (Some (position_or_len (is_named name) keys)) None ≡ Some n
        → slice_get (map text_of keys) n ≡ Some name
    there true within is =
        let same : position_or_len (is_named name) keys ≡ n = cc in found keys name n same (grind (arith, nat_tests))
    there false within is = absurd cc

    here : slice_get (map text_of keys) n ≡ Some name → position (is_named name) keys ≡ Some n
    here at =
        let first = first_place keys name n apart at in
        let within : n < length keys =
        subst (λ m. n < m) (length-map keys text_of) (slice_get_within (map text_of keys) n name at) in
        let test : nat_lt (position_or_len (is_named name) keys) (length keys) ≡ true = grind (arith, nat_tests) in
        rw test (ap Some first)

-- no name is longer than a name may be
pub none_is_longer : (keys : List Name) (name : List ℕ) (n : ℕ) → 16 < length name
    → slice_get (map text_of keys) n ≡ Some name → ⊥
none_is_longer [] name n long at = absurd cc
none_is_longer (x ∷ keys) name zero long at =
    let text : text_of x ≡ name = some_same (text_of x) name at in
    let most = length-take x.length x.bytes in
    omega (arith, subst (λ (t : List ℕ). length t ≡ min x.length (length x.bytes)) text most, x.is_short, long)
none_is_longer (x ∷ keys) name (suc n) long at = none_is_longer keys name n long at

-- a name without a place is not among the names
pub not_among : (keys : List Name) (key : Name) → ((n : ℕ) → slice_get (map text_of keys) n ≡ Some (text_of key) → ⊥)
    → list_any (same_name key) keys ≡ false
not_among [] key none = refl
not_among (x ∷ keys) key none = elim (cases_Bool (same_name key x)) [
  | inl same ↦ absurd (none 0 (ap Some (sym ((bytes_eq-Decides (text_of key) (text_of x)).0 same))))
  | inr other ↦ rw other (not_among keys key (λ n. none (suc n)))
]

-- the texts of the names with one more
pub texts_grown : (keys all : List Name) (key : Name) (name : List ℕ) → text_of key ≡ name → all ≡ keys ++ key ∷ []
    → ((n : ℕ) → slice_get (map text_of keys) n ≡ Some name → ⊥) → map text_of all ≡ with_name (map text_of keys) name
texts_grown keys all key name text is none = ap (map text_of) is ∙ (map-append text_of keys (key ∷ [])
    ∙ (ap (λ t. map text_of keys ++ t ∷ []) text ∙ with_new (map text_of keys) name none))
