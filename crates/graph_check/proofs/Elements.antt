-- Elements of lists by their place, and lists around it.
use Rattle.std.proofs.Common.{◌≡◌, ℕ, Result, Ok, Err, IfOk, ◌+◌, ◌<◌, List, ◌∷◌, [], ◌++◌, length, reverse, take, drop}
use Rattle.std.proofs.Common.{get_or, sym, ap, ◌∙◌, add-one, take-append-drop}
use Rattle.std.proofs.Math.Seq.{take-suc}
use Rattle.std.proofs.lemmas.List.{reverse-append}
use Rattle.std.specs.Result.{IsErr}

-- the element at a place of the list
pub record IsAt {A : Type 0} (xs : List A) (i : ℕ) (x : A) : Type 0 where
  pub below : i < length xs
  pub is : x ≡ get_or xs i x

pub read_at : {A : Type 0} {read xs : List A} {i : ℕ} {x : A} → read ≡ xs
    → i < length read → x ≡ get_or read i x → IsAt xs i x
read_at {i = i} {x = x} same below is = record { below = rw (← same) below; is = is ∙ ap (λ l. get_or l i x) same }

module _ {A : Type 0} (xs : List A) (i : ℕ) (x : A) (at : IsAt xs i x) where
  -- up to its place, with the last one first
  pub taken_last : reverse (take (i + 1) xs) ≡ x ∷ reverse (take i xs)
  taken_last =
      ap (λ n. reverse (take n xs)) (add-one i)
      ∙ ap reverse (take-suc xs i x at.below)
      ∙ reverse-append (take i xs) (get_or xs i x ∷ [])
      ∙ ap (λ y. y ∷ reverse (take i xs)) (sym at.is)

  -- the whole list, with the last one first
  pub reversed_around : reverse xs ≡ reverse (drop (i + 1) xs) ++ x ∷ reverse (take i xs)
  reversed_around =
      ap reverse (sym (take-append-drop (i + 1) xs))
      ∙ reverse-append (take (i + 1) xs) (drop (i + 1) xs)
      ∙ ap (λ l. reverse (drop (i + 1) xs) ++ l) taken_last

-- nothing is said of the value of a call that was refused
pub none_ok : {T E : Type 0} (r : Result T E) (P : T → Type 0) → IsErr r → IfOk r P
none_ok (Ok x) P err = cc
none_ok (Err e) P err = tt
