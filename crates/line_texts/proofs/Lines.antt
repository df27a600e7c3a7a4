-- Reading a text, one line after another.
use Rattle.std.proofs.Common.{◌≡◌, ℕ, ◌+◌, ◌<◌, List, [], ◌∷◌, ◌++◌, length, take, get_or, Some, ap, sym, ◌∙◌, arith}
use Rattle.std.specs.Prelude.{slice_get}
use Rattle.std.specs.List.{AllByRecursion, AllZip, enumerate_from}
use Rattle.std.proofs.lemmas.List.{take_all, take_more}
use Rattle.std.proofs.lemmas.List.Elements.{All-from_recursion}
use Rattle.std.proofs.lemmas.List.FromFn.{get_or-enumerate_from, length-enumerate_from}
use Rattle.std.proofs.lemmas.Option.{get_or_from_slice_get, slice_get-get_or, slice_get_within}
use Rattle.line_texts.specs.Lines.{IsFirstBadLine, lines_of}

module _ {A B : Type 0} (R : A → B → Type 0) where
  pub AllZip-append_one : (xs : List A) (ys : List B) (x : A) (y : B) → AllZip R xs ys → R x y
      → AllZip R (xs ++ x ∷ []) (ys ++ y ∷ [])
  AllZip-append_one [] [] x y h r = (r, tt)
  AllZip-append_one [] (z ∷ ys) x y h r = absurd h
  AllZip-append_one (w ∷ xs) [] x y h r = absurd h
  AllZip-append_one (w ∷ xs) (z ∷ ys) x y h r = (h.0, AllZip-append_one xs ys x y h.1 r)

-- the line of a turn
pub line_at : (xs : List (List ℕ)) (i m : ℕ) (y : List ℕ)
    → (i < length (enumerate_from 0 xs)) × ((m, y) ≡ get_or (enumerate_from 0 xs) i (m, y))
    → (m ≡ i) × (slice_get xs i ≡ Some y)
line_at xs i m y h =
    let l : i < length xs = omega (arith, h.0, length-enumerate_from 0 xs) in
    let e = h.1 ∙ get_or-enumerate_from 0 xs i (m, y) l in
    (omega (arith, ap (λ p. p.0) e), slice_get-get_or xs i y l ∙ ap Some (sym (ap (λ p. p.1) e)))

pub take-next : {A : Type 0} (xs : List A) (i : ℕ) (x : A) → slice_get xs i ≡ Some x
    → take (i + 1) xs ≡ take i xs ++ x ∷ []
take-next xs i x e =
    take_more xs i x (slice_get_within xs i x e) ∙ ap (λ y. take i xs ++ y ∷ []) (get_or_from_slice_get xs i x x e)

-- the first lines say these statements
module _ {S : Type 0} (Says : List ℕ → S → Type 0) where
  -- one line more
  pub says_more : (text : List ℕ) (i : ℕ) (line : List ℕ) (statements : List S) (s : S)
      → AllZip Says (take i (lines_of text)) statements → slice_get (lines_of text) i ≡ Some line → Says line s
      → AllZip Says (take (i + 1) (lines_of text)) (statements ++ s ∷ [])
  says_more text i line statements s so_far e says = rw (take-next (lines_of text) i line e)
      (AllZip-append_one Says (take i (lines_of text)) statements line s so_far says)

  -- the last line
  pub says_all : (text : List ℕ) (n : ℕ) (statements : List S) → AllZip Says (take n (lines_of text)) statements
      → n ≡ length (enumerate_from 0 (lines_of text)) → AllZip Says (lines_of text) statements
  says_all text n statements so_far end =
      rw (← take_all n (lines_of text) (omega (arith, length-enumerate_from 0 (lines_of text)))) so_far

  allowed_from : (xs : List (List ℕ)) (ss : List S) → AllZip Says xs ss → AllByRecursion (λ l. (s : S) × Says l s) xs
  allowed_from [] ss h = tt
  allowed_from (x ∷ xs) [] h = absurd h
  allowed_from (x ∷ xs) (s ∷ ss) h = ((s, h.0), allowed_from xs ss h.1)

  -- a line that the grammar doesn't allow
  pub bad_line : (IsMalformed : List ℕ → Type 0) (text : List ℕ) (i n : ℕ) (statements : List S) (line : List ℕ)
      → AllZip Says (take i (lines_of text)) statements → slice_get (lines_of text) i ≡ Some line
      → IsMalformed line → n ≡ i + 1 → IsFirstBadLine Says IsMalformed text n
  bad_line IsMalformed text i n statements line so_far e malformed count = record {
    before = i;
    count = count;
    line = line;
    is_line = e;
    is_malformed = malformed;
    allowed = All-from_recursion (λ l. (s : S) × Says l s) (take i (lines_of text))
        (allowed_from (take i (lines_of text)) statements so_far);
  }
