-- Taking the first word off a line.
use Rattle.std.proofs.Common.{◌≡◌, ℕ, zero, suc, ◌<◌, ◌≤◌, Bool, true, false, cond, not, List, [], ◌∷◌, length, take}
use Rattle.std.proofs.Common.{drop, get_or, Option, Some, None, refl, ap, sym, ◌∙◌, subst, arith}
use Rattle.std.specs.Prelude.{◌==◌, nat_lt, filter}
use Rattle.std.specs.Option.{unwrap_or}
use Rattle.std.specs.List.{slice_split, position, position_or_len, onto_first}
use Rattle.std.proofs.lemmas.Bool.{ltb-true, lt-ltb, cond-true}
use Rattle.std.proofs.lemmas.List.{drop_all, length-drop}
use Rattle.std.proofs.lemmas.List.Splits.{slice_split-cons_yes, slice_split-cons_no}
use Rattle.std.proofs.lemmas.List.Sums.{fails_before_first, passes_at_first}
use Rattle.line_texts.specs.Lines.{words_of}

abbrev is_space : ℕ → Bool
is_space byte = byte == 32

abbrev is_other : ℕ → Bool
is_other byte = not (byte == 32)

abbrev is_word : List ℕ → Bool
is_word word = nat_lt 0 (length word)

-- what `position` found
place : (p : ℕ → Bool) (xs : List ℕ) (n : ℕ) (b : Bool) → nat_lt (position_or_len p xs) (length xs) ≡ b
    → cond b (Some (position_or_len p xs)) None ≡ Some n → (n ≡ position_or_len p xs) × (n < length xs)
place p xs n true e f = let same : n ≡ position_or_len p xs = cc in (
  same,
  let l : position_or_len p xs < length xs = ltb-true (position_or_len p xs) (length xs) e in omega arith,
)
place p xs n false e f = absurd cc

no_place : (p : ℕ → Bool) (xs : List ℕ) (b : Bool) → nat_lt (position_or_len p xs) (length xs) ≡ b
    → cond b (Some (position_or_len p xs)) None ≡ None → length xs ≤ position_or_len p xs
no_place p xs true e f = absurd cc
no_place p xs false e f = grind (arith, lt-ltb)

-- a space in front makes no difference
words_of-space : (x : ℕ) (xs : List ℕ) → is_space x ≡ true → words_of (x ∷ xs) ≡ words_of xs
words_of-space x xs e = ap (filter is_word) (slice_split-cons_yes is_space x xs e)

-- nor do several
words_of-spaces : (n : ℕ) (xs : List ℕ) → ((k : ℕ) → k < n → is_space (get_or xs k 0) ≡ true) → n ≤ length xs
    → words_of (drop n xs) ≡ words_of xs
words_of-spaces zero xs spaces l = refl
words_of-spaces (suc n) [] spaces l = absurd (omega arith)
words_of-spaces (suc n) (x ∷ xs) spaces l = words_of-spaces n xs (λ k h. spaces (suc k) (omega arith)) (omega arith)
    ∙ sym (words_of-space x xs (spaces 0 (omega arith)))

-- the first part of a line, and what the others are
record FirstPart (n : ℕ) (xs : List ℕ) : Type 0 where
  others : List (List ℕ)
  parts : slice_split is_space xs ≡ take n xs ∷ others
  same : filter is_word others ≡ words_of (drop n xs)

first_part : (n : ℕ) (xs : List ℕ) → ((k : ℕ) → k < n → is_space (get_or xs k 0) ≡ false)
    → (n < length xs → is_space (get_or xs n 0) ≡ true) → n ≤ length xs → FirstPart n xs
first_part zero [] inside at l = record { others = []; parts = refl; same = refl }
first_part zero (x ∷ xs) inside at l = record {
  others = slice_split is_space xs;
  parts = slice_split-cons_yes is_space x xs (at (omega arith));
  same = sym (words_of-space x xs (at (omega arith)));
}
first_part (suc n) [] inside at l = absurd (omega arith)
first_part (suc n) (x ∷ xs) inside at l =
    let rest = first_part n xs (λ k h. inside (suc k) (omega arith)) (λ h. at (omega arith)) (omega arith) in
    record {
      others = rest.others;
      parts = slice_split-cons_no is_space x xs (inside 0 (omega arith)) ∙ ap (onto_first x) rest.parts;
      same = rest.same;
    }

-- the first word, and the others
word_first : (n : ℕ) (xs : List ℕ) → FirstPart n xs → 0 < length (take n xs)
    → words_of xs ≡ take n xs ∷ words_of (drop n xs)
word_first n xs part l =
    ap (filter is_word) part.parts ∙ cond-true (is_word (take n xs)) (take n xs ∷ filter is_word part.others)
    (filter is_word part.others) (lt-ltb 0 (length (take n xs)) l)
    ∙ ap (λ ws. take n xs ∷ ws) part.same

not_other : (b : Bool) → not b ≡ false → b ≡ true
not_other true e = refl
not_other false e = absurd cc

not_space : (b : Bool) → not b ≡ true → b ≡ false
not_space true e = absurd cc
not_space false e = refl

-- no byte is in a word
pub words_of-blank : (xs : List ℕ) → position is_other xs ≡ None → words_of xs ≡ []
words_of-blank xs e =
    let l = no_place is_other xs (nat_lt (position_or_len is_other xs) (length xs)) refl e in
    sym (words_of-spaces (length xs) xs
    (λ k h. not_other (is_space (get_or xs k 0)) (fails_before_first is_other xs k 0 (omega arith))) (omega arith))
    ∙ ap words_of (drop_all (length xs) xs (omega arith))

first_at : (xs : List ℕ) (start : ℕ) → position is_other xs ≡ Some start
    → (start ≡ position_or_len is_other xs) × (start < length xs)
first_at xs start e = place is_other xs start (nat_lt (position_or_len is_other xs) (length xs)) refl e

-- where a word ends: at a space or at the end of the line
record IsWordEnd (ys : List ℕ) (end : ℕ) : Type 0 where
  within : end ≤ length ys
  inside : (k : ℕ) → k < end → is_space (get_or ys k 0) ≡ false
  at : end < length ys → is_space (get_or ys end 0) ≡ true

end_at : (ys : List ℕ) (end : ℕ) (b : Bool) → nat_lt (position_or_len is_space ys) (length ys) ≡ b
    → end ≡ unwrap_or (cond b (Some (position_or_len is_space ys)) None) (length ys) → IsWordEnd ys end
end_at ys end true e f =
    let l : position_or_len is_space ys < length ys = ltb-true (position_or_len is_space ys) (length ys) e in
    record {
      within = omega arith;
      inside = λ k h. fails_before_first is_space ys k 0 (omega arith);
      at = λ h. subst (λ n. is_space (get_or ys n 0) ≡ true) (sym f) (passes_at_first is_space ys 0 l);
    }
end_at ys end false e f =
    let l = no_place is_space ys (nat_lt (position_or_len is_space ys) (length ys)) refl
    (ap (λ b. cond b (Some (position_or_len is_space ys)) None) e) in
    record {
      within = omega arith;
      inside = λ k h. fails_before_first is_space ys k 0 (omega arith);
      at = λ h. absurd (omega arith);
    }

-- where the first byte is no space, the first part has a byte
part_is_some : (end : ℕ) (ys : List ℕ) → is_space (get_or ys 0 0) ≡ false → 0 < length ys
    → IsWordEnd ys end → 0 < length (take end ys)
part_is_some end [] other l ends = absurd (omega arith)
part_is_some zero (y ∷ ys) other l ends = absurd (let e = ends.at (omega arith) in cc)
part_is_some (suc end) (y ∷ ys) other l ends = omega arith

first_of_drop : (xs : List ℕ) (n : ℕ) → get_or (drop n xs) 0 0 ≡ get_or xs n 0
first_of_drop xs zero = refl
first_of_drop [] (suc n) = refl
first_of_drop (x ∷ xs) (suc n) = first_of_drop xs n

-- the word from `start` to `end`, and the words after it
words_of-cut : (xs : List ℕ) (start end : ℕ) → position is_other xs ≡ Some start →
    end ≡ unwrap_or (position is_space (drop start xs)) (length (drop start xs)) →
    words_of xs ≡ take end (drop start xs) ∷ words_of (drop end (drop start xs))
words_of-cut xs start end e f =
    let ys = drop start xs in
    let p = first_at xs start e in
    let ends = end_at ys end (nat_lt (position_or_len is_space ys) (length ys)) refl f in
    let other : is_space (get_or ys 0 0) ≡ false =
    ap is_space (first_of_drop xs start) ∙ not_space (is_space (get_or xs start 0)) (subst
    (λ n. is_other (get_or xs n 0) ≡ true) (sym p.0) (passes_at_first is_other xs 0 (omega (arith, p.0, p.1)))) in
    sym (words_of-spaces start xs
    (λ k h. not_other (is_space (get_or xs k 0)) (fails_before_first is_other xs k 0 (omega (arith, p.0))))
    (omega (arith, p.1)))
    ∙ word_first end ys (first_part end ys ends.inside ends.at ends.within)
    (part_is_some end ys other (omega (arith, length-drop start xs, p.1)) ends)

-- the same, where the code has the parts under other terms
pub words_of-first : (xs ys word rest : List ℕ) (o q : Option ℕ) (start end : ℕ) → o ≡ position is_other xs →
    o ≡ Some start → ys ≡ drop start xs → q ≡ position is_space ys →
    end ≡ unwrap_or q (length ys) → word ≡ take end ys → rest ≡ drop end ys → words_of xs ≡ word ∷ words_of rest
words_of-first xs ys word rest o q start end e found is_ys f is_end is_word is_rest =
    rw (is_word, is_rest, is_ys)
    (words_of-cut xs start end (sym e ∙ found) (rw (← is_ys) (is_end ∙ ap (λ o. unwrap_or o (length ys)) f)))
