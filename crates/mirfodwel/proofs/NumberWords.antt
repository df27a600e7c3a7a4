-- Numbers are names, and the words of a line that is written word by word.
use Rattle.std.proofs.Common.{◌≡◌, ◌∙◌, ℕ, ◌+◌, ◌<◌, ◌≤◌, ◌^◌, ◌%◌, true, false, cond, eqb, List, [], ◌∷◌, ◌++◌}
use Rattle.std.proofs.Common.{ap, arith, get_or, inl, inr, length, refl, subst, sym}
use Rattle.std.specs.Char.{is_ascii_digit}
use Rattle.std.specs.Fmt.{decimal}
use Rattle.std.specs.List.{All, AllPass, filter, slice_split}
use Rattle.std.specs.Prelude.{nat_lt}
use Rattle.std.proofs.lemmas.Bool.{false≢true}
use Rattle.std.proofs.lemmas.Bool.Decides.{eqb_tells, nat_tests}
use Rattle.std.proofs.lemmas.Fmt.{decimal_by_steps, decimal_nonempty, length-decimal-le}
use Rattle.std.proofs.lemmas.List.Elements.{All-append, All-cons, All-nil}
use Rattle.std.proofs.lemmas.List.Splits.{slice_split_at, slice_split_none}
use Rattle.line_texts.specs.Lines.{IsName, is_name_byte, words_of}

digit : (n : ℕ) → n < 10 → is_ascii_digit (48 + n) ≡ true
digit n small = grind (arith, nat_tests)

name_byte : (c : ℕ) → is_ascii_digit c ≡ true → is_name_byte c ≡ true
name_byte c is = grind (arith, nat_tests)

pub digits : (n : ℕ) → n < 2 ^ 64 → AllPass is_ascii_digit (decimal n)
digits = let P : ℕ → Type 0 = λ c. is_ascii_digit c ≡ true in
    decimal_by_steps (λ n ds. AllPass is_ascii_digit ds)
    (λ n small. All-cons P (48 + n) [] (digit n small) (All-nil P))
    (λ n ds large are. All-append P ds ((48 + n % 10) ∷ []) are
    (All-cons P (48 + n % 10) [] (digit (n % 10) (omega arith)) (All-nil P)))

pub number_is_name : (n : ℕ) → n < 2 ^ 32 → IsName (decimal n)
number_is_name n small = record {
  is_some = decimal_nonempty n (omega arith);
  is_short = let s : length (decimal n) ≤ 10 = length-decimal-le 10 n (omega arith) (omega arith) (omega arith) in
      omega arith;
  bytes = λ k d l. name_byte (get_or (decimal n) k d) (digits n (omega arith) k d l);
}

-- the word is without this byte
abbrev pub IsWithout : ℕ → List ℕ → Type 0
IsWithout byte word = All (λ b. eqb b byte ≡ false) word

other_byte : (byte b : ℕ) → is_name_byte byte ≡ false → is_name_byte b ≡ true → eqb b byte ≡ false
other_byte byte b other is = elim (eqb_tells b byte) [
  | inl w ↦ absurd (false≢true (sym other ∙ subst (λ c. is_name_byte c ≡ true) w.1 is))
  | inr w ↦ w.0
]

pub name_without : (byte : ℕ) (name : List ℕ) → is_name_byte byte ≡ false → IsName name → IsWithout byte name
name_without byte name other is = λ k d l. other_byte byte (get_or name k d) other (is.bytes k d l)

is_some : (n : ℕ) → 0 < n → nat_lt 0 n ≡ true
is_some n some = grind (arith, nat_tests)

kept : (word : List ℕ) (words : List (List ℕ)) → 0 < length word →
    filter (λ w. nat_lt 0 (length w)) (word ∷ words) ≡ word ∷ filter (λ w. nat_lt 0 (length w)) words
kept word words some =
    let others = filter (λ (w : List ℕ). nat_lt 0 (length w)) words in
    ap (λ b. cond b (word ∷ others) others) (is_some (length word) some)

-- a word and a space, and what follows
pub word_first : (word rest : List ℕ) → IsWithout 32 word → 0 < length word →
    words_of (word ++ 32 ∷ rest) ≡ word ∷ words_of rest
word_first word rest without some =
    ap (filter (λ w. nat_lt 0 (length w))) (slice_split_at (λ byte. eqb byte 32) word 32 rest without refl)
    ∙ kept word (slice_split (λ byte. eqb byte 32) rest) some

-- the last word
pub word_last : (word : List ℕ) → IsWithout 32 word → 0 < length word → words_of word ≡ word ∷ []
word_last word without some =
    ap (filter (λ w. nat_lt 0 (length w))) (slice_split_none (λ byte. eqb byte 32) word without)
    ∙ kept word [] some
