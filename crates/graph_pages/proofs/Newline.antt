-- A newline at the end of a text of data is passed over: the text has the same tokens.
use Rattle.std.proofs.Common.{◌≡◌, ◌∙◌, ◌-◌, ℕ, ap, arith, Bool, cond, drop, false, length, List, [], ◌∷◌, ◌++◌, None}
use Rattle.std.proofs.Common.{Option, refl, Some, take, true}
use Rattle.std.specs.Prelude.{nat_eq, nat_lt, ◌&&◌, ◌||◌, ◌==◌, ◌+◌}
use Rattle.std.specs.Char.{is_ascii_digit, is_digit}
use Rattle.std.specs.List.{prefix_len, starts_with}
use Rattle.std.specs.Option.{option_and_then, option_map}
use Rattle.std.proofs.Math.Bool.{and-false}
use Rattle.std.proofs.lemmas.List.{drop-append-le, length-append, take-append-le}
use Rattle.std.proofs.lemmas.List.Sums.{prefix_len-le-length}
use Rattle.json.specs.Ascii as ascii
use Rattle.json.specs.Lex.{token, between, class, Class, backslash, in_escape, in_string, in_word, lex, lex_byte}
use Rattle.json.specs.Lex.{Lexeme, Mode, operator, other, punctuate, fresh, quote, space, string_token, tokens}
use Rattle.json.specs.Text.{after_backslash, after_high, after_u, code_unit, content, plain, prepend, is_high_surrogate}
use Rattle.json.specs.Text.{is_low_surrogate, short_escape, surrogate_pair, Within}
use Rattle.json.specs.Token.{bad, boolean, null, number}
use Rattle.json.specs.Word.{after_digits, after_exponent, after_fraction, after_minus, after_number, after_sign}
use Rattle.json.specs.Word.{after_whole, ends_word, literal, number_before, word}
use Rattle.std.specs.Char.{encode_utf8}

abbrev newline : List ℕ
newline = 10 ∷ []

-- ---- strings

cond_same : {A : Type 0} (b : Bool) (x : A) → cond b x x ≡ x
cond_same true x = refl
cond_same false x = refl

no_unit : (a b c : ℕ) → code_unit a b c 10 ≡ None
unfolding code_unit
no_unit a b c = let none : (is_digit a 16 && is_digit b 16 && is_digit c 16 && is_digit 10 16) ≡ false =
    and-false (is_digit a 16 && is_digit b 16 && is_digit c 16) in rw none refl

content_same : (within : Within) (xs : List ℕ) → content within (xs ++ newline) ≡ content within xs
unfolding content short_escape
content_same plain [] = refl
content_same plain (x ∷ xs) = λ i.
    cond (x == ascii.quote) (Some []) (cond (x == ascii.backslash) (content_same after_backslash xs i)
    (cond (nat_lt x ascii.space) None (prepend (x ∷ []) (content_same plain xs i))))
content_same after_backslash [] = refl
content_same after_backslash (x ∷ xs) = λ i. cond (x == ascii.lower_u) (content_same after_u xs i)
    (option_and_then (λ c. prepend (c ∷ []) (content_same plain xs i)) (short_escape x))
content_same after_u [] = refl
content_same after_u (a ∷ []) = refl
content_same after_u (a ∷ b ∷ []) = refl
content_same after_u (a ∷ b ∷ c ∷ []) = rw (no_unit a b c) refl
content_same after_u (a ∷ b ∷ c ∷ d ∷ xs) = λ i.
    option_and_then (λ u. cond (is_high_surrogate u) (content_same (after_high u) xs i)
    (cond (is_low_surrogate u) None (prepend (encode_utf8 u) (content_same plain xs i)))) (code_unit a b c d)
content_same (after_high h) [] = refl
content_same (after_high h) (s ∷ []) = refl
content_same (after_high h) (s ∷ u ∷ []) = refl
content_same (after_high h) (s ∷ u ∷ a ∷ []) = refl
content_same (after_high h) (s ∷ u ∷ a ∷ b ∷ []) = refl
content_same (after_high h) (s ∷ u ∷ a ∷ b ∷ c ∷ []) =
    rw (no_unit a b c) (cond_same ((s == ascii.backslash) && (u == ascii.lower_u)) None)
content_same (after_high h) (s ∷ u ∷ a ∷ b ∷ c ∷ d ∷ xs) = λ i.
    cond ((s == ascii.backslash) && (u == ascii.lower_u)) (option_and_then
    (λ l. cond (is_low_surrogate l) (prepend (encode_utf8 (surrogate_pair h l)) (content_same plain xs i)) None)
    (code_unit a b c d)) None

-- ---- words

ends_same : (t : List ℕ) → ends_word (t ++ newline) ≡ ends_word t
ends_same [] = refl
ends_same (x ∷ t) = refl

-- what is left, with the newline
abbrev longer : Option (List ℕ) → Option (List ℕ)
longer rest = option_map (λ r. r ++ newline) rest

digits_same : (t : List ℕ) → prefix_len is_ascii_digit (t ++ newline) ≡ prefix_len is_ascii_digit t
digits_same [] = refl
digits_same (x ∷ t) = ap (λ n. cond (is_ascii_digit x) (1 + n) 0) (digits_same t)

by_cond : (b : Bool) (x y : Option (List ℕ)) → cond b (longer x) (longer y) ≡ longer (cond b x y)
by_cond true x y = refl
by_cond false x y = refl

digits_longer : (t : List ℕ) → after_digits (t ++ newline) ≡ longer (after_digits t)
digits_longer t =
    ap (λ n. cond (n == 0) None (Some (drop n (t ++ newline)))) (digits_same t)
    ∙ ap (λ rest. cond (prefix_len is_ascii_digit t == 0) None (Some rest))
    (drop-append-le (prefix_len is_ascii_digit t) t newline (prefix_len-le-length is_ascii_digit t))
    ∙ by_cond (prefix_len is_ascii_digit t == 0) None (Some (drop (prefix_len is_ascii_digit t) t))

either : (b : Bool) (x y : List ℕ) → cond b (x ++ newline) (y ++ newline) ≡ cond b x y ++ newline
either true x y = refl
either false x y = refl

minus_longer : (t : List ℕ) → after_minus (t ++ newline) ≡ after_minus t ++ newline
minus_longer [] = refl
minus_longer (x ∷ t) = either (x == ascii.minus) t (x ∷ t)

sign_longer : (t : List ℕ) → after_sign (t ++ newline) ≡ after_sign t ++ newline
sign_longer [] = refl
sign_longer (x ∷ t) = either ((x == ascii.minus) || (x == ascii.plus)) t (x ∷ t)

whole_longer : (t : List ℕ) → after_whole (t ++ newline) ≡ longer (after_whole t)
whole_longer [] = refl
whole_longer (x ∷ t) = ap (cond (x == ascii.zero) (Some (t ++ newline))) (digits_longer (x ∷ t))
    ∙ by_cond (x == ascii.zero) (Some t) (after_digits (x ∷ t))

fraction_longer : (t : List ℕ) → after_fraction (t ++ newline) ≡ longer (after_fraction t)
fraction_longer [] = refl
fraction_longer (x ∷ t) = ap (λ rest. cond (x == ascii.dot) rest (Some (x ∷ t ++ newline))) (digits_longer t)
    ∙ by_cond (x == ascii.dot) (after_digits t) (Some (x ∷ t))

exponent_longer : (t : List ℕ) → after_exponent (t ++ newline) ≡ longer (after_exponent t)
exponent_longer [] = refl
exponent_longer (x ∷ t) =
    ap (λ rest. cond ((x == ascii.lower_e) || (x == ascii.upper_e)) rest (Some (x ∷ t ++ newline)))
    (ap after_digits (sign_longer t) ∙ digits_longer (after_sign t))
    ∙ by_cond ((x == ascii.lower_e) || (x == ascii.upper_e)) (after_digits (after_sign t)) (Some (x ∷ t))

then_longer : (f : List ℕ → Option (List ℕ)) → ((t : List ℕ) → f (t ++ newline) ≡ longer (f t)) → (o : Option (List ℕ))
    → option_and_then f (longer o) ≡ longer (option_and_then f o)
then_longer f more None = refl
then_longer f more (Some t) = more t

number_longer : (t : List ℕ) → after_number (t ++ newline) ≡ longer (after_number t)
unfolding after_number
number_longer t =
    ap (λ o. option_and_then after_exponent (option_and_then after_fraction o))
    (ap after_whole (minus_longer t) ∙ whole_longer (after_minus t))
    ∙ ap (option_and_then after_exponent) (then_longer after_fraction fraction_longer (after_whole (after_minus t)))
    ∙ then_longer after_exponent exponent_longer (option_and_then after_fraction (after_whole (after_minus t)))

number_same : (t : List ℕ) (o : Option (List ℕ)) → number_before (t ++ newline) (longer o) ≡ number_before t o
number_same t None = refl
number_same t (Some rest) =
    let count : length (t ++ newline) - length (rest ++ newline) ≡ length t - length rest =
    omega (arith, length-append t newline, length-append rest newline) in
    let front =
    ap (λ n. take n (t ++ newline)) count ∙ take-append-le (length t - length rest) t newline (omega arith) in
    ap (λ b. cond b (number (take (length (t ++ newline) - length (rest ++ newline)) (t ++ newline))) bad)
    (ends_same rest) ∙ ap (λ digits. cond (ends_word rest) (number digits) bad) front

true_same :
    (t : List ℕ) → literal ascii.true_text (boolean true) (t ++ newline) ≡ literal ascii.true_text (boolean true) t
true_same [] = refl
true_same (a ∷ []) = refl
true_same (a ∷ b ∷ []) = refl
true_same (a ∷ b ∷ c ∷ []) = refl
true_same (a ∷ b ∷ c ∷ d ∷ t) =
    ap (λ e. cond (starts_with nat_eq (a ∷ b ∷ c ∷ d ∷ t) ascii.true_text && e) (boolean true) bad) (ends_same t)

false_same :
    (t : List ℕ) → literal ascii.false_text (boolean false) (t ++ newline) ≡ literal ascii.false_text (boolean false) t
false_same [] = refl
false_same (a ∷ []) = refl
false_same (a ∷ b ∷ []) = refl
false_same (a ∷ b ∷ c ∷ []) = refl
false_same (a ∷ b ∷ c ∷ d ∷ []) = refl
false_same (a ∷ b ∷ c ∷ d ∷ e ∷ t) =
    ap (λ x. cond (starts_with nat_eq (a ∷ b ∷ c ∷ d ∷ e ∷ t) ascii.false_text && x) (boolean false) bad) (ends_same t)

null_same : (t : List ℕ) → literal ascii.null_text null (t ++ newline) ≡ literal ascii.null_text null t
null_same [] = refl
null_same (a ∷ []) = refl
null_same (a ∷ b ∷ []) = refl
null_same (a ∷ b ∷ c ∷ []) = refl
null_same (a ∷ b ∷ c ∷ d ∷ t) =
    ap (λ e. cond (starts_with nat_eq (a ∷ b ∷ c ∷ d ∷ t) ascii.null_text && e) null bad) (ends_same t)

word_same : (x : ℕ) (xs : List ℕ) → word (x ∷ xs ++ newline) ≡ word (x ∷ xs)
unfolding word
word_same x xs = λ i.
    cond (x == ascii.lower_t) (true_same (x ∷ xs) i)
    (cond (x == ascii.lower_f) (false_same (x ∷ xs) i) (cond (x == ascii.lower_n) (null_same (x ∷ xs) i)
    ((ap (number_before (x ∷ xs ++ newline)) (number_longer (x ∷ xs))
    ∙ number_same (x ∷ xs) (after_number (x ∷ xs))) i)))

-- ---- and so all tokens

byte_same : (mode : Mode) (c : Class) (x : ℕ) (xs : List ℕ) (k : Mode → List Lexeme)
    → lex_byte mode c x (xs ++ newline) k ≡ lex_byte mode c x xs k
byte_same between quote x xs k = λ i. token (string_token (content_same plain xs i)) ∷ k in_string
byte_same between backslash x xs k = refl
byte_same between operator x xs k = refl
byte_same between space x xs k = refl
byte_same between other x xs k = λ i. token (word_same x xs i) ∷ k in_word
byte_same in_word quote x xs k = refl
byte_same in_word backslash x xs k = refl
byte_same in_word operator x xs k = refl
byte_same in_word space x xs k = refl
byte_same in_word other x xs k = refl
byte_same in_string quote x xs k = refl
byte_same in_string backslash x xs k = refl
byte_same in_string operator x xs k = refl
byte_same in_string space x xs k = refl
byte_same in_string other x xs k = refl
byte_same in_escape c x xs k = refl

lex_same : (mode : Mode) (xs : List ℕ) → lex mode (xs ++ newline) ≡ lex mode xs
unfolding lex
lex_same between [] = refl
lex_same in_word [] = refl
lex_same in_string [] = refl
lex_same in_escape [] = refl
lex_same mode (x ∷ xs) = byte_same mode (class x) x xs (λ next. lex next (xs ++ newline))
    ∙ (λ i. lex_byte mode (class x) x xs (λ next. lex_same next xs i))

pub newline_passed : (text : List ℕ) → tokens (text ++ 10 ∷ []) ≡ tokens text
newline_passed text = ap (punctuate fresh) (lex_same between text)
