-- A number of JSON that has digits alone is written as `decimal` writes it.
use Rattle.std.proofs.Common.{◌≡◌, ◌≢◌, ◌∙◌, ◌<◌, ◌≤◌, ◌^◌, ◌==◌, ℕ, arith, ap, cond, decimal, drop, false, get_or}
use Rattle.std.proofs.Common.{length, List, [], ◌∷◌, None, Option, refl, rules, Some, subst, sym, ⊎_elim}
use Rattle.std.proofs.lemmas.Bool.{cases_Bool, eqb-true, ne_eqb}
use Rattle.std.proofs.lemmas.Fmt.{decimal-digits_value, parse-decimal}
use Rattle.std.proofs.lemmas.Str.Parse.{IsNumeralModel, numerals_by_value}
use Rattle.std.specs.Char.{digit_value}
use Rattle.std.specs.Prelude.{Err, IfNone, IfSome, Ok, Result}
use Rattle.std.specs.Result.{result_ok}
use Rattle.std.specs.Str.Parse.{AllDigits, digits_value, IsNumeral, ParsesUnsigned, without_leading_plus}
use Rattle.json.specs.Print.{IsNumber}
use Rattle.json.specs.Word.{after_number}

own : IsNumeralModel (AllDigits 10) (digits_value 10)
own = numerals_by_value (AllDigits 10) (search rules)

-- it has no plus
begins_without_plus : (cs : List ℕ) → IsNumber (43 ∷ cs) → ⊥
unfolding after_number
begins_without_plus cs number = let bad : None ≡ Some [] = number in absurd (cc)

no_plus : (text : List ℕ) → IsNumber text → without_leading_plus text ≡ text
no_plus [] number = refl
no_plus (c ∷ cs) number = ⊎_elim
    (λ plus. absurd (begins_without_plus cs (subst (λ d. IsNumber (d ∷ cs)) (eqb-true c 43 plus) number)))
    (λ other. ap (λ b. drop (cond b 1 0) (c ∷ cs)) other)
    (cases_Bool (c == 43))

-- and no zero before other digits
no_digit : (c d : ℕ) → digit_value c < 10 → 10 ≤ digit_value d → (c == d) ≡ false
no_digit c d low high =
    ne_eqb c d (λ e. let bad : digit_value d < 10 = subst (λ x. digit_value x < 10) e low in omega arith)

after_zero : (d : ℕ) (ds : List ℕ) → digit_value d < 10 → after_number (48 ∷ d ∷ ds) ≡ Some (d ∷ ds)
unfolding after_number
after_zero d ds low =
    let dot = no_digit d 46 low (omega arith) in
    let small = no_digit d 101 low (omega arith) in
    let capital = no_digit d 69 low (omega arith) in
    rw (dot, small, capital) refl

one_zero : (text : List ℕ) → IsNumber text → AllDigits 10 text → get_or text 0 0 ≡ 48 → length text ≡ 1
one_zero [] number digits zero = absurd (omega arith)
one_zero (c ∷ []) number digits zero = refl
one_zero (c ∷ d ∷ ds) number digits zero =
    let bad : Some (d ∷ ds) ≡ Some [] =
    sym (after_zero d ds digits.1.0) ∙ subst (λ x. IsNumber (x ∷ d ∷ ds)) zero number in
    absurd (cc)

canonical : (text : List ℕ) → IsNumber text → IsNumeral 10 text → digits_value 10 text < 2 ^ 64
    → text ≡ decimal (digits_value 10 text)
canonical text number numeral fits =
    sym (decimal-digits_value own text numeral.1 numeral.0 (one_zero text number numeral.1) fits)

-- what `parse` makes of it
pub read_number : {E : Type 0} (text : List ℕ) (parsed : Result ℕ E) (read : Option ℕ) → IsNumber text
    → ParsesUnsigned 64 10 text parsed → read ≡ result_ok parsed → IfSome read (λ n. text ≡ decimal n)
read_number text (Ok n) read number parses is =
    let digits = no_plus text number in
    let numeral : IsNumeral 10 text = subst (IsNumeral 10) digits parses.0.0 in
    let fits : digits_value 10 text < 2 ^ 64 = subst (λ ds. digits_value 10 ds < 2 ^ 64) digits parses.0.1 in
    rw is (canonical text number numeral fits ∙ ap decimal (sym (parses.1 ∙ ap (digits_value 10) digits)))
read_number text (Err e) read number parses is = rw is tt

pub read_no_number : {E : Type 0} (text : List ℕ) (parsed : Result ℕ E) (read : Option ℕ)
    → ParsesUnsigned 64 10 text parsed → read ≡ result_ok parsed → IfNone read ((n : ℕ) → n < 2 ^ 64 → text ≢ decimal n)
read_no_number text (Ok n) read parses is = rw is tt
read_no_number {E} text (Err e) read parses is =
    rw is (λ n fits same. let bad = parse-decimal 64 n text (Err e) fits fits same parses in absurd (cc))
