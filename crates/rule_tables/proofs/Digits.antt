-- Reading a number digit by digit.
use Rattle.std.proofs.Common.{◌≡◌, ℕ, ◌+◌, ◌*◌, ◌-◌, ◌<◌, ◌^◌, true, List, length, take, get_or, arith, add-one}
use Rattle.std.proofs.Math.Nat.{pow-suc}
use Rattle.std.specs.Char.{is_ascii_digit, digit_value}
use Rattle.std.specs.List.{AllPass}
use Rattle.std.specs.Str.Parse.{digits_value}
use Rattle.std.proofs.lemmas.Bool.Decides.{nat_tests}
use Rattle.std.proofs.lemmas.Int.Digits.{digits_value_more}
use Rattle.std.proofs.lemmas.List.Elements.{All-more}

-- the first bytes are digits, which spell the depth
pub record IsReadTo (word : List ℕ) (index depth : ℕ) : Type 0 where
  pub digits : AllPass is_ascii_digit (take index word)
  pub value : depth ≡ digits_value 10 (take index word)
  pub small : depth < 10 ^ index

value_of_digit : (c : ℕ) → is_ascii_digit c ≡ true → (digit_value c ≡ c - 48) × (c - 48 < 10)
value_of_digit c h = (grind (arith, nat_tests), grind (arith, nat_tests))

pow_more : (i n d : ℕ) → n < 10 ^ i → d < 10 → n * 10 + d < 10 ^ (i + 1)
pow_more i n d h l = rw add-one (omega (arith, pow-suc 10 i))

-- one digit more
pub read_more : (word : List ℕ) (i depth d n : ℕ) → IsReadTo word i depth → i < length word
    → is_ascii_digit (get_or word i 0) ≡ true → d ≡ get_or word i 0 - 48 → n ≡ depth * 10 + d → IsReadTo word (i + 1) n
read_more word i depth d n so_far l is_digit e f =
    let v = value_of_digit (get_or word i 0) is_digit in
    let more = digits_value_more 10 word i l in
    let value = v.0 in
    let old = so_far.value in
    record {
      digits = All-more (λ c. is_ascii_digit c ≡ true) word i 0 l so_far.digits is_digit;
      value = grind arith;
      small = let s = pow_more i depth d so_far.small (omega (arith, v.1)) in omega (arith, s);
    }
