-- What a reader's known bytes say of what was read, and where a slice ends.
use Rattle.std.proofs.Common.{◌≡◌, ℕ, List, [], ◌++◌, Option, Some, None, ap, sym, arith, ◌∙◌, append_assoc, drop}
use Rattle.std.proofs.Common.{length, length-drop, take}
use Rattle.std.proofs.lemmas.List.{append-nil, take_all}
use Rattle.std.specs.Prelude.{◌-◌, IfSome}
use Rattle.std.specs.Io.KnownBytes.{Consumes, IsAtEnd}

-- two reads in turn
pub consumes_more : (a b c : Option (List ℕ)) (xs ys : List ℕ) → Consumes a b xs
    → Consumes b c ys → Consumes a c (xs ++ ys)
consumes_more None b c xs ys h g = tt
consumes_more (Some s) None c xs ys h g = absurd h
consumes_more (Some s) (Some t) None xs ys h g = absurd g
consumes_more (Some s) (Some t) (Some u) xs ys h g = h ∙ ap (λ w. xs ++ w) g ∙ sym (append_assoc xs ys u)

-- the last read gave nothing
pub all_consumed : (a b c : Option (List ℕ)) (xs : List ℕ) → Consumes a b xs → Consumes b c []
    → IsAtEnd c → IfSome a (λ bytes. xs ≡ bytes)
all_consumed None b c xs h g end = tt
all_consumed (Some s) None c xs h g end = absurd h
all_consumed (Some s) (Some t) None xs h g end = absurd g
all_consumed (Some s) (Some t) (Some u) xs h g end = sym (h ∙ ap (λ w. xs ++ w) (g ∙ end) ∙ append-nil xs)

-- a slice to the end
pub to_end : (bytes : List ℕ) (n : ℕ) → take (length bytes - n) (drop n bytes) ≡ drop n bytes
to_end bytes n = let l = length-drop n bytes in take_all (length bytes - n) (drop n bytes) (omega arith)
