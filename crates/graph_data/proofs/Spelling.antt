-- The tokens that are written, one more at a time, and what is read of them.
use Rattle.std.proofs.Common.{◌≡◌, ◌∙◌, ◌+◌, ◌<◌, All, ap, append_assoc, get_or, length, List, [], ◌∷◌, ◌++◌, map, refl}
use Rattle.std.proofs.Common.{subst, sym, take, ℕ}
use Rattle.std.proofs.lemmas.List.{map-append, take_more}
use Rattle.std.proofs.lemmas.List.Elements.{All-push}
use Rattle.std.specs.Prelude.{Err, IfOk, Ok, OnOk, Result}
use Rattle.json.specs.Token.{Token, begin_array, key, string}
use Rattle.json.specs.Written.{Written, Writes}
use Rattle.graph_data.proofs.Arrays.{list_tokens-push}
use Rattle.graph_data.proofs.Readback.{claim_told}
use Rattle.graph_data.specs.declared.reading.Claim.{Claim}
use Rattle.graph_data.specs.declared.reading.source.Source.{Source}
use Rattle.graph_data.specs.Data.{claim_tokens, HaveOwnNames, IsClaim, left_in, list_tokens, member_tokens, plain_claim}
use Rattle.graph_data.specs.Data.{PlainClaim, PutsTokens, string_tokens}

-- nothing is appended yet
pub puts_none : (writer : Written) → PutsTokens writer writer (λ rest. rest)
puts_none writer = record { alone = refl; appended = λ rest. refl }

-- and then one token
pub puts_token : (old mid new : Written) (token : Token) (spelled : List Token → List Token)
    → PutsTokens old mid spelled → new.tokens ≡ mid.tokens ++ token ∷ [] → new.before ≡ mid.before
    → PutsTokens old new (λ rest. spelled (token ∷ rest))
puts_token old mid new token spelled so_far one alone = record {
  alone = alone ∙ so_far.alone;
  appended =
      λ rest. ap (λ ts. ts ++ rest) one ∙ append_assoc mid.tokens (token ∷ []) rest ∙ so_far.appended (token ∷ rest);
}

-- a string
pub puts_string : (old mid new : Written) (text wanted : List ℕ) (spelled : List Token → List Token) →
    PutsTokens old mid spelled → new.tokens ≡ mid.tokens ++ string text ∷ [] → new.before ≡ mid.before → text ≡ wanted →
    PutsTokens old new (λ rest. spelled (string wanted ∷ rest))
puts_string old mid new text wanted spelled so_far one alone same =
    puts_token old mid new (string wanted) spelled so_far (one ∙ ap (λ t. mid.tokens ++ string t ∷ []) same) alone

-- or several
pub puts_all : (old mid new : Written) (first second : List Token → List Token) → PutsTokens old mid first
    → PutsTokens mid new second → PutsTokens old new (λ rest. first (second rest))
puts_all old mid new first second so_far more =
    record { alone = more.alone ∙ so_far.alone; appended = λ rest. more.appended rest ∙ so_far.appended (second rest) }

-- the last token, by a result that is handed on
pub puts_last :
    {E : Type 0} (old mid new : Written) (token : Token) (spelled : List Token → List Token) (r : Result (Unit {0}) E)
    → PutsTokens old mid spelled → Writes r mid new token → OnOk r (PutsTokens old new (λ rest. spelled (token ∷ rest)))
puts_last old mid new token spelled (Ok x) so_far one = puts_token old mid new token spelled so_far one.ok one.room.0
puts_last old mid new token spelled (Err e) so_far one = tt

pub puts_same : (old new : Written) (first second : List Token → List Token) → PutsTokens old new first
    → ((rest : List Token) → first rest ≡ second rest) → PutsTokens old new second
puts_same old new first second so_far same =
    record { alone = so_far.alone; appended = λ rest. so_far.appended rest ∙ ap (λ ts. old.tokens ++ ts) (same rest) }

-- a string under a key
pub puts_string_at : (old mid new : Written) (name text wanted : List ℕ) (spelled : List Token → List Token)
    → PutsTokens old mid spelled → PutsTokens mid new (member_tokens name string_tokens text) → text ≡ wanted
    → PutsTokens old new (λ rest. spelled (key name ∷ string wanted ∷ rest))
puts_string_at old mid new name text wanted spelled so_far one same =
    puts_all old mid new spelled (member_tokens name string_tokens wanted) so_far
    (puts_same mid new (member_tokens name string_tokens text) (member_tokens name string_tokens wanted) one
    (λ rest. ap (λ t. key name ∷ string t ∷ rest) same))

-- one value more of a list, under a key
pub list_more : {A : Type 0} (name : List ℕ) (spelled : A → List Token → List Token) (old mid new : Written)
    (xs : List A) (i : ℕ) (x d : A) → i < length xs → x ≡ get_or xs i d →
    PutsTokens old mid (λ rest. key name ∷ begin_array ∷ list_tokens spelled (take i xs) rest) →
    PutsTokens mid new (spelled x) →
    PutsTokens old new (λ rest. key name ∷ begin_array ∷ list_tokens spelled (take (i + 1) xs) rest)
list_more name spelled old mid new xs i x d below is so_far more = record {
  alone = more.alone ∙ so_far.alone;
  appended = λ rest.
      more.appended rest ∙ so_far.appended (spelled x rest)
      ∙ ap (λ ts. old.tokens ++ key name ∷ begin_array ∷ ts)
      (ap (λ y. list_tokens spelled (take i xs) (spelled y rest)) is
      ∙ sym (ap (λ ys. list_tokens spelled ys rest) (take_more xs i d below)
      ∙ list_tokens-push spelled (take i xs) (get_or xs i d) rest));
}

-- the same of what `view` sees of the list
pub list_more_seen : {A B : Type 0} (name : List ℕ) (view : A → B) (spelled : B → List Token → List Token)
    (old mid new : Written) (xs : List A) (i : ℕ) (x d : A) → i < length xs → x ≡ get_or xs i d →
    PutsTokens old mid (λ rest. key name ∷ begin_array ∷ list_tokens spelled (map view (take i xs)) rest) →
    PutsTokens mid new (spelled (view x)) →
    PutsTokens old new (λ rest. key name ∷ begin_array ∷ list_tokens spelled (map view (take (i + 1) xs)) rest)
list_more_seen name view spelled old mid new xs i x d below is so_far more = record {
  alone = more.alone ∙ so_far.alone;
  appended = λ rest.
      more.appended rest ∙ so_far.appended (spelled (view x) rest)
      ∙ ap (λ ts. old.tokens ++ key name ∷ begin_array ∷ ts)
      (ap (λ y. list_tokens spelled (map view (take i xs)) (spelled (view y) rest)) is
      ∙ sym (ap (λ ys. list_tokens spelled (map view ys) rest) (take_more xs i d below)
      ∙ ap (λ ys. list_tokens spelled ys rest) (map-append view (take i xs) (get_or xs i d ∷ []))
      ∙ list_tokens-push spelled (map view (take i xs)) (view (get_or xs i d)) rest));
}

-- a list that was read has one value more
pub map_push : {A B : Type 0} (view : A → B) (old new : List A) (x : A) → new ≡ old ++ x ∷ []
    → map view new ≡ map view old ++ view x ∷ []
map_push view old new x h = ap (map view) h ∙ map-append view old (x ∷ [])

pub All-more : {A : Type 0} (P : A → Type 0) (old new : List A) (x : A)
    → new ≡ old ++ x ∷ [] → All P old → P x → All P new
All-more P old new x same all one = subst (All P) (sym same) (All-push P old x all one)

-- what was written for a graph is read as the same graph
pub same_claim : {E : Type 0} (names : List (List ℕ)) (source : Source) (after : List Token) (r : Result Claim E) →
    IfOk r (λ claim. left_in source ≡ claim_tokens names (plain_claim claim) after) →
    IfOk r (λ claim. IsClaim names (plain_claim claim)) →
    IfOk r (λ claim. (written : PlainClaim) (rest : List Token) → HaveOwnNames names → IsClaim names written →
    left_in source ≡ claim_tokens names written rest → plain_claim claim ≡ written)
same_claim names source after (Ok claim) spelled named = λ written rest own named_too same.
    (claim_told names own (plain_claim claim) written after rest named named_too (sym spelled ∙ same)).0
same_claim names source after (Err e) spelled named = tt
