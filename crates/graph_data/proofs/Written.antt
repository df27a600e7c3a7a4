-- A page of data as it is written.
use Rattle.std.proofs.Common.{◌≡◌, ◌∙◌, ℕ, ap, codes, List, [], ◌∷◌, ◌++◌, Option, refl, subst, sym}
use Rattle.std.proofs.KnownBytes.{Appends-trans}
use Rattle.std.proofs.lemmas.List.{append-nil}
use Rattle.std.specs.Io.KnownBytes.{Appends}
use Rattle.std.specs.Prelude.{Err, Ok, OnOk, Result}
use Rattle.std.specs.Str.{IsUtf8}
use Rattle.json.specs.Lex.{tokens}
use Rattle.json.specs.Print.{print}
use Rattle.json.specs.Token.{Token, end_array, end_object}
use Rattle.json.specs.Written.{Written}
use Rattle.graph_data.proofs.Arrays.{list_tokens-push}
use Rattle.graph_data.proofs.Names.{have_texts}
use Rattle.graph_data.specs.Below.{names_of, Rules}
use Rattle.graph_data.specs.Data.{claim_tokens, HaveTexts, list_tokens, PlainClaim, PutsTokens, string_tokens}
use Rattle.graph_data.specs.Page.{begun_page, text_of}
use Rattle.graph_data.specs.Page.{IsBegun, WritesPage}

-- the lines, some more at a time
list_tokens-append : (xs ys : List (List ℕ)) (rest : List Token)
    → list_tokens string_tokens (xs ++ ys) rest ≡ list_tokens string_tokens xs (list_tokens string_tokens ys rest)
list_tokens-append [] ys rest = refl
list_tokens-append (x ∷ xs) ys rest = ap (string_tokens x) (list_tokens-append xs ys rest)

pub lines_more : (old mid new : Written) (start : List Token → List Token) (some more : List (List ℕ)) →
    PutsTokens old mid (λ rest. start (list_tokens string_tokens some rest)) →
    PutsTokens mid new (list_tokens string_tokens more) →
    PutsTokens old new (λ rest. start (list_tokens string_tokens (some ++ more) rest))
lines_more old mid new start some more so_far one = record {
  alone = one.alone ∙ so_far.alone;
  appended = λ rest. one.appended rest ∙ so_far.appended (list_tokens string_tokens more rest)
      ∙ ap (λ ts. old.tokens ++ start ts) (sym (list_tokens-append some more rest));
}

module _ (rules : Rules) where
  -- and then one more
  pub claim_added : (old new : Written) (claims : List PlainClaim) (claim : PlainClaim)
      → PutsTokens old new (claim_tokens (names_of rules) claim) → IsBegun rules old claims
      → IsBegun rules new (claims ++ claim ∷ [])
  claim_added old new claims claim more so_far = record {
    lines = so_far.lines;
    reads = so_far.reads;
    alone = more.alone ∙ so_far.alone;
    spelled = λ rest. more.appended rest ∙ so_far.spelled (claim_tokens (names_of rules) claim rest)
        ∙ ap (begun_page so_far.lines) (sym (list_tokens-push (claim_tokens (names_of rules)) claims claim rest));
  }

  pub claims_added : {E : Type 0} (old new : Written) (claim : PlainClaim) (added : List PlainClaim)
      (result : Result (Unit {0}) E) → added ≡ claim ∷ [] →
      (HaveTexts (names_of rules) → OnOk result (PutsTokens old new (claim_tokens (names_of rules) claim))) →
      OnOk result ((claims : List PlainClaim) → IsBegun rules old claims → IsBegun rules new (claims ++ added))
  claims_added old new claim added (Ok u) one more = λ claims so_far.
      subst (λ cs. IsBegun rules new (claims ++ cs)) (sym one)
      (claim_added old new claims claim (more (have_texts (text_of so_far.lines) rules so_far.reads)) so_far)
  claims_added old new claim added (Err e) one more = tt

  -- the end of a page, and a newline
  pub page_written : (writer ended : Written) (text : List ℕ) (claims : List PlainClaim)
      (old mid new : Option (List ℕ)) → IsBegun rules writer claims →
      PutsTokens writer ended (λ rest. end_array ∷ end_object ∷ rest) → text ≡ ended.before ++ print ended.tokens →
      tokens (print ended.tokens) ≡ ended.tokens → IsUtf8 (print ended.tokens) → Appends old mid text →
      Appends mid new (codes "\n") → WritesPage rules claims old new
  page_written writer ended text claims old mid new begun end is_text back utf8 first second named =
      let spelled = sym (append-nil ended.tokens) ∙ end.appended [] ∙ begun.spelled (end_array ∷ end_object ∷ []) in
      let same : text ≡ print ended.tokens =
      is_text ∙ ap (λ bytes. bytes ++ print ended.tokens) (end.alone ∙ begun.alone) in
      record {
        text = print ended.tokens;
        is_utf8 = utf8;
        is_page = record { lines = begun.lines; reads = begun.reads; named = named; are_its = back ∙ spelled };
        written =
            Appends-trans old mid new (print ended.tokens) (codes "\n") (subst (Appends old mid) same first) second;
      }
