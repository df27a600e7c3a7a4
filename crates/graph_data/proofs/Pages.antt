-- A page of data, and the rules on it.
use Rattle.std.proofs.Common.{◌≡◌, ◌∙◌, ℕ, All, ap, append_assoc, codes, drop, List, [], ◌∷◌, ◌++◌, None, Option, Some}
use Rattle.std.proofs.Common.{subst, sym}
use Rattle.std.specs.Prelude.{⊤, Err, IfOk, IsSomeAnd, Ok, Result, MatchOption, slice_get}
use Rattle.std.proofs.lemmas.List.{flat_map_more}
use Rattle.std.proofs.lemmas.Slice.Zip.{AllZip-left}
use Rattle.json.specs.Token.{Token, begin_object, end_array, end_object, key}
use Rattle.line_texts.specs.Lines.{lines_of}
use Rattle.rule_tables.specs.Grammar.{Says}
use Rattle.rule_tables.specs.Table.{IsTableOf}
use Rattle.graph_data.proofs.Arrays.{array_told, Tells}
use Rattle.graph_data.specs.Ends.{array_ends, array_tail, claim_parts, Parts}
use Rattle.graph_data.proofs.Lists.{zip_one}
use Rattle.graph_data.proofs.Names.{have_own_names}
use Rattle.graph_data.proofs.Readback.{claim_tells}
use Rattle.graph_data.proofs.SameRules.{same_rules}
use Rattle.graph_data.proofs.Statements.{says_one}
use Rattle.graph_data.specs.Below.{IsFirstBadLine, names_of, Reads, Rules}
use Rattle.graph_data.specs.Data.{array_tokens, claim_tokens, IsClaim, list_tokens, member_tokens, PlainClaim}
use Rattle.graph_data.specs.Data.{Spells, string_tokens}
use Rattle.graph_data.specs.Page.{AreOfPage, HasRules, IsPage, text_of}
use Rattle.graph_data.specs.Rules.{AreSameRules}

-- a text makes one table
pub one_table : (text : List ℕ) (a b : Rules) → Reads text a → Reads text b → AreSameRules a b
one_table text a b p q =
    let statements =
    zip_one Says (λ line s t h k. says_one _ s t h k) (lines_of text) p.statements q.statements p.lines q.lines in
    same_rules q.statements a b (have_own_names text a p) (subst (λ ss. IsTableOf ss a) statements p.table) q.table

some_and : {A : Type 0} (P : A → Type 0) (o : Option A) → IsSomeAnd o P → (a : A) × P a
some_and P None none = absurd none
some_and P (Some a) some = (a, some)

-- and has no malformed line
pub reads_well : (text : List ℕ) (rules : Rules) (n : ℕ) → Reads text rules → IsFirstBadLine text n → ⊥
reads_well text rules n reads bad =
    let at =
    subst (λ line. MatchOption line (Unit {0}) (λ x. IsSomeAnd (slice_get reads.statements bad.before) (Says x)))
    bad.is_line (AllZip-left Says (lines_of text) reads.statements reads.lines bad.before) in
    let said = some_and (Says bad.line) (slice_get reads.statements bad.before) at in
    bad.is_malformed said.0 said.1

-- ---- what is left of a page

-- one line more
pub text_more : (lines : List (List ℕ)) (line old mid new : List ℕ) → old ≡ text_of lines → mid ≡ old ++ line
    → new ≡ mid ++ 10 ∷ [] → new ≡ text_of (lines ++ line ∷ [])
text_more lines line old mid new so_far one newline =
    newline ∙ ap (λ bytes. bytes ++ 10 ∷ []) (one ∙ ap (λ bytes. bytes ++ line) so_far)
    ∙ append_assoc (text_of lines) line (10 ∷ []) ∙ flat_map_more (λ l. l ++ codes "\n") [] lines line

pub line_parts : Parts string_tokens
line_parts = record { tail = λ x y r s h. cc; is_no_end = λ x r s h. absurd (cc) }

line_tells : Tells string_tokens (λ _. ⊤)
line_tells x y r s p q h = cc

-- a page tells its lines and what follows them
lines_told : (some others : List (List ℕ)) (r s : List Token)
    → begin_object ∷ key (codes "rules") ∷ array_tokens string_tokens some r
    ≡ begin_object ∷ key (codes "rules") ∷ array_tokens string_tokens others s → (some ≡ others) × (r ≡ s)
lines_told some others r s same =
    let same_list : list_tokens string_tokens some (end_array ∷ r) ≡ list_tokens string_tokens others (end_array ∷ s) =
    cc in (
      array_told string_tokens line_parts (λ _. ⊤) line_tells some others r s
          (λ k d below. tt) (λ k d below. tt) same_list,
      array_tail string_tokens line_parts some others r s same_list,
    )

-- the rules of the page's lines
module _ (whole t₁ : List Token) (begun : whole ≡ begin_object ∷ t₁) where
  pub lines_left : (rules : Rules) (rest : List Token) → HasRules whole rules rest
      → Spells (λ _. ⊤) (member_tokens (codes "rules") (array_tokens string_tokens)) t₁
  lines_left rules rest has =
      let its = has.are_its in record { value = has.lines; is_right = tt; rest = rest; are_its = cc }

  module _ (t₂ : List Token) (lines : List (List ℕ)) (text : List ℕ)
      (has_lines : t₁ ≡ member_tokens (codes "rules") (array_tokens string_tokens) lines t₂)
      (is_text : text ≡ text_of lines) where
    pub rules_read : {E : Type 0} (r : Result Rules E) → IfOk r (Reads text) → IfOk r (λ rules. HasRules whole rules t₂)
    rules_read (Ok rules) reads = record {
      lines = lines;
      reads = subst (λ t. Reads t rules) is_text reads;
      are_its = begun ∙ ap (λ ts. begin_object ∷ ts) has_lines;
    }
    rules_read (Err e) reads = tt

    pub text_reads : (rules : Rules) (rest : List Token) → HasRules whole rules rest → Reads text rules
    text_reads rules rest has =
        let same : has.lines ≡ lines =
        (lines_told has.lines lines rest t₂ (sym has.are_its ∙ begun ∙ ap (λ ts. begin_object ∷ ts) has_lines)).0 in
        subst (λ t. Reads t rules) (ap text_of same ∙ sym is_text) has.reads

-- what follows the rules
module _ (whole rest : List Token) (rules : Rules) (has : HasRules whole rules rest) where
  pub page_read : (t₁ : List Token) (claims : List PlainClaim)
      → rest ≡ member_tokens (codes "answers") (array_tokens (claim_tokens (names_of rules))) claims t₁
      → All (IsClaim (names_of rules)) claims → t₁ ≡ end_object ∷ [] → IsPage whole rules claims
  page_read t₁ claims has_claims named ended = record {
    lines = has.lines;
    reads = has.reads;
    named = named;
    are_its = has.are_its ∙ ap (λ ts. begin_object ∷ key (codes "rules") ∷ array_tokens string_tokens has.lines ts)
        (has_claims ∙ ap (λ ts. key (codes "answers") ∷ array_tokens (claim_tokens (names_of rules)) claims ts) ended);
  }

  module _ (page : AreOfPage whole) where
    told : (page.is_page.lines ≡ has.lines) × (key (codes "answers")
        ∷ array_tokens (claim_tokens (names_of page.rules)) page.claims (end_object ∷ []) ≡ rest)
    told = lines_told page.is_page.lines has.lines _ rest (sym page.is_page.are_its ∙ has.are_its)

    -- they are the same rules
    same_table : AreSameRules page.rules rules
    same_table = one_table (text_of has.lines) page.rules rules
        (subst (λ ls. Reads (text_of ls) page.rules) told.0 page.is_page.reads) has.reads

    names_read : names_of page.rules ≡ names_of rules
    names_read = sym same_table.names

    claims_and_end :
        rest ≡ key (codes "answers") ∷ array_tokens (claim_tokens (names_of rules)) page.claims (end_object ∷ [])
    claims_and_end = sym told.1 ∙ ap
        (λ names. key (codes "answers") ∷ array_tokens (claim_tokens names) page.claims (end_object ∷ [])) names_read

    claims_named : All (IsClaim (names_of rules)) page.claims
    claims_named = subst (λ names. All (IsClaim names) page.claims) names_read page.is_page.named

    pub claims_left : Spells (All (IsClaim (names_of rules)))
        (member_tokens (codes "answers") (array_tokens (claim_tokens (names_of rules)))) rest
    claims_left =
        record { value = page.claims; is_right = claims_named; rest = end_object ∷ []; are_its = claims_and_end }

    pub page_end : (t₁ : List Token) (claims : List PlainClaim)
        → rest ≡ member_tokens (codes "answers") (array_tokens (claim_tokens (names_of rules))) claims t₁
        → t₁ ≡ end_object ∷ []
    page_end t₁ claims has_claims = array_ends (claim_parts (names_of rules)) claims page.claims t₁ (end_object ∷ [])
        (ap (drop 1) (sym has_claims ∙ claims_and_end))

-- ---- so a page tells its claims

claims_in_array : (names : List (List ℕ)) (some others : List PlainClaim) →
    key (codes "answers") ∷ array_tokens (claim_tokens names) some (end_object ∷ [])
    ≡ key (codes "answers") ∷ array_tokens (claim_tokens names) others (end_object ∷ []) →
    list_tokens (claim_tokens names) some (end_array ∷ end_object ∷ [])
    ≡ list_tokens (claim_tokens names) others (end_array ∷ end_object ∷ [])
claims_in_array names some others same = cc

pub page_told : (whole : List Token) (written read : AreOfPage whole)
    → AreSameRules written.rules read.rules × (read.claims ≡ written.claims)
page_told whole written read =
    let names : List (List ℕ) = names_of read.rules in
    let rest : List Token = key (codes "answers") ∷ array_tokens (claim_tokens names) read.claims (end_object ∷ []) in
    let has : HasRules whole read.rules rest =
    record { lines = read.is_page.lines; reads = read.is_page.reads; are_its = read.is_page.are_its } in
    let same : rest ≡ key (codes "answers") ∷ array_tokens (claim_tokens names) written.claims (end_object ∷ []) =
    claims_and_end whole rest read.rules has written in
    let same_list : list_tokens (claim_tokens names) read.claims (end_array ∷ end_object ∷ [])
    ≡ list_tokens (claim_tokens names) written.claims (end_array ∷ end_object ∷ []) =
    claims_in_array names _ _ same in (
      same_table whole rest read.rules has written,
      array_told (claim_tokens names) (claim_parts names) (IsClaim names)
          (claim_tells names (have_own_names (text_of read.is_page.lines) read.rules read.is_page.reads)) read.claims
          written.claims _ _ read.is_page.named
          (claims_named whole rest read.rules has written) same_list,
    )
