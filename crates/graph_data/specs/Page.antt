-- A whole page of data.
use Rattle.std.specs.Prelude.{◌≡◌, ℕ, ◌++◌, All, List, [], ◌∷◌, codes, Option}
use Rattle.std.specs.Io.KnownBytes.{Appends}
use Rattle.std.specs.List.{flat_map}
use Rattle.std.specs.Str.{IsUtf8}
use Rattle.json.specs.Lex.{tokens}
use Rattle.json.specs.Token.{Token, begin_array, begin_object, end_object, key}
use Rattle.json.specs.Written.{Written}
use Rattle.graph_data.specs.Below.{names_of, Reads, Rules}
use Rattle.graph_data.specs.Data.{array_tokens, claim_tokens, IsClaim, list_tokens, PlainClaim, string_tokens}

-- the lines of the rules, and then the answers
abbrev pub begun_page : List (List ℕ) → List Token → List Token
begun_page lines rest =
    begin_object ∷ key (codes "rules") ∷ array_tokens string_tokens lines (key (codes "answers") ∷ begin_array ∷ rest)

-- which are claims
abbrev pub page_tokens : List (List ℕ) → List (List ℕ) → List PlainClaim → List Token → List Token
page_tokens lines names claims rest =
    begin_object ∷ key (codes "rules") ∷ array_tokens string_tokens lines
    (key (codes "answers") ∷ array_tokens (claim_tokens names) claims (end_object ∷ rest))

-- a text of these lines
abbrev pub text_of : List (List ℕ) → List ℕ
text_of lines = flat_map (λ line. line ++ codes "\n") lines

-- Lines that make these rules stand first on the page.
pub record HasRules (tokens : List Token) (rules : Rules) (rest : List Token) : Type 0 where
  pub lines : List (List ℕ)
  pub reads : Reads (text_of lines) rules
  pub are_its : tokens ≡ begin_object ∷ key (codes "rules") ∷ array_tokens string_tokens lines rest

-- These tokens and no others are the page's. Its lines make the rules, and the claims are about these.
pub record IsPage (tokens : List Token) (rules : Rules) (claims : List PlainClaim) : Type 0 where
  pub lines : List (List ℕ)
  pub reads : Reads (text_of lines) rules
  pub named : All (IsClaim (names_of rules)) claims
  pub are_its : tokens ≡ page_tokens lines (names_of rules) claims []

pub record AreOfPage (tokens : List Token) : Type 0 where
  pub rules : Rules
  pub claims : List PlainClaim
  pub is_page : IsPage tokens rules claims

-- the text is a page of data
abbrev pub IsPageText : List ℕ → Type 0
IsPageText text = IsUtf8 text × AreOfPage (tokens text)

-- ---- what is written

-- The writer has the beginning of a page, with lines that make the rules, and these claims.
pub record IsBegun (rules : Rules) (writer : Written) (claims : List PlainClaim) : Type 0 where
  pub lines : List (List ℕ)
  pub reads : Reads (text_of lines) rules
  pub alone : writer.before ≡ []
  pub spelled : (rest : List Token)
      → writer.tokens ++ rest ≡ begun_page lines (list_tokens (claim_tokens (names_of rules)) claims rest)

-- The text of a page was written, and a newline. The page has the rules and these claims.
pub record IsWrittenPage (rules : Rules) (claims : List PlainClaim) (old new : Option (List ℕ)) : Type 0 where
  pub text : List ℕ
  pub is_utf8 : IsUtf8 text
  pub is_page : IsPage (tokens text) rules claims
  pub written : Appends old new (text ++ codes "\n")

-- It was, if each goal in the claims has a name.
abbrev pub WritesPage : Rules → List PlainClaim → Option (List ℕ) → Option (List ℕ) → Type 0
WritesPage rules claims old new = All (IsClaim (names_of rules)) claims → IsWrittenPage rules claims old new
