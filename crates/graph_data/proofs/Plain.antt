-- A line that says something is ASCII.
use Rattle.std.proofs.Common.{◌≡◌, ◌≢◌, ◌<◌, ℕ, arith, Bool, codes, false, get_or, inl, inr, length, List, [], ◌∷◌}
use Rattle.std.proofs.Common.{subst, suc, sym, true, zero}
use Rattle.std.specs.Prelude.{◌==◌, filter, nat_lt}
use Rattle.std.specs.List.{AllByRecursion, AllPass, AllZip, onto_first, slice_split}
use Rattle.std.specs.Char.{is_ascii_digit}
use Rattle.std.specs.Str.{IsUtf8}
use Rattle.std.proofs.lemmas.Bool.{cases_Bool, cond-true, lt-ltb}
use Rattle.std.proofs.lemmas.List.Elements.{All-head, All-tail}
use Rattle.std.proofs.lemmas.List.Splits.{slice_split-cons_no, slice_split-cons_yes}
use Rattle.std.proofs.lemmas.Str.{IsUtf8-from_ascii}
use Rattle.line_texts.specs.Lines.{IsName, is_name_byte, words_of}
use Rattle.rule_tables.specs.Grammar.{Ask, head_word, IsAsk, IsQuestion, IsRule, letter_of, NamedQuestion, Nothing}
use Rattle.rule_tables.specs.Grammar.{Rule, Says, Statement}
use Rattle.path_kinds.specs.declared.path.PathKind.{PathKind}
use Rattle.path_kinds.specs.declared.path.PathKind.TheVariants.{Coinductive, ForcedAmbiguity, Inductive, Unknown}
use Rattle.graph_data.specs.Rules.{if_something}

-- an ASCII byte that ends no line
pub record IsPlain (byte : ℕ) : Type 0 where
  pub is_ascii : byte < 128
  pub ends_none : byte ≢ 10

abbrev pub ArePlain : List ℕ → Type 0
ArePlain = AllByRecursion IsPlain

is_plain : (byte : ℕ) → byte < 128 → 10 < byte → IsPlain byte
is_plain byte high low = record { is_ascii = high; ends_none = λ e. omega arith }

name_byte : (byte : ℕ) → is_name_byte byte ≡ true → IsPlain byte
name_byte byte h = let low : (byte < 128) × (10 < byte) = grind arith in is_plain byte low.0 low.1

digit_byte : (byte : ℕ) → is_ascii_digit byte ≡ true → IsPlain byte
digit_byte byte h = let low : (byte < 128) × (10 < byte) = grind arith in is_plain byte low.0 low.1

all_plain : (p : ℕ → Bool) → ((byte : ℕ) → p byte ≡ true → IsPlain byte)
    → (bytes : List ℕ) → AllPass p bytes → ArePlain bytes
all_plain p plain [] h = tt
all_plain p plain (byte ∷ bytes) h = (
  plain byte (All-head (λ x. p x ≡ true) byte bytes h),
  all_plain p plain bytes (All-tail (λ x. p x ≡ true) byte bytes h),
)

plain_head : (is_marked : Bool) (name : List ℕ) → ArePlain name → ArePlain (head_word is_marked name)
plain_head true name h = (is_plain 126 (omega arith) (omega arith), h)
plain_head false name h = h

plain_letter : (kind : PathKind) → IsPlain (letter_of kind)
plain_letter Inductive = is_plain 105 (omega arith) (omega arith)
plain_letter Unknown = is_plain 117 (omega arith) (omega arith)
plain_letter Coinductive = is_plain 99 (omega arith) (omega arith)
plain_letter ForcedAmbiguity = is_plain 102 (omega arith) (omega arith)

pub plain_name : (name : List ℕ) → IsName name → ArePlain name
plain_name name h = all_plain is_name_byte name_byte name h.bytes

plain_questions : (words : List (List ℕ)) (questions : List NamedQuestion)
    → AllZip IsQuestion words questions → AllByRecursion ArePlain words
plain_questions [] questions h = tt
plain_questions (word ∷ words) [] h = absurd h
plain_questions (word ∷ words) (question ∷ questions) h = (
  subst ArePlain (sym h.0.spelled)
      (plain_letter question.kind, (is_plain 58 (omega arith) (omega arith), plain_name question.name h.0.is_name)),
  plain_questions words questions h.1,
)

plain_word_rule : ArePlain (codes "rule")
plain_word_rule = (
  is_plain 114 (omega arith) (omega arith),
  (
    is_plain 117 (omega arith) (omega arith),
    (is_plain 108 (omega arith) (omega arith), (is_plain 101 (omega arith) (omega arith), tt)),
  ),
)

plain_word_ask : ArePlain (codes "ask")
plain_word_ask = (
  is_plain 97 (omega arith) (omega arith),
  (is_plain 115 (omega arith) (omega arith), (is_plain 107 (omega arith) (omega arith), tt)),
)

plain_rule : (words : List (List ℕ)) (is_marked : Bool) (name : List ℕ) (questions : List NamedQuestion)
    → IsRule words is_marked name questions → AllByRecursion ArePlain words
plain_rule words is_marked name questions h =
    subst (AllByRecursion ArePlain) (sym h.spelled) (
      plain_word_rule,
      (
        plain_head is_marked name (plain_name name h.is_name),
        ((is_plain 61 (omega arith) (omega arith), tt), plain_questions h.asked questions h.are_questions),
      ),
    )

plain_ask : (words : List (List ℕ)) (depth : ℕ) (name : List ℕ) → IsAsk words depth name → AllByRecursion ArePlain words
plain_ask words depth name h =
    subst (AllByRecursion ArePlain) (sym h.spelled)
    (plain_word_ask, (all_plain is_ascii_digit digit_byte h.digits h.is_depth.digits, (plain_name name h.is_name, tt)))

-- parts without a byte are no words
parts_of_words : (parts : List (List ℕ))
    → AllByRecursion ArePlain (filter (λ word. nat_lt 0 (length word)) parts) → AllByRecursion ArePlain parts
parts_of_words [] h = tt
parts_of_words ([] ∷ parts) h = (tt, parts_of_words parts h)
parts_of_words ((byte ∷ bytes) ∷ parts) h =
    let words = filter (λ word. nat_lt 0 (length word)) parts in
    let all = subst (AllByRecursion ArePlain) (cond-true (nat_lt 0 (length (byte ∷ bytes))) ((byte ∷ bytes) ∷ words)
    words (lt-ltb 0 (length (byte ∷ bytes)) (omega arith))) h in
    (all.0, parts_of_words parts all.1)

onto_plain : (byte : ℕ) (parts : List (List ℕ)) → AllByRecursion ArePlain (onto_first byte parts)
    → IsPlain byte × AllByRecursion ArePlain parts
onto_plain byte [] h = (h.0.0, tt)
onto_plain byte (part ∷ parts) h = (h.0.0, (h.0.1, h.1))

-- a byte of a line is a space, or it stands in a word
plain_line : (line : List ℕ) → AllByRecursion ArePlain (slice_split (λ byte. byte == 32) line) → ArePlain line
plain_line [] h = tt
plain_line (byte ∷ bytes) h = elim (cases_Bool (byte == 32)) [
  | inl w ↦
      let rest = subst (AllByRecursion ArePlain) (slice_split-cons_yes (λ byte. byte == 32) byte bytes w) h in
      (is_plain byte (grind arith) (grind arith), plain_line bytes rest.1)
  | inr w ↦
      let rest = onto_plain byte (slice_split (λ byte. byte == 32) bytes)
      (subst (AllByRecursion ArePlain) (slice_split-cons_no (λ byte. byte == 32) byte bytes w) h) in
      (rest.0, plain_line bytes rest.1)
]

-- whatever a line says but nothing
pub something_is_plain : (line : List ℕ) (s : Statement) (t : Statement) (rest : List Statement)
    → if_something s ≡ t ∷ rest → Says line s → ArePlain line
something_is_plain line Nothing t rest e says = absurd cc
something_is_plain line (Rule is_marked name questions) t rest e says = plain_line line
    (parts_of_words (slice_split (λ byte. byte == 32) line) (plain_rule (words_of line) is_marked name questions says))
something_is_plain line (Ask depth name) t rest e says =
    plain_line line (parts_of_words (slice_split (λ byte. byte == 32) line) (plain_ask (words_of line) depth name says))

is_ascii_at : (bytes : List ℕ) → ArePlain bytes → (i : ℕ) → get_or bytes i 0 < 128
is_ascii_at [] h i = omega arith
is_ascii_at (byte ∷ bytes) h zero = h.0.is_ascii
is_ascii_at (byte ∷ bytes) h (suc i) = is_ascii_at bytes h.1 i

pub plain_is_utf8 : (bytes : List ℕ) → ArePlain bytes → IsUtf8 bytes
plain_is_utf8 bytes h = IsUtf8-from_ascii bytes (is_ascii_at bytes h)
