-- What the lines of a page say.
use Rattle.std.proofs.Common.{◌+◌, All, None, Option, ◌≡◌, ◌∙◌, ◌<◌, ℕ, ap, append_assoc, arith, false, get_or, inl}
use Rattle.std.proofs.Common.{inr, length, List, [], ◌∷◌, ◌++◌, refl, subst, sym, take}
use Rattle.std.specs.Prelude.{◌==◌}
use Rattle.std.specs.List.{AllByRecursion, AllZip, cons_option, filter_map, flat_map}
use Rattle.std.specs.Str.{IsUtf8}
use Rattle.std.proofs.lemmas.Bool.{cases_Bool}
use Rattle.std.proofs.lemmas.Grind.{flat_map-append}
use Rattle.std.proofs.lemmas.List.{append-nil, take_all, take_more}
use Rattle.std.proofs.lemmas.List.Elements.{All-from_recursion}
use Rattle.std.proofs.lemmas.List.Splits.{slice_split_at}
use Rattle.line_texts.specs.Lines.{lines_of}
use Rattle.rule_tables.specs.Grammar.{Ask, Nothing, Rule, Says, Statement}
use Rattle.rule_tables.specs.Table.{candidate_in, first_mentions, IsCandidate, IsToBeAnswered, names_in, question_in}
use Rattle.rule_tables.specs.Rules.{candidates_of, names_of, questions_of}
use Rattle.rule_tables.proofs.Questions.{AllZip-append_one}
use Rattle.graph_data.proofs.Lists.{AllZip-append}
use Rattle.graph_data.proofs.Plain.{ArePlain, plain_is_utf8, something_is_plain}
use Rattle.graph_data.specs.Page.{text_of}
use Rattle.graph_data.specs.Rules.{if_something, MakesTheSame, SayTheSame}

-- the statements but those that say nothing
abbrev spoken : List Statement → List Statement
spoken = flat_map if_something

-- these lines say what those say
abbrev pub AreSaid : List (List ℕ) → List (List ℕ) → Type 0
AreSaid some lines = (statements : List Statement) → AllZip Says some statements → AllZip Says lines (spoken statements)

says_plain : (lines : List (List ℕ)) (statements : List Statement)
    → AllByRecursion (λ s. if_something s ≡ s ∷ []) statements
    → AllZip Says lines statements → AllByRecursion ArePlain lines
says_plain [] statements some says = tt
says_plain (line ∷ lines) [] some says = absurd says
says_plain (line ∷ lines) (s ∷ statements) some says =
    (something_is_plain line s s [] some.0 says.0, says_plain lines statements some.1 says.1)

spoken_is_something : (statements : List Statement) → AllByRecursion (λ s. if_something s ≡ s ∷ []) (spoken statements)
spoken_is_something [] = tt
spoken_is_something (Nothing ∷ statements) = spoken_is_something statements
spoken_is_something (Rule is_marked name questions ∷ statements) = (refl, spoken_is_something statements)
spoken_is_something (Ask depth name ∷ statements) = (refl, spoken_is_something statements)

no_newline : (line : List ℕ) → ArePlain line → All (λ byte. (byte == 10) ≡ false) line
no_newline line plain = All-from_recursion _ line (by_recursion line plain) where
  by_recursion : (bytes : List ℕ) → ArePlain bytes → AllByRecursion (λ byte. (byte == 10) ≡ false) bytes
  by_recursion [] h = tt
  by_recursion (byte ∷ bytes) h = (
    elim (cases_Bool (byte == 10)) [ inl w ↦ absurd (h.0.ends_none (grind arith)) | inr w ↦ w ],
    by_recursion bytes h.1,
  )

lines_of-text_of : (lines : List (List ℕ)) → AllByRecursion ArePlain lines → lines_of (text_of lines) ≡ lines ++ [] ∷ []
lines_of-text_of [] plain = refl
lines_of-text_of (line ∷ lines) plain =
    ap lines_of (append_assoc line (10 ∷ []) (text_of lines))
    ∙ slice_split_at (λ byte. byte == 10) line 10 (text_of lines) (no_newline line plain.0) refl
    ∙ ap (λ others. line ∷ others) (lines_of-text_of lines plain.1)

names_in_spoken : (statements : List Statement)
    → flat_map names_in (spoken statements ++ Nothing ∷ []) ≡ flat_map names_in statements
names_in_spoken [] = refl
names_in_spoken (Nothing ∷ statements) = names_in_spoken statements
names_in_spoken (Rule is_marked name questions ∷ statements) =
    ap (λ names. names_in (Rule is_marked name questions) ++ names) (names_in_spoken statements)
names_in_spoken (Ask depth name ∷ statements) =
    ap (λ names. names_in (Ask depth name) ++ names) (names_in_spoken statements)

kept_in_spoken : {A : Type 0} (kept : Statement → Option A) → kept Nothing ≡ None → (statements : List Statement)
    → filter_map kept (spoken statements ++ Nothing ∷ []) ≡ filter_map kept statements
kept_in_spoken kept none [] = rw none refl
kept_in_spoken kept none (Nothing ∷ statements) = rw none (kept_in_spoken kept none statements)
kept_in_spoken kept none (Rule is_marked name questions ∷ statements) =
    ap (cons_option (kept (Rule is_marked name questions))) (kept_in_spoken kept none statements)
kept_in_spoken kept none (Ask depth name ∷ statements) =
    ap (cons_option (kept (Ask depth name))) (kept_in_spoken kept none statements)

-- so they make the same rules
makes_the_same : (text : List ℕ) (lines : List (List ℕ))
    → AreSaid (lines_of text) lines → MakesTheSame text (text_of lines)
makes_the_same text lines says rules reads =
    let statements : List Statement = reads.statements in
    let said : AllZip Says lines (spoken statements) = says statements reads.lines in
    let split = lines_of-text_of lines (says_plain lines (spoken statements) (spoken_is_something statements) said) in
    record {
      statements = spoken statements ++ Nothing ∷ [];
      lines = subst (λ all. AllZip Says all (spoken statements ++ Nothing ∷ [])) (sym split)
          (AllZip-append_one Says lines (spoken statements) [] Nothing said tt);
      table = record {
        names = reads.table.names ∙ ap first_mentions (sym (names_in_spoken statements));
        candidates = λ goal name is. subst (AllZip (IsCandidate (names_of rules)) (candidates_of rules goal))
            (sym (kept_in_spoken (candidate_in name) refl statements)) (reads.table.candidates goal name is);
        questions = subst (AllZip (IsToBeAnswered (names_of rules)) (questions_of rules))
            (sym (kept_in_spoken question_in refl statements)) reads.table.questions;
      };
    }

-- ---- the lines so far

pub none_said : AreSaid [] []
none_said [] says = tt
none_said (s ∷ statements) says = absurd says

-- one line more
said_more : (some lines : List (List ℕ)) (line : List ℕ) (more : List (List ℕ)) → AreSaid some lines
    → SayTheSame line more → AreSaid (some ++ line ∷ []) (lines ++ more)
said_more some lines line more so_far one statements says =
    let parts = last_of some statements says in
    subst (AllZip Says (lines ++ more)) (sym (ap spoken parts.2 ∙ flat_map-append if_something parts.0 (parts.1 ∷ [])
    ∙ ap (λ rest. spoken parts.0 ++ rest) (append-nil (if_something parts.1))))
    (AllZip-append Says lines more (spoken parts.0) (if_something parts.1)
    (so_far parts.0 parts.3) (one parts.1 parts.4)) where
      last_of : (some : List (List ℕ)) (statements : List Statement) → AllZip Says (some ++ line ∷ []) statements →
          (front : List Statement) × (last : Statement) × (statements ≡ front ++ last ∷ [])
          × AllZip Says some front × Says line last
      last_of [] [] h = absurd h
      last_of [] (s ∷ []) h = ([], s, refl, tt, h.0)
      last_of [] (s ∷ t ∷ statements) h = absurd h.1
      last_of (first ∷ some) [] h = absurd h
      last_of (first ∷ some) (s ∷ statements) h =
          let rest = last_of some statements h.1 in
          (s ∷ rest.0, rest.1, ap (λ ss. s ∷ ss) rest.2, (h.0, rest.3), rest.4)

-- the next line of a text
pub next_said : (all lines : List (List ℕ)) (i : ℕ) (line : List ℕ) (more : List (List ℕ))
    → (i < length all) × (line ≡ get_or all i line) → AreSaid (take i all) lines → SayTheSame line more
    → AreSaid (take (i + 1) all) (lines ++ more)
next_said all lines i line more at so_far one =
    subst (λ some. AreSaid some (lines ++ more))
    (sym (take_more all i line at.0 ∙ ap (λ l. take i all ++ l ∷ []) (sym at.1)))
    (said_more (take i all) lines line more so_far one)

-- and the last one
pub all_said : (text : List ℕ) (lines : List (List ℕ)) (i : ℕ) → i ≡ length (lines_of text)
    → AreSaid (take i (lines_of text)) lines → MakesTheSame text (text_of lines)
all_said text lines i end so_far =
    makes_the_same text lines (subst (λ some. AreSaid some lines) (take_all i (lines_of text) (omega arith)) so_far)

-- a line that is written, and one that says nothing
pub line_written : (line text : List ℕ) → (Says line Nothing → ⊥)
    → (IsUtf8 line → text ≡ line) → SayTheSame line (text ∷ [])
line_written line text something same Nothing says = absurd (something says)
line_written line text something same (Rule is_marked name questions) says =
    let plain = something_is_plain line (Rule is_marked name questions) (Rule is_marked name questions) [] refl says in
    (subst (λ l. Says l (Rule is_marked name questions)) (sym (same (plain_is_utf8 line plain))) says, tt)
line_written line text something same (Ask depth name) says =
    let plain = something_is_plain line (Ask depth name) (Ask depth name) [] refl says in
    (subst (λ l. Says l (Ask depth name)) (sym (same (plain_is_utf8 line plain))) says, tt)
