-- Lines of rules and of questions that are written with numbers as names are read.
use Rattle.std.proofs.Common.{◌≡◌, ◌∙◌, ◌==◌, ℕ, ◌<◌, ◌^◌, Bool, true, false, cond, eqb}
use Rattle.std.proofs.Common.{List, [], ◌∷◌, ◌++◌, ap, arith, codes, length, map, refl, subst, sym}
use Rattle.std.specs.Fmt.{decimal}
use Rattle.std.specs.List.{All, AllZip, flat_map}
use Rattle.std.specs.Str.Parse.{digits_value}
use Rattle.std.proofs.lemmas.Fmt.{length-decimal-le}
use Rattle.std.proofs.lemmas.List.{append-nil}
use Rattle.std.proofs.lemmas.List.Elements.{All-append, All-cons, All-from_recursion, All-head, All-nil, All-same}
use Rattle.std.proofs.lemmas.List.Elements.{All-tail}
use Rattle.std.proofs.lemmas.List.Splits.{slice_split_at}
use Rattle.line_texts.specs.Lines.{lines_of, words_of}
use Rattle.rule_tables.specs.Grammar.{Ask, head_word, IsQuestion, NamedQuestion, Nothing, Rule, Says, Statement}
use Rattle.rule_tables.specs.Grammar as grammar
use Rattle.path_kinds.specs.declared.path.PathKind.{PathKind}
use Rattle.path_kinds.specs.declared.path.PathKind.TheVariants.{Coinductive, ForcedAmbiguity, Inductive, Unknown}
use Rattle.rule_arrays.specs.Table.{kind_of}
use Rattle.mirfodwel.specs.TableText.{letter_of, question_text}
use Rattle.rule_arrays.specs.declared.rows.QuestionRow.{QuestionRow}
use Rattle.mirfodwel.proofs.NumberWords.{digits, IsWithout, name_without, number_is_name, word_first, word_last}

-- the grammar allows each line
abbrev pub IsReadable : List ℕ → Type 0
IsReadable text = All (λ line. (s : Statement) × Says line s) (lines_of text)

pub none_to_read : IsReadable []
none_to_read = All-cons (λ line. (s : Statement) × Says line s) [] [] (Nothing, tt)
    (All-nil (λ line. (s : Statement) × Says line s))

one_more : (line rest : List ℕ) → IsWithout 10 line → (s : Statement) → Says line s → IsReadable rest →
    IsReadable (line ++ 10 ∷ rest)
one_more line rest without s says are =
    All-same (λ line. (s : Statement) × Says line s) (lines_of (line ++ 10 ∷ rest)) (line ∷ lines_of rest)
    (slice_split_at (λ byte. eqb byte 10) line 10 rest without refl)
    (All-cons (λ line. (s : Statement) × Says line s) line (lines_of rest) (s, says) are)

-- ---- a question of a rule

abbrev question_word : QuestionRow → List ℕ
question_word row = (letter_of row.kind ++ codes ":") ++ decimal row.goal

abbrev named_by : QuestionRow → NamedQuestion
named_by row = record { kind = kind_of row.kind; name = decimal row.goal }

letters : (a b c : Bool) → cond a (codes "i") (cond b (codes "u") (cond c (codes "c") (codes "f")))
    ≡ grammar.letter_of (cond a Inductive (cond b Unknown (cond c Coinductive ForcedAmbiguity))) ∷ []
letters true b c = refl
letters false true c = refl
letters false false true = refl
letters false false false = refl

spelled : (row : QuestionRow) →
    question_word row ≡ grammar.letter_of (kind_of row.kind) ∷ 58 ∷ decimal row.goal
spelled row =
    ap (λ (letter : List ℕ). (letter ++ codes ":") ++ decimal row.goal)
    (letters (row.kind == 0) (row.kind == 1) (row.kind == 2))

other_letter : (kind : PathKind) →
    (eqb (grammar.letter_of kind) 10 ≡ false) × (eqb (grammar.letter_of kind) 32 ≡ false)
other_letter Inductive = (refl, refl)
other_letter Unknown = (refl, refl)
other_letter Coinductive = (refl, refl)
other_letter ForcedAmbiguity = (refl, refl)

without_newline : (row : QuestionRow) → row.goal < 2 ^ 32 → IsWithout 10 (question_word row)
without_newline row small =
    let P : ℕ → Type 0 = λ b. eqb b 10 ≡ false in
    All-same P (question_word row) (grammar.letter_of (kind_of row.kind) ∷ 58 ∷ decimal row.goal) (spelled row)
    (All-cons P (grammar.letter_of (kind_of row.kind)) (58 ∷ decimal row.goal) (other_letter (kind_of row.kind)).0
    (All-cons P 58 (decimal row.goal) refl
    (name_without 10 (decimal row.goal) refl (number_is_name row.goal small))))

without_space : (row : QuestionRow) → row.goal < 2 ^ 32 → IsWithout 32 (question_word row)
without_space row small =
    let P : ℕ → Type 0 = λ b. eqb b 32 ≡ false in
    All-same P (question_word row) (grammar.letter_of (kind_of row.kind) ∷ 58 ∷ decimal row.goal) (spelled row)
    (All-cons P (grammar.letter_of (kind_of row.kind)) (58 ∷ decimal row.goal) (other_letter (kind_of row.kind)).1
    (All-cons P 58 (decimal row.goal) refl
    (name_without 32 (decimal row.goal) refl (number_is_name row.goal small))))

some_word : (row : QuestionRow) → 0 < length (question_word row)
some_word row = subst (λ (word : List ℕ). 0 < length word) (sym (spelled row)) (omega arith)

-- the goals of these questions are called by short names
abbrev pub HaveNames : List QuestionRow → Type 0
HaveNames rows = All (λ row. row.goal < 2 ^ 32) rows

words_then : (word : List ℕ) (rows : List QuestionRow) → IsWithout 32 word → 0 < length word → HaveNames rows →
    words_of (word ++ flat_map question_text rows) ≡ word ∷ map question_word rows
words_then word [] without some small = ap words_of (append-nil word) ∙ word_last word without some
words_then word (row ∷ rows) without some small =
    let goal : row.goal < 2 ^ 32 = All-head (λ row. row.goal < 2 ^ 32) row rows small in
    word_first word (question_word row ++ flat_map question_text rows) without some
    ∙ ap (λ words. word ∷ words) (words_then (question_word row) rows (without_space row goal) (some_word row)
    (All-tail (λ row. row.goal < 2 ^ 32) row rows small))

are_questions : (rows : List QuestionRow) → HaveNames rows →
    AllZip IsQuestion (map question_word rows) (map named_by rows)
are_questions [] small = tt
are_questions (row ∷ rows) small = (
  record {
    spelled = spelled row;
    is_name = number_is_name row.goal (All-head (λ row. row.goal < 2 ^ 32) row rows small);
  },
  are_questions rows (All-tail (λ row. row.goal < 2 ^ 32) row rows small),
)

without_newlines : (rows : List QuestionRow) → HaveNames rows → IsWithout 10 (flat_map question_text rows)
without_newlines [] small = All-nil (λ b. eqb b 10 ≡ false)
without_newlines (row ∷ rows) small =
    let P : ℕ → Type 0 = λ b. eqb b 10 ≡ false in
    All-append P (question_text row) (flat_map question_text rows)
    (All-cons P 32 (question_word row) refl
    (without_newline row (All-head (λ row. row.goal < 2 ^ 32) row rows small)))
    (without_newlines rows (All-tail (λ row. row.goal < 2 ^ 32) row rows small))

-- ---- a rule

abbrev pub rule_line : Bool → ℕ → List QuestionRow → List ℕ
rule_line is_marked number rows =
    codes "rule " ++ (head_word is_marked (decimal number) ++ (codes " =" ++ flat_map question_text rows))

head_without : (byte : ℕ) (is_marked : Bool) (name : List ℕ) → eqb 126 byte ≡ false → IsWithout byte name →
    IsWithout byte (head_word is_marked name)
head_without byte true name other without = All-cons (λ b. eqb b byte ≡ false) 126 name other without
head_without byte false name other without = without

some_head : (is_marked : Bool) (name : List ℕ) → 0 < length name → 0 < length (head_word is_marked name)
some_head true name some = omega arith
some_head false name some = some

rule_words : (is_marked : Bool) (number : ℕ) (rows : List QuestionRow) → number < 2 ^ 32 → HaveNames rows →
    words_of (rule_line is_marked number rows)
    ≡ codes "rule" ∷ head_word is_marked (decimal number) ∷ codes "=" ∷ map question_word rows
rule_words is_marked number rows small names =
    let name = number_is_name number small in
    ap (λ words. codes "rule" ∷ words)
    (word_first (head_word is_marked (decimal number)) (codes "=" ++ flat_map question_text rows)
    (head_without 32 is_marked (decimal number) refl (name_without 32 (decimal number) refl name))
    (some_head is_marked (decimal number) name.is_some)
    ∙ ap (λ words. head_word is_marked (decimal number) ∷ words)
    (words_then (codes "=") rows
    (All-cons (λ b. eqb b 32 ≡ false) 61 [] refl (All-nil (λ b. eqb b 32 ≡ false))) (omega arith) names))

rule_in_line : (is_marked : Bool) (number : ℕ) (rows : List QuestionRow) → number < 2 ^ 32 → HaveNames rows →
    IsWithout 10 (rule_line is_marked number rows)
rule_in_line is_marked number rows small names =
    let P : ℕ → Type 0 = λ b. eqb b 10 ≡ false in
    All-append P (codes "rule ") (head_word is_marked (decimal number) ++ (codes " =" ++ flat_map question_text rows))
    (All-from_recursion P (codes "rule ") (refl, (refl, (refl, (refl, (refl, tt))))))
    (All-append P (head_word is_marked (decimal number)) (codes " =" ++ flat_map question_text rows)
    (head_without 10 is_marked (decimal number) refl
    (name_without 10 (decimal number) refl (number_is_name number small)))
    (All-append P (codes " =") (flat_map question_text rows)
    (All-from_recursion P (codes " =") (refl, (refl, tt))) (without_newlines rows names)))

pub rule_reads : (is_marked : Bool) (number : ℕ) (rows : List QuestionRow) (rest : List ℕ) → number < 2 ^ 32 →
    HaveNames rows → IsReadable rest → IsReadable (rule_line is_marked number rows ++ 10 ∷ rest)
rule_reads is_marked number rows rest small names are =
    one_more (rule_line is_marked number rows) rest (rule_in_line is_marked number rows small names)
    (Rule is_marked (decimal number) (map named_by rows))
    (record {
      asked = map question_word rows;
      spelled = rule_words is_marked number rows small names;
      is_name = number_is_name number small;
      are_questions = are_questions rows names;
    })
    are

-- ---- a question of the text

abbrev pub ask_line : (depth goal : ℕ) → List ℕ
ask_line depth goal = codes "ask " ++ (decimal depth ++ (codes " " ++ decimal goal))

pub ask_reads : (depth goal : ℕ) (rest : List ℕ) → depth < 10 ^ 7 → goal < 2 ^ 32 → IsReadable rest →
    IsReadable (ask_line depth goal ++ 10 ∷ rest)
ask_reads depth goal rest shallow small are =
    let P : ℕ → Type 0 = λ b. eqb b 10 ≡ false in
    let depth_name = number_is_name depth (omega arith) in
    let name = number_is_name goal small in
    one_more (ask_line depth goal) rest
    (All-append P (codes "ask ") (decimal depth ++ (codes " " ++ decimal goal))
    (All-from_recursion P (codes "ask ") (refl, (refl, (refl, (refl, tt)))))
    (All-append P (decimal depth) (codes " " ++ decimal goal) (name_without 10 (decimal depth) refl depth_name)
    (All-cons P 32 (decimal goal) refl (name_without 10 (decimal goal) refl name))))
    (Ask (digits_value 10 (decimal depth)) (decimal goal))
    (record {
      digits = decimal depth;
      spelled = ap (λ words. codes "ask" ∷ words)
          (word_first (decimal depth) (decimal goal) (name_without 32 (decimal depth) refl depth_name)
          depth_name.is_some
          ∙ ap (λ words. decimal depth ∷ words)
          (word_last (decimal goal) (name_without 32 (decimal goal) refl name) name.is_some));
      is_depth = record {
        is_some = depth_name.is_some;
        is_short = length-decimal-le 7 depth (omega arith) shallow (omega arith);
        digits = digits depth (omega arith);
      };
      value = refl;
      is_name = name;
    })
    are
