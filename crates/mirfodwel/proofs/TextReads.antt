-- The text of rows that are in order is read.
use Rattle.std.proofs.Common.{◌≡◌, ◌∙◌, ◌==◌, ℕ, ◌+◌, ◌<◌, ◌^◌, Bool, true, false, cond, zero, suc}
use Rattle.std.proofs.Common.{List, [], ◌∷◌, ◌++◌, Option, None, Some, ap, arith, codes, drop, get_or, length, min}
use Rattle.std.proofs.Common.{refl, slice_get, subst, sym}
use Rattle.std.specs.Fmt.{decimal}
use Rattle.std.specs.List.{flat_map}
use Rattle.std.specs.Prelude.{not}
use Rattle.std.proofs.lemmas.List.{append-nil, append_assoc}
use Rattle.std.proofs.lemmas.List.Elements.{All-cons, All-drop, All-nil, All-take}
use Rattle.std.proofs.lemmas.Option.{get_or_from_slice_get, slice_get-get_or, slice_get_within}
use Rattle.line_texts.specs.Lines.{lines_of}
use Rattle.rule_tables.specs.Grammar.{head_word, Says, Statement}
use Rattle.rule_tables.specs.Text.{IsFirstBadLine}
use Rattle.rule_arrays.specs.Faults.{IsTable}
use Rattle.rule_arrays.specs.Table.{part_of, Table}
use Rattle.mirfodwel.specs.TableText.{goal_text, mark_of, question_text, rule_text, rules_text, text_asking}
use Rattle.rule_arrays.specs.declared.rows.CandidateRow.{CandidateRow}
use Rattle.rule_arrays.specs.declared.rows.GoalRow.{GoalRow}
use Rattle.rule_arrays.specs.declared.rows.QuestionRow.{QuestionRow}
use Rattle.mirfodwel.proofs.LineReads.{ask_line, ask_reads, HaveNames, IsReadable, none_to_read, rule_line, rule_reads}

-- ---- a rule

head : (b : Bool) (name : List ℕ) → cond b [] (codes "~") ++ name ≡ head_word (not b) name
head true name = refl
head false name = refl

regrouped : (a b c d e f rest : List ℕ) →
    (((((a ++ b) ++ c) ++ d) ++ e) ++ f) ++ rest ≡ (a ++ ((b ++ c) ++ (d ++ e))) ++ (f ++ rest)
regrouped a b c d e f rest = simp append_assoc

as_line : (questions : List QuestionRow) (number : ℕ) (row : CandidateRow) (rest : List ℕ) →
    rule_text questions number row ++ rest
    ≡ rule_line (not (row.is_marked == 0)) number (part_of questions row.first row.count) ++ 10 ∷ rest
as_line questions number row rest =
    let asked = flat_map question_text (part_of questions row.first row.count) in
    regrouped (codes "rule ") (mark_of row.is_marked) (decimal number) (codes " =") asked (codes "\n") rest
    ∙ ap (λ (text : List ℕ). (codes "rule " ++ (text ++ (codes " =" ++ asked))) ++ (codes "\n" ++ rest))
    (head (row.is_marked == 0) (decimal number))

as_unknown : (a b c d e rest : List ℕ) →
    ((((a ++ b) ++ c) ++ d) ++ e) ++ rest ≡ (a ++ (b ++ (c ++ (d ++ [])))) ++ (e ++ rest)
as_unknown a b c d e rest = simp (append_assoc, append-nil)

unknown_reads : (number : ℕ) (rest : List ℕ) → number < 2 ^ 32 → IsReadable rest →
    IsReadable (((((codes "rule " ++ decimal number) ++ codes " = f:") ++ decimal number) ++ codes "\n") ++ rest)
unknown_reads number rest small are =
    let P : QuestionRow → Type 0 = λ row. row.goal < 2 ^ 32 in
    let asked : QuestionRow = record { kind = 3; goal = number } in
    subst IsReadable
    (sym (as_unknown (codes "rule ") (decimal number) (codes " = f:") (decimal number) (codes "\n") rest))
    (rule_reads false number (asked ∷ []) rest small (All-cons P asked [] small (All-nil P)) are)

rules_read : (questions : List QuestionRow) (number : ℕ) (rows : List CandidateRow) (rest : List ℕ) →
    number < 2 ^ 32 → HaveNames questions → IsReadable rest →
    IsReadable (flat_map (rule_text questions number) rows ++ rest)
rules_read questions number [] rest small names are = are
rules_read questions number (row ∷ rows) rest small names are =
    let P : QuestionRow → Type 0 = λ row. row.goal < 2 ^ 32 in
    let others = flat_map (rule_text questions number) rows in
    subst IsReadable
    (sym (append_assoc (rule_text questions number row) others rest ∙ as_line questions number row (others ++ rest)))
    (rule_reads (not (row.is_marked == 0)) number (part_of questions row.first row.count) (others ++ rest) small
    (All-take P row.count (drop row.first questions) (All-drop P row.first questions names))
    (rules_read questions number rows rest small names are))

-- ---- the rules of goals

either : (b : Bool) (x y rest : List ℕ) → IsReadable (x ++ rest) → IsReadable (y ++ rest) →
    IsReadable (cond b x y ++ rest)
either true x y rest is_x is_y = is_x
either false x y rest is_x is_y = is_y

goal_reads : (rows : Table) (number : ℕ) (row : Option GoalRow) (rest : List ℕ) → IsTable rows →
    HaveNames rows.questions → slice_get rows.goals number ≡ row → IsReadable rest →
    IsReadable (goal_text rows number row ++ rest)
goal_reads rows number None rest table names at are = are
goal_reads rows number (Some row) rest table names at are =
    let few = (table.goals number row at).few in
    either (row.count == 4294967295)
    ((((codes "rule " ++ decimal number) ++ codes " = f:") ++ decimal number) ++ codes "\n")
    (flat_map (rule_text rows.questions number) (part_of rows.candidates row.first row.count)) rest
    (unknown_reads number rest (omega arith) are)
    (rules_read rows.questions number (part_of rows.candidates row.first row.count) rest (omega arith) names are)

goals_read : (rows : Table) (count : ℕ) (rest : List ℕ) → IsTable rows → HaveNames rows.questions →
    IsReadable rest → IsReadable (rules_text rows count ++ rest)
goals_read rows zero rest table names are = are
goals_read rows (suc number) rest table names are =
    let its = goal_text rows number (slice_get rows.goals number) in
    subst IsReadable (sym (append_assoc (rules_text rows number) its rest))
    (goals_read rows number (its ++ rest) table names
    (goal_reads rows number (slice_get rows.goals number) rest table names refl are))

-- ---- the whole text

few_goals : (goals : List GoalRow) → ((place : ℕ) (row : GoalRow) → slice_get goals place ≡ Some row →
    place + 1 < 4294967295) → length goals < 2 ^ 32
few_goals [] few = omega arith
few_goals (row ∷ rows) few =
    let last = few (length rows) (get_or (row ∷ rows) (length rows) row)
    (slice_get-get_or (row ∷ rows) (length rows) row (omega arith)) in
    omega arith

have_names : (rows : Table) → IsTable rows → length rows.goals < 2 ^ 32 → HaveNames rows.questions
have_names rows table few = λ k d l.
    let asked = (table.questions k (get_or rows.questions k d) (slice_get-get_or rows.questions k d l)).goal in
    omega arith

parted : (a b c d e f : List ℕ) → ((((a ++ b) ++ c) ++ d) ++ e) ++ f ≡ a ++ ((b ++ (c ++ (d ++ e))) ++ f)
parted a b c d e f = simp append_assoc

always_read : (rows : Table) (depth goal : ℕ) → IsTable rows → goal < length rows.goals →
    IsReadable (text_asking rows depth goal)
always_read rows depth goal table is =
    let few = few_goals rows.goals (λ place row at. (table.goals place row at).few) in
    subst IsReadable
    (sym (parted (rules_text rows (length rows.goals)) (codes "ask ") (decimal (min depth 9999999)) (codes " ")
    (decimal goal) (codes "\n")))
    (goals_read rows (length rows.goals) (ask_line (min depth 9999999) goal ++ 10 ∷ []) table
    (have_names rows table few)
    (ask_reads (min depth 9999999) goal [] (omega arith) (omega arith) none_to_read))

pub no_bad_line : (rows : Table) (depth goal : ℕ) → IsTable rows → goal < length rows.goals → (number : ℕ) →
    IsFirstBadLine (text_asking rows depth goal) number → ⊥
no_bad_line rows depth goal table is number bad =
    let lines = lines_of (text_asking rows depth goal) in
    let said = subst (λ (line : List ℕ). (s : Statement) × Says line s)
    (get_or_from_slice_get lines bad.before bad.line bad.line bad.is_line)
    (always_read rows depth goal table is bad.before bad.line
    (slice_get_within lines bad.before bad.line bad.is_line)) in
    bad.is_malformed said.0 said.1
