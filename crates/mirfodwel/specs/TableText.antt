-- Rows as a text of rules, with one question.
use Rattle.std.specs.Prelude.{◌==◌, ℕ, zero, suc, min, if◌then◌else◌, List, [], ◌++◌, Option, Some, None, codes}
use Rattle.std.specs.Prelude.{decimal}
use Rattle.std.specs.Prelude.{length, slice_get}
use Rattle.std.specs.List.{flat_map}
use Rattle.rule_arrays.specs.Table.{Table, part_of}
use Rattle.rule_arrays.specs.declared.rows.GoalRow.{GoalRow}
use Rattle.rule_arrays.specs.declared.rows.CandidateRow.{CandidateRow}
use Rattle.rule_arrays.specs.declared.rows.QuestionRow.{QuestionRow}

-- the letter of a kind
abbrev pub letter_of : ℕ → List ℕ
letter_of kind = if kind == 0 then codes "i" else (if kind == 1 then codes "u" else
    (if kind == 2 then codes "c" else codes "f"))

-- ` K:NUMBER`
abbrev pub question_text : QuestionRow → List ℕ
question_text row = codes " " ++ letter_of row.kind ++ codes ":" ++ decimal row.goal

abbrev pub mark_of : ℕ → List ℕ
mark_of is_marked = if is_marked == 0 then [] else codes "~"

-- the rule of a candidate of the goal with this number
abbrev pub rule_text : List QuestionRow → ℕ → CandidateRow → List ℕ
rule_text questions number row = codes "rule " ++ mark_of row.is_marked ++ decimal number ++ codes " ="
    ++ flat_map question_text (part_of questions row.first row.count) ++ codes "\n"

-- the rules of a goal; one whose candidates are not known asks itself by forced ambiguity
abbrev pub row_text : Table → ℕ → GoalRow → List ℕ
row_text rows number row =
    if row.count == 4294967295 then codes "rule " ++ decimal number ++ codes " = f:" ++ decimal number ++ codes "\n"
    else flat_map (rule_text rows.questions number) (part_of rows.candidates row.first row.count)

abbrev pub goal_text : Table → ℕ → Option GoalRow → List ℕ
goal_text rows number None = []
goal_text rows number (Some row) = row_text rows number row

-- the rules of the first so many goals
abbrev pub rules_text : Table → ℕ → List ℕ
rules_text rows zero = []
rules_text rows (suc number) = rules_text rows number ++ goal_text rows number (slice_get rows.goals number)

-- all rules, and the question; a text takes depths up to 9999999
abbrev pub text_asking : Table → (depth goal : ℕ) → List ℕ
text_asking rows depth goal = rules_text rows (length rows.goals)
    ++ codes "ask " ++ decimal (min depth 9999999) ++ codes " " ++ decimal goal ++ codes "\n"
