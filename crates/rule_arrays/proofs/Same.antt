-- The rows of a table have its candidates.
use Rattle.std.proofs.Common.{◌≡◌, ◌≢◌, ℕ, List, [], ◌∷◌, length, map}
use Rattle.std.proofs.Common.{not, Bool, true, false, eqb, refl, ap, ap₂}
use Rattle.std.proofs.Common.{◌∙◌, arith}
use Rattle.std.specs.List.{AllZip}
use Rattle.path_kinds.specs.declared.path.PathKind.{PathKind}
use Rattle.path_kinds.specs.declared.path.PathKind.TheVariants.{Inductive, Unknown, Coinductive, ForcedAmbiguity}
use Rattle.rule_tables.specs.Rules as tables
use Rattle.rule_tables.specs.declared.rules.Asking.{Asking}
use Rattle.rule_tables.specs.declared.rules.Rules.{Rules}
use Rattle.rule_arrays.specs.Table.{candidate_with, kind_of, part_of, question_of, table_with}
use Rattle.rule_arrays.specs.Rows.{AreRowsOf, HaveRows, IsRowOf, Written, asked, asking_by, number_of, number_of_mark}
use Rattle.rule_arrays.specs.Rows.{row_of}
use Rattle.rule_arrays.specs.declared.rows.GoalRow.{GoalRow}
use Rattle.rule_arrays.specs.declared.rows.CandidateRow.{CandidateRow}
use Rattle.rule_arrays.specs.declared.rows.QuestionRow.{QuestionRow}
use Rattle.rule_arrays.proofs.Known.{known}

kind-again : (kind : PathKind) → kind_of (number_of kind) ≡ kind
kind-again Inductive = refl
kind-again Unknown = refl
kind-again Coinductive = refl
kind-again ForcedAmbiguity = refl

mark-again : (mark : Bool) → not (eqb (number_of_mark mark) 0) ≡ mark
mark-again true = refl
mark-again false = refl

asks-again : (askings : List Asking) → map question_of (map row_of askings) ≡ map asked askings
asks-again [] = refl
asks-again (a ∷ askings) =
    ap₂ (λ k qs. record { kind = k; goal = tables.number_of a.goal } ∷ qs) (kind-again a.kind) (asks-again askings)

same_all : (questions : List QuestionRow) (rows : List CandidateRow) (written : List Written) →
    AllZip (IsRowOf questions) rows written →
    asking_by question_of (map (candidate_with questions) rows) ≡ asking_by asked written
same_all questions [] [] are = refl
same_all questions [] (c ∷ written) are = absurd are
same_all questions (r ∷ rows) [] are = absurd are
same_all questions (r ∷ rows) (c ∷ written) are =
    ap₂ (λ m cs. record { is_marked = m; questions = map question_of (part_of questions r.first r.count) } ∷ cs)
    (ap (λ n. not (eqb n 0)) are.0.mark ∙ mark-again c.is_marked) (same_all questions rows written are.1)
    ∙ ap (λ qs. record { is_marked = c.is_marked; questions = qs } ∷ asking_by asked written)
    (ap (map question_of) are.0.asks ∙ asks-again c.questions)

pub rows_are : (rules : Rules) (goals : List GoalRow) (candidates : List CandidateRow) (questions : List QuestionRow)
    (count : ℕ) → count ≡ length (tables.names_of rules) → HaveRows rules goals candidates questions count →
    AreRowsOf rules (table_with goals candidates questions)
rows_are rules goals candidates questions count is h = record {
  count = h.counted ∙ is;
  same = λ goal l.
      let has = h.each goal (omega (arith, is, l)) in
      let few = has.is_goal.known in
      let apart : has.row.count ≢ 4294967295 = λ e. omega arith in
      ap (asking_by question_of)
      (known (table_with goals candidates questions) (tables.number_of goal) has.row has.is_at apart)
      ∙ same_all questions (part_of candidates has.row.first has.row.count) (tables.candidates_of rules goal)
      has.is_goal.has;
}
