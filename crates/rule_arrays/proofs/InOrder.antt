-- The rows of a table that was read from a text are in order.
use Rattle.std.proofs.Common.{◌≡◌, ℕ, ◌<◌, ◌≤◌, List, [], length, Contains, Some, sym, ap, ◌∙◌, arith}
use Rattle.std.proofs.lemmas.Option.{slice_get-get_or, slice_get_within}
use Rattle.path_kinds.specs.declared.path.PathKind.{PathKind}
use Rattle.path_kinds.specs.declared.path.PathKind.TheVariants.{Inductive, Unknown, Coinductive, ForcedAmbiguity}
use Rattle.candidate_lists.specs.Laws.Members.{Contains-from_slice_get}
use Rattle.rule_tables.specs.Rules as tables
use Rattle.rule_tables.specs.Table.{IsAsked, IsCandidate}
use Rattle.rule_tables.specs.Text.{Reads}
use Rattle.rule_tables.specs.declared.rules.Asking.{Asking}
use Rattle.rule_tables.specs.declared.rules.Goal.{Goal}
use Rattle.rule_tables.specs.declared.rules.Rules.{Rules}
use Rattle.rule_arrays.specs.Faults.{IsTable}
use Rattle.rule_arrays.specs.Rows.{HaveRows, Written, number_of}
use Rattle.rule_arrays.specs.Table.{table_with}
use Rattle.rule_arrays.specs.declared.rows.GoalRow.{GoalRow}
use Rattle.rule_arrays.specs.declared.rows.CandidateRow.{CandidateRow}
use Rattle.rule_arrays.specs.declared.rows.QuestionRow.{QuestionRow}
use Rattle.rule_arrays.proofs.Adding.{zip-left}

-- each question of a goal that has a name is about one that has
abbrev AreNamed : Rules → Type 0
AreNamed rules = (goal : Goal) → tables.number_of goal < length (tables.names_of rules) → (candidate : Written) →
    Contains (tables.candidates_of rules goal) candidate → (asking : Asking) → Contains candidate.questions asking →
    tables.number_of asking.goal < length (tables.names_of rules)

are_named : (text : List ℕ) (rules : Rules) → Reads text rules → AreNamed rules
are_named text rules reads goal within candidate has asking asks =
    let names = tables.names_of rules in
    let name = slice_get-get_or names (tables.number_of goal) [] within in
    let c = zip-left (IsCandidate names) (tables.candidates_of rules goal) _ candidate
    (reads.table.candidates goal _ name) has in
    let a = zip-left (IsAsked names) candidate.questions c.0.questions asking c.1.questions asks in
    slice_get_within names (tables.number_of asking.goal) a.0.name a.1.goal

few_kinds : (kind : PathKind) → number_of kind ≤ 3
few_kinds Inductive = omega arith
few_kinds Unknown = omega arith
few_kinds Coinductive = omega arith
few_kinds ForcedAmbiguity = omega arith

pub in_order : (text : List ℕ) (rules : Rules) (goals : List GoalRow) (candidates : List CandidateRow)
    (questions : List QuestionRow) (count : ℕ) → Reads text rules → count ≡ length (tables.names_of rules) →
    count < 4294967295 → HaveRows rules goals candidates questions count →
    IsTable (table_with goals candidates questions)
in_order text rules goals candidates questions count reads is few h = record {
  goals = λ place row at.
      let l = slice_get_within goals place row at in
      let counted = h.counted in
      let has = h.each (record { 0 = place }) (omega arith) in
      let same : Some row ≡ Some has.row = sym at ∙ has.is_at in
      let first : row.first ≡ has.row.first = cc in
      let size : row.count ≡ has.row.count = cc in
      let w = has.is_goal.within in
      record { few = omega arith; within = λ known. omega arith };
  candidates = λ place row at.
      let r = h.rows row (Contains-from_slice_get candidates place row at) in
      record { within = r.within; mark = r.mark };
  questions = λ place row at.
      let of = h.asked row (Contains-from_slice_get questions place row at) in
      let a = of.is_asked in
      let l = of.is_goal in
      let named = are_named text rules reads of.goal (omega arith) a.candidate a.is_candidate a.asking a.is_asking in
      let kinds = few_kinds a.asking.kind in
      let k = ap (λ r. r.kind) a.same in
      let g = ap (λ r. r.goal) a.same in
      let counted = h.counted in
      record { kind = omega arith; goal = omega arith };
}
