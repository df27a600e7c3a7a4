-- Rows of a table are made candidate by candidate and goal by goal, and those that are there stay right.
use Rattle.std.proofs.Common.{◌≡◌, ℕ, ◌+◌, ◌<◌, ◌≤◌, List, [], ◌∷◌}
use Rattle.std.proofs.Common.{◌++◌, length, map, take, drop, slice_get, Contains, Some}
use Rattle.std.proofs.Common.{None, Bool, true, false, zero, suc, refl, sym, ap, ◌∙◌, subst, inl, inr, arith}
use Rattle.std.specs.List.{AllZip}
use Rattle.std.proofs.lemmas.Bool.Decides.{eqb_tells}
use Rattle.std.proofs.lemmas.List.Elements.{Contains-append_cases, Contains-append_left, Contains-push}
use Rattle.std.proofs.lemmas.List.{append-nil, append_assoc, drop-append-le, drop_at, length-append, length-drop}
use Rattle.std.proofs.lemmas.List.{take-append-le, take_all, take_more, length_push}
use Rattle.std.proofs.lemmas.Option.{get_or_from_slice_get, slice_get_within}
use Rattle.list_lemmas.proofs.Lists.{get_end, get_left}
use Rattle.list_lemmas.proofs.Members.{Contains-map}
use Rattle.rule_tables.specs.Rules as tables
use Rattle.rule_tables.specs.declared.rules.Goal.{Goal}
use Rattle.rule_tables.specs.declared.rules.Rules.{Rules}
use Rattle.rule_arrays.specs.Table.{part_of}
use Rattle.rule_arrays.specs.Rows.{Adds, AddsAll, AddsGoal, HasGoal, HaveRows, IsAskedOf, IsGoalOf, IsRowOf}
use Rattle.rule_arrays.specs.Rows.{Written, number_of_mark, row_of}
use Rattle.rule_arrays.specs.Faults.{IsCandidateRow}
use Rattle.rule_arrays.specs.declared.rows.GoalRow.{GoalRow}
use Rattle.rule_arrays.specs.declared.rows.CandidateRow.{CandidateRow}
use Rattle.rule_arrays.specs.declared.rows.QuestionRow.{QuestionRow}

-- a part is the same where more stands behind the list
part-kept : {A : Type 0} (xs ys : List A) (first count : ℕ) → first + count ≤ length xs →
    part_of (xs ++ ys) first count ≡ part_of xs first count
part-kept xs ys first count within =
    let rest = length-drop first xs in
    ap (take count) (drop-append-le first xs ys (omega arith))
    ∙ take-append-le count (drop first xs) ys (omega arith)

part-end : {A : Type 0} (xs ys : List A) → part_of (xs ++ ys) (length xs) (length ys) ≡ ys
part-end xs ys = ap (take (length ys)) (drop_at xs ys (length xs) refl) ∙ take_all (length ys) ys (omega arith)

row-kept : (questions more : List QuestionRow) (row : CandidateRow) (candidate : Written) →
    IsRowOf questions row candidate → IsRowOf (questions ++ more) row candidate
row-kept questions more row candidate is = record {
  mark = is.mark;
  within = (let w = is.within in let l = length-append questions more in omega arith);
  asks = part-kept questions more row.first row.count is.within ∙ is.asks;
}

rows-kept : (questions more : List QuestionRow) (rows : List CandidateRow) (written : List Written) →
    AllZip (IsRowOf questions) rows written → AllZip (IsRowOf (questions ++ more)) rows written
rows-kept questions more [] [] are = are
rows-kept questions more [] (c ∷ written) are = absurd are
rows-kept questions more (r ∷ rows) [] are = absurd are
rows-kept questions more (r ∷ rows) (c ∷ written) are =
    (row-kept questions more r c are.0, rows-kept questions more rows written are.1)

zip-push : {A B : Type 0} (R : A → B → Type 0) (xs : List A) (ys : List B) (x : A) (y : B) → AllZip R xs ys → R x y →
    AllZip R (xs ++ x ∷ []) (ys ++ y ∷ [])
zip-push R [] [] x y are is = (is, tt)
zip-push R [] (b ∷ ys) x y are is = absurd are
zip-push R (a ∷ xs) [] x y are is = absurd are
zip-push R (a ∷ xs) (b ∷ ys) x y are is = (are.0, zip-push R xs ys x y are.1 is)

zip-length : {A B : Type 0} (R : A → B → Type 0) (xs : List A) (ys : List B) → AllZip R xs ys → length xs ≡ length ys
zip-length R [] [] are = refl
zip-length R [] (b ∷ ys) are = absurd are
zip-length R (a ∷ xs) [] are = absurd are
zip-length R (a ∷ xs) (b ∷ ys) are = let l = zip-length R xs ys are.1 in omega arith

pub adds_none : (candidates : List CandidateRow) (questions : List QuestionRow) →
    AddsAll candidates candidates questions questions []
adds_none candidates questions = record {
  rows = [];
  more = [];
  candidates = sym (append-nil candidates);
  questions = sym (append-nil questions);
  are_rows = tt;
  are_asked = λ row has. absurd (omega (arith, has.1));
}

adds_more : (old mid new : List CandidateRow) (asked some all : List QuestionRow) (written : List Written)
    (candidate : Written) → AddsAll old mid asked some written → Adds mid new some all candidate →
    AddsAll old new asked all (written ++ candidate ∷ [])
adds_more old mid new asked some all written candidate a b = record {
  rows = a.rows ++ b.row ∷ [];
  more = a.more ++ map row_of candidate.questions;
  candidates = b.candidates ∙ ap (λ xs. xs ++ b.row ∷ []) a.candidates ∙ append_assoc old a.rows (b.row ∷ []);
  questions = b.questions ∙ ap (λ xs. xs ++ map row_of candidate.questions) a.questions
      ∙ append_assoc asked a.more (map row_of candidate.questions);
  are_rows = zip-push (IsRowOf all) a.rows written b.row candidate
      (subst (λ q. AllZip (IsRowOf q) a.rows written) (sym b.questions)
      (rows-kept some (map row_of candidate.questions) a.rows written a.are_rows)) b.is_row;
  are_asked = λ row has. elim (Contains-append_cases a.more (map row_of candidate.questions) row has) [
    | inl w ↦
        let asked = a.are_asked row w in record {
          candidate = asked.candidate;
          is_candidate = Contains-append_left written (candidate ∷ []) asked.candidate asked.is_candidate;
          asking = asked.asking;
          is_asking = asked.is_asking;
          same = asked.same;
        }
    | inr w ↦
        let asked = Contains-map row_of candidate.questions row w in record {
          candidate = candidate;
          is_candidate = Contains-push written candidate;
          asking = asked.0;
          is_asking = asked.1;
          same = sym asked.2;
        }
  ];
}

-- so are the rows of one more candidate of a list
pub adds_at : (old mid new : List CandidateRow) (asked some all : List QuestionRow) (written : List Written) (place : ℕ)
    (candidate : Written) → slice_get written place ≡ Some candidate →
    AddsAll old mid asked some (take place written) → Adds mid new some all candidate →
    AddsAll old new asked all (take (place + 1) written)
adds_at old mid new asked some all written place candidate at a b =
    subst (AddsAll old new asked all)
    (sym (take_more written place candidate (slice_get_within written place candidate at)
    ∙ ap (λ d. take place written ++ d ∷ []) (get_or_from_slice_get written place candidate candidate at)))
    (adds_more old mid new asked some all (take place written) candidate a b)

-- the row of a goal, of which all candidates have theirs
pub adds_goal : (before after : List GoalRow) (old new : List CandidateRow) (asked all : List QuestionRow)
    (written : List Written) (row : GoalRow) → after ≡ before ++ row ∷ [] → row.first ≡ length old →
    row.count ≡ length written → row.count < 4294967295 → AddsAll old new asked all written →
    AddsGoal before after old new asked all written
adds_goal before after old new asked all written row goals first count known a =
    let counted = zip-length (IsRowOf all) a.rows written a.are_rows in record {
      row = row;
      goals = goals;
      adds = a;
      is_goal = record {
        known = known;
        within = (let l = length-append old a.rows in let n = ap length a.candidates in omega arith);
        has = subst (λ rows. AllZip (IsRowOf all) rows written)
            (sym (ap (λ f. part_of new f row.count) first ∙ ap (part_of new (length old)) (count ∙ sym counted)
            ∙ ap (λ xs. part_of xs (length old) (length a.rows)) a.candidates ∙ part-end old a.rows)) a.are_rows;
      };
    }

goal-kept : (candidates rows : List CandidateRow) (questions more : List QuestionRow) (row : GoalRow)
    (written : List Written) → IsGoalOf candidates questions row written →
    IsGoalOf (candidates ++ rows) (questions ++ more) row written
goal-kept candidates rows questions more row written is = record {
  known = is.known;
  within = (let w = is.within in let l = length-append candidates rows in omega arith);
  has = subst (λ xs. AllZip (IsRowOf (questions ++ more)) xs written)
      (sym (part-kept candidates rows row.first row.count is.within))
      (rows-kept questions more (part_of candidates row.first row.count) written is.has);
}

has_kept : (before after : List GoalRow) (old new : List CandidateRow) (asked all : List QuestionRow)
    (written others : List Written) (number : ℕ) → AddsGoal before after old new asked all others →
    HasGoal before old asked number written → HasGoal after new all number written
has_kept before after old new asked all written others number a h = record {
  row = h.row;
  is_at = subst (λ gs. slice_get gs number ≡ Some h.row) (sym a.goals)
      (get_left before (a.row ∷ []) number h.row h.is_at);
  is_goal = subst (λ cs. IsGoalOf cs all h.row written) (sym a.adds.candidates)
      (subst (λ qs. IsGoalOf (old ++ a.adds.rows) qs h.row written) (sym a.adds.questions)
      (goal-kept old a.adds.rows asked a.adds.more h.row written h.is_goal));
}

has_added : (before after : List GoalRow) (old new : List CandidateRow) (asked all : List QuestionRow)
    (written : List Written) → AddsGoal before after old new asked all written →
    HasGoal after new all (length before) written
has_added before after old new asked all written a = record {
  row = a.row;
  is_at = subst (λ gs. slice_get gs (length before) ≡ Some a.row) (sym a.goals) (get_end before a.row);
  is_goal = a.is_goal;
}

pub none_have : (rules : Rules) → HaveRows rules [] [] [] 0
none_have rules = record {
  counted = refl;
  each = λ goal l. absurd (omega arith);
  rows = λ row has. absurd (omega (arith, has.1));
  asked = λ row has. absurd (omega (arith, has.1));
}

-- each element of the first list has one in the second
pub zip-left : {A B : Type 0} (R : A → B → Type 0) (xs : List A) (ys : List B) (x : A) → AllZip R xs ys →
    Contains xs x → (y : B) × R x y
zip-left R [] ys x are has = absurd (omega (arith, has.1))
zip-left R (a ∷ xs) [] x are has = absurd are
zip-left R (a ∷ xs) (b ∷ ys) x are (zero, l, e) = (b, subst (λ z. R z b) e are.0)
zip-left R (a ∷ xs) (b ∷ ys) x are (suc k, l, e) = zip-left R xs ys x are.1 (k, omega arith, e)

few_marks : (mark : Bool) → number_of_mark mark ≤ 1
few_marks true = omega arith
few_marks false = omega arith

more_rows : (rules : Rules) (before : List GoalRow) (old new : List CandidateRow) (asked all : List QuestionRow)
    (number : ℕ) (written : List Written) → HaveRows rules before old asked number →
    AddsAll old new asked all written → (row : CandidateRow) → Contains new row → IsCandidateRow (length all) 0 row
more_rows rules before old new asked all number written h a row has =
    elim (Contains-append_cases old a.rows row (subst (λ xs. Contains xs row) a.candidates has)) [
      | inl w ↦
          let is = h.rows row w in record {
            within = (let i = is.within in let l = ap length a.questions in let m = length-append asked a.more in
                omega arith);
            mark = is.mark;
          }
      | inr w ↦
          let is = zip-left (IsRowOf all) a.rows written row a.are_rows w in record {
            within = is.1.within;
            mark = (let m = few_marks is.0.is_marked in let e = is.1.mark in omega arith);
          }
    ]

more_asked : (rules : Rules) (before : List GoalRow) (old new : List CandidateRow) (asked all : List QuestionRow)
    (number : ℕ) (goal : Goal) → tables.number_of goal ≡ number → HaveRows rules before old asked number →
    AddsAll old new asked all (tables.candidates_of rules goal) → (row : QuestionRow) → Contains all row →
    IsAskedOf rules (number + 1) row
more_asked rules before old new asked all number goal is h a row has =
    elim (Contains-append_cases asked a.more row (subst (λ xs. Contains xs row) a.questions has)) [
      | inl w ↦
          let of = h.asked row w in
          record { goal = of.goal; is_goal = (let l = of.is_goal in omega arith); is_asked = of.is_asked }
      | inr w ↦ record { goal = goal; is_goal = omega arith; is_asked = a.are_asked row w }
    ]

pub more_have : (rules : Rules) (before after : List GoalRow) (old new : List CandidateRow)
    (asked all : List QuestionRow) (number : ℕ) (goal : Goal) → tables.number_of goal ≡ number →
    HaveRows rules before old asked number →
    AddsGoal before after old new asked all (tables.candidates_of rules goal) →
    HaveRows rules after new all (number + 1)
more_have rules before after old new asked all number goal is h a = record {
  counted = (let l = ap length a.goals in let p = length_push before a.row in let n = h.counted in omega arith);
  each = λ other l. elim (eqb_tells (tables.number_of other) number) [
    | inl w ↦
        subst (λ k. HasGoal after new all k (tables.candidates_of rules (record { 0 = k })))
        (h.counted ∙ sym w.1)
        (subst (λ k. HasGoal after new all (length before) (tables.candidates_of rules (record { 0 = k })))
        (is ∙ sym h.counted)
        (has_added before after old new asked all (tables.candidates_of rules goal) a))
    | inr w ↦
        has_kept before after old new asked all (tables.candidates_of rules other)
        (tables.candidates_of rules goal) (tables.number_of other) a (h.each other (omega (arith, w.1)))
  ];
  rows = more_rows rules before old new asked all number (tables.candidates_of rules goal) h a.adds;
  asked = more_asked rules before old new asked all number goal is h a.adds;
}

pub never_none : {A : Type 0} (xs : List A) (place : ℕ) → None ≡ slice_get xs place → place < length xs → ⊥
never_none [] place e within = omega arith
never_none (x ∷ xs) zero e within = cc
never_none (x ∷ xs) (suc place) e within = never_none xs place e (omega arith)
