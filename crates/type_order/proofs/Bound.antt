-- How many questions a pair has.
use Rattle.std.proofs.Common.{◌≡◌, ℕ, ◌+◌, ◌≤◌, List, length, sum_by, slice_get, get_or, Option, None, Some, refl}
use Rattle.std.proofs.Common.{ap, arith}
use Rattle.std.proofs.lemmas.List.{length-map}
use Rattle.std.proofs.lemmas.List.Sums.{get_or-le-sum_by}
use Rattle.std.proofs.lemmas.Option.{slice_get_within, get_or_from_slice_get}
use Rattle.type_order.specs.Subtypes.{Form}
use Rattle.type_order.specs.Rule.{alternatives_in, Case, case_of, fields_in, most_questions, pair, pairs_in, pairs_of}
use Rattle.type_order.specs.Rule.{part_at, parts_in, function_pairs, left_pairs, record_pairs, right_pairs, size_of}
use Rattle.type_order.specs.Rule.{BetweenFunctions, BetweenRecords, Fails, Holds, SplitsLeft, SplitsRight}
use Rattle.type_order.specs.declared.delegate.Pair.{Pair}

sized : (forms : List Form) (at : ℕ) (form : Form) → slice_get forms at ≡ Some form
    → size_of form ≤ sum_by size_of forms
sized forms at form e =
    let h = get_or-le-sum_by size_of forms at form (slice_get_within forms at form e) in
    let same : get_or forms at form ≡ form = get_or_from_slice_get forms at form form e in
    let k : size_of (get_or forms at form) ≡ size_of form = ap size_of same in
    omega (arith, h, k)

sized_at : (forms : List Form) (at : ℕ) (o : Option Form) → slice_get forms at ≡ o
    → length (alternatives_in o) + length (fields_in o) ≤ sum_by size_of forms
sized_at forms at None e = omega arith
sized_at forms at (Some form) e = sized forms at form e

functions_within : (o p : Option (ℕ × ℕ)) → length (function_pairs o p) ≤ 2
functions_within (Some a) (Some b) = omega arith
functions_within (Some a) None = omega arith
functions_within None p = omega arith

pairs_within : (forms : List Form) (case : Case) (goal : Pair)
    → length (pairs_in case goal (slice_get forms goal.left) (slice_get forms goal.right)) ≤ most_questions forms
pairs_within forms Holds goal = omega arith
pairs_within forms Fails goal = omega arith
pairs_within forms SplitsLeft goal =
    let n = sized_at forms goal.left (slice_get forms goal.left) refl in
    let m : length (left_pairs (slice_get forms goal.left) goal.right)
    ≡ length (alternatives_in (slice_get forms goal.left)) =
    length-map (alternatives_in (slice_get forms goal.left)) (λ x. pair x goal.right) in
    omega (arith, n, m)
pairs_within forms SplitsRight goal =
    let n = sized_at forms goal.right (slice_get forms goal.right) refl in
    let m : length (right_pairs goal.left (slice_get forms goal.right))
    ≡ length (alternatives_in (slice_get forms goal.right)) =
    length-map (alternatives_in (slice_get forms goal.right)) (λ y. pair goal.left y) in
    omega (arith, n, m)
pairs_within forms BetweenFunctions goal =
    let n = functions_within (parts_in (slice_get forms goal.left)) (parts_in (slice_get forms goal.right)) in
    omega (arith, n)
pairs_within forms BetweenRecords goal =
    let n = sized_at forms goal.right (slice_get forms goal.right) refl in
    let ls = fields_in (slice_get forms goal.left) in
    let rs = fields_in (slice_get forms goal.right) in
    let m : length (record_pairs (fields_in (slice_get forms goal.left)) (fields_in (slice_get forms goal.right)))
    ≡ length (fields_in (slice_get forms goal.right)) = length-map (fields_in (slice_get forms goal.right))
    (λ field. pair (part_at (fields_in (slice_get forms goal.left)) field.name)
    (part_at (fields_in (slice_get forms goal.right)) field.name)) in
    omega (arith, n, m)

-- no pair has more questions than the bound
pub questions_within : (forms : List Form) (goal : Pair) → length (pairs_of forms goal) ≤ most_questions forms
questions_within forms goal = pairs_within forms (case_of forms goal) goal
