-- No goal's frame takes more steps than all known candidates do together, and those of one that says maybe.
use Rattle.std.proofs.Common.{◌≡◌, ℕ, ◌+◌, ◌≤◌, List, [], ◌∷◌, length, map, slice_get, sum_by, Option, None, Some}
use Rattle.std.proofs.Common.{false, refl, sym, ap, ap₂, ◌∙◌, arith}
use Rattle.std.specs.Option.{option_map, unwrap_or}
use Rattle.std.proofs.lemmas.List.{length-map}
use Rattle.std.proofs.lemmas.List.Sums.{get_or-le-sum_by, sum_by-cons}
use Rattle.std.proofs.lemmas.Option.{slice_get_within, slice_get-map, get_or_from_slice_get}
use Rattle.path_kinds.specs.declared.path.PathKind.{PathKind}
use Rattle.candidate_lists.specs.Candidate.{mark_at, mark_of}
use Rattle.candidate_lists.specs.Frame.{steps_for, steps_of}
use Rattle.trait_goals.specs.Known.{Table, candidates_at, kind_at}
use Rattle.trait_goals.specs.Rule.{asks, candidate_by, candidates_by, candidates_of, most_steps, steps_at, unknown_by}
use Rattle.trait_goals.specs.declared.asked.Asked.{Asked}
use Rattle.trait_goals.specs.declared.asked.Candidate.{Candidate}
use Rattle.trait_goals.specs.declared.asked.Candidates.{Candidates}

-- the steps of candidates are those of the lists that they stand for
same_steps : (kind : PathKind) (all : List Candidate)
    → sum_by steps_of (map (candidate_by kind) all) ≡ sum_by (λ c. length c.questions.items + 3) all
same_steps kind [] = refl
same_steps kind (c ∷ all) =
    sum_by-cons steps_of (candidate_by kind c) (map (candidate_by kind) all)
    ∙ ap₂ (λ n m. n + 3 + m) (length-map c.questions.items (asks kind)) (same_steps kind all)
    ∙ sym (sum_by-cons (λ x. length x.questions.items + 3) c all)

unknown_steps : (goal : ℕ) (asked : Option Asked) → steps_for (unknown_by goal asked) ≤ 7
unknown_steps goal None = omega arith
unknown_steps goal (Some asked) = omega arith

steps_by : (kind : PathKind) (goal : ℕ) (asked : Option Asked) (o : Option Candidates)
    → steps_for (candidates_by kind goal asked o) ≤ steps_at o + 7
steps_by kind goal asked None = let few = unknown_steps goal asked in omega arith
steps_by kind goal asked (Some known) =
    let steps = same_steps kind known.all.items in
    let count = length-map known.all.items (candidate_by kind) in omega arith

known_within : (known : List (Option Candidates)) (goal : ℕ) (o : Option (Option Candidates)) → slice_get known goal ≡ o
    → steps_at (unwrap_or o None) ≤ sum_by steps_at known
known_within known goal None e = omega arith
known_within known goal (Some p) e =
    let h = get_or-le-sum_by steps_at known goal p (slice_get_within known goal p e) in
    let n = ap steps_at (get_or_from_slice_get known goal p p e) in omega arith

pub steps_within : (table : Table) (goal : ℕ) → steps_for (candidates_of table goal) ≤ most_steps table
steps_within table goal =
    let by = steps_by (kind_at table goal) goal (slice_get table.asked goal) (candidates_at table goal) in
    let within = known_within table.known goal (slice_get table.known goal) refl in omega arith

-- no known candidate is marked
pub not_marked : (table : Table) (goal place : ℕ) (known : Candidates) (candidate : Candidate) →
    candidates_at table goal ≡ Some known → slice_get known.all.items place ≡ Some candidate →
    Some false ≡ mark_at (candidates_of table goal) place
not_marked table goal place known candidate e at =
    sym (ap (λ o. mark_at (candidates_by (kind_at table goal) goal (slice_get table.asked goal) o) place) e
    ∙ ap mark_of (slice_get-map (candidate_by (kind_at table goal)) known.all.items place
    ∙ ap (option_map (candidate_by (kind_at table goal))) at))
