-- How many steps a frame takes.
use Rattle.std.proofs.Common.{◌≡◌, ◌∙◌, ◌+◌, ◌<◌, ◌≤◌, ◌^◌, ℕ, List, [], Option, Some, ap}
use Rattle.std.proofs.Common.{arith, inl, inr, option_copied, option_map, slice_get, subst, sum_by, sym}
use Rattle.std.proofs.lemmas.Option.{slice_get_cases, slice_get_within}
use Rattle.std.proofs.lemmas.List.Sums.{get_or-le-sum_by}
use Rattle.std.specs.Option.{unwrap_or}
use denote.Bor.{Bor}
use Rattle.candidate_lists.specs.Frame.{steps_for}
use Rattle.rule_tables.specs.Candidate.{Candidate}
use Rattle.rule_tables.specs.Rules.{number_of}
use Rattle.rule_tables.specs.declared.rules.Goal.{Goal}
use Rattle.rule_tables.specs.declared.rules.Asking.{Asking}
use Rattle.candidate_lists.specs.Laws.Members.{Contains-from_slice_get}
use Rattle.open_tables.specs.Table.{AreFew, Table, candidate_of, candidates_at, candidates_of, most_steps}
use Rattle.open_tables.specs.declared.table.Way.{Way}

two_more : (n : ℕ) → 2 ≤ n + 2
two_more n = omega arith

and_two : (some most : ℕ) → some ≤ most → some ≤ most + 2
and_two some most within = omega (arith, within)

steps_at : (all : List (List Candidate)) (place : ℕ) → steps_for (candidates_at all place) ≤ sum_by steps_for all + 2
steps_at all place = elim (slice_get_cases all place).1 [
  | inl it ↦
      let within : steps_for it.0 ≤ sum_by steps_for all = subst (λ cs. steps_for cs ≤ sum_by steps_for all) it.3
      (get_or-le-sum_by steps_for all place it.0 it.1) in
      subst (λ o. steps_for (unwrap_or o []) ≤ sum_by steps_for all + 2) (sym it.2)
      (and_two (steps_for it.0) (sum_by steps_for all) within)
  | inr past ↦ subst (λ o. steps_for (unwrap_or o []) ≤ sum_by steps_for all + 2) (sym past.1)
      (two_more (sum_by steps_for all))
]

pub steps_within : (table : Table) (goal : Goal) → steps_for (candidates_of table goal) ≤ most_steps table
steps_within table goal = steps_at table.candidates (number_of goal)

-- what stands at a place is within what 32 bits count
pub few_at : (cs : List Candidate) (place : ℕ) (c : Candidate) → AreFew cs → slice_get cs place ≡ Some c
    → place + 1 < 2 ^ 32
few_at cs place c few is = omega (arith, slice_get_within cs place c is, few.candidates_few)

pub few_asked : (cs : List Candidate) (candidate place : ℕ) (c : Candidate) (asking : Asking) → AreFew cs
    → slice_get cs candidate ≡ Some c → slice_get c.questions place ≡ Some asking → place + 1 < 2 ^ 32
few_asked cs candidate place c asking few is there = omega (
  arith,
  slice_get_within c.questions place asking there,
  few.questions_few c (Contains-from_slice_get cs candidate c is),
)

-- what was found at a place stands there
pub way_found : (cs : List Candidate) (place : ℕ) (found : Option (Bor Way)) (way : Bor Way)
    → option_map candidate_of (option_copied found) ≡ slice_get cs place → found ≡ Some way
    → slice_get cs place ≡ Some (candidate_of way.now)
way_found cs place found way is some = sym is ∙ ap (λ o. option_map candidate_of (option_copied o)) some
