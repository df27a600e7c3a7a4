-- Candidates by the places of their goals.
use Rattle.std.proofs.Common.{◌≡◌, ◌≢◌, ◌∙◌, ◌⊎◌, ◌<◌, ◌≤◌, ℕ, zero, suc, List, [], ◌∷◌, ◌++◌, ap, arith}
use Rattle.std.proofs.Common.{Err, IsSome, Ok, OnErr, Result, Vec, get_or, inl}
use Rattle.std.proofs.Common.{inr, length, length-set, map, option_map}
use Rattle.std.proofs.Common.{refl, slice_set, subst, sym}
use Rattle.std.specs.Option.{unwrap_or}
use Rattle.std.proofs.lemmas.Bool.{cases_eq}
use Rattle.std.proofs.lemmas.Option.{slice_get-map, slice_get_cases, slice_get_past, slice_get_read}
use Rattle.std.proofs.lemmas.List.{length-map, map-append, map-set}
use Rattle.list_lemmas.proofs.Lists.{get_set_other, get_set_same}
use Rattle.rule_tables.specs.Candidate.{Candidate}
use Rattle.rule_tables.specs.Rules.{number_of}
use Rattle.rule_tables.specs.declared.rules.Goal.{Goal}
use Rattle.open_tables.specs.Kept.{AddsCandidate, ClearsAt, ClearsCandidates}
use Rattle.open_tables.specs.Table.{Table, candidate_of, candidates_at, candidates_in, name_of}
use Rattle.open_tables.specs.declared.table.Way.{Way}

-- goals with one number are one
pub goal_at : (goal other : Goal) → number_of goal ≡ number_of other → goal ≡ other
goal_at goal other same = ap goal_of same
  where
    goal_of : ℕ → Goal
    goal_of n = record { 0 = n }

pub one_or_two : (goal other : Goal) → (goal ≡ other) ⊎ (number_of goal ≢ number_of other)
one_or_two goal other = elim (cases_eq (number_of goal) (number_of other)) [
  | inl same ↦ inl (goal_at goal other same)
  | inr apart ↦ inr apart
]

pub none_behind : (all : List (List Candidate)) (place : ℕ) → length all ≤ place → candidates_at all place ≡ []
none_behind all place past = ap (λ o. unwrap_or o []) (slice_get_past all place past)

-- one more goal without candidates
pub none_more : (all : List (List Candidate)) (place : ℕ)
    → candidates_at (all ++ [] ∷ []) place ≡ candidates_at all place
none_more [] zero = refl
none_more [] (suc place) = refl
none_more (cs ∷ all) zero = refl
none_more (cs ∷ all) (suc place) = none_more all place

pub set_here : (all : List (List Candidate)) (place : ℕ) (cs : List Candidate) → place < length all
    → candidates_at (slice_set all place cs) place ≡ cs
set_here all place cs within = elim (slice_get_cases all place).1 [
  | inl it ↦ ap (λ o. unwrap_or o []) (get_set_same all place it.0 cs it.2)
  | inr past ↦ absurd (omega (arith, within, past.0))
]

pub set_other : (all : List (List Candidate)) (place other : ℕ) (cs : List Candidate) → other ≢ place
    → candidates_at (slice_set all place cs) other ≡ candidates_at all other
set_other all place other cs apart = ap (λ o. unwrap_or o []) (get_set_other all place cs other apart)

-- what is written was there
pub set_again : (all : List (List Candidate)) (place : ℕ) (cs : List Candidate) → place < length all
    → cs ≡ candidates_at all place → slice_set all place cs ≡ all
set_again [] place cs within same = refl
set_again (first ∷ all) zero cs within same = ap (λ c. c ∷ all) same
set_again (first ∷ all) (suc place) cs within same = ap (λ l. first ∷ l) (set_again all place cs (omega arith) same)

pub cleared_at : (all : List (List Candidate)) (place : ℕ) (cs : List Candidate) → place < length all → cs ≡ []
    → ClearsAt place all (slice_set all place cs)
cleared_at all place cs within none = record {
  as_many = length-set all place cs;
  here = set_here all place cs within ∙ none;
  others = λ other apart. set_other all place other cs apart;
}

pub clear_behind : (all : List (List Candidate)) (place : ℕ) → length all ≤ place → ClearsAt place all all
clear_behind all place past = record {
  as_many = refl;
  here = none_behind all place past;
  others = λ other apart. refl;
}

-- ---- lists of candidates as they are kept

pub was_at : {A : Type 0} (ways : List (Vec Way A)) (place : ℕ) (w : Vec Way A) → place < length ways
    → w ≡ get_or ways place w → candidates_at (map candidates_in ways) place ≡ candidates_in w
was_at ways place w within is = ap (λ o. unwrap_or o []) (slice_get-map candidates_in ways place
    ∙ ap (option_map candidates_in) (slice_get_read ways (length ways) place w refl within is))

-- at the place stands one more candidate, and elsewhere what stood there
pub record AddsAt (place : ℕ) (c : Candidate) (old new : List (List Candidate)) : Type 0 where
  pub as_many : length new ≡ length old
  pub here : candidates_at new place ≡ candidates_at old place ++ c ∷ []
  pub others : (other : ℕ) → other ≢ place → candidates_at new other ≡ candidates_at old other

pub added_at : {A : Type 0} (ways : List (Vec Way A)) (place : ℕ) (w more : Vec Way A) (way : Way)
    → place < length ways → w ≡ get_or ways place w → more.items ≡ w.items ++ way ∷ []
    → AddsAt place (candidate_of way) (map candidates_in ways) (map candidates_in (slice_set ways place more))
added_at ways place w more way within is items =
    let all = map candidates_in ways in
    let within_all : place < length all = omega (arith, within, length-map ways candidates_in) in
    let cs = candidates_in more in
    let cs_is : cs ≡ candidates_at all place ++ candidate_of way ∷ [] =
    ap (map candidate_of) items ∙ map-append candidate_of w.items (way ∷ [])
    ∙ ap (λ l. l ++ candidate_of way ∷ []) (sym (was_at ways place w within is)) in
    subst (AddsAt place (candidate_of way) all) (sym (map-set candidates_in ways place more)) (record {
      as_many = length-set all place cs;
      here = set_here all place cs within_all ∙ cs_is;
      others = λ other apart. set_other all place other cs apart;
    })

-- nothing is written that was not there
pub same_at : {A : Type 0} (ways : List (Vec Way A)) (place : ℕ) (w more : Vec Way A)
    → place < length ways → w ≡ get_or ways place w → more.items ≡ w.items
    → map candidates_in (slice_set ways place more) ≡ map candidates_in ways
same_at ways place w more within is items =
    map-set candidates_in ways place more
    ∙ set_again (map candidates_in ways) place (candidates_in more)
    (omega (arith, within, length-map ways candidates_in))
    (ap (map candidate_of) items ∙ sym (was_at ways place w within is))

pub adds_by : (old new : Table) (goal : Goal) (c : Candidate) (place : ℕ) → place ≡ number_of goal
    → new.names ≡ old.names → AddsAt place c old.candidates new.candidates → AddsCandidate goal c old new
adds_by old new goal c place is names adds = record {
  names = names;
  here = subst (λ n. candidates_at new.candidates n ≡ candidates_at old.candidates n ++ c ∷ []) is adds.here;
  others = λ other apart. adds.others (number_of other) (λ e. apart (goal_at other goal (e ∙ is)));
}

pub clears_by : (old new : Table) (goal : Goal) (place : ℕ) → place ≡ number_of goal
    → new.names ≡ old.names → ClearsAt place old.candidates new.candidates → ClearsCandidates goal old new
clears_by old new goal place is names clears = record {
  names = names;
  here = subst (λ n. candidates_at new.candidates n ≡ []) is clears.here;
  others = λ other apart. clears.others (number_of other) (λ e. apart (goal_at other goal (e ∙ is)));
}

-- a goal that has a name has a place
pub place_of : (table : Table) (goal : Goal) → length table.candidates ≡ length table.names
    → IsSome (name_of table goal) → number_of goal < length table.candidates
place_of table goal as_many some = elim (slice_get_cases table.names (number_of goal)).1 [
  | inl it ↦ omega (arith, it.1, as_many)
  | inr past ↦ let never = subst IsSome past.1 some in absurd cc
]

pub on_err : {T E : Type 0} {P : Type 0} (result : Result T E) → P → OnErr result P
on_err (Ok x) p = tt
on_err (Err e) p = p

-- so it has in the list of what is kept
pub place_in : {A : Type 0} (inside table : Table) (goal : Goal) (place : ℕ) (ways : List (Vec Way A)) → inside ≡ table
    → inside.candidates ≡ map candidates_in ways → length inside.candidates ≡ length inside.names
    → IsSome (name_of table goal) → place ≡ number_of goal → place < length ways
place_in inside table goal place ways view is as_many some at =
    let within = place_of inside goal as_many (subst (λ t. IsSome (name_of t goal)) (sym view) some) in
    omega (arith, within, at, ap length is, length-map ways candidates_in)
