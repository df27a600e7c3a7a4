-- Goals that stand in a list: how one is found there, and what joins paths to it.
use Rattle.std.proofs.Common.{◌≡◌, ℕ, zero, suc, ◌<◌, Bool, true, false, cond, List, [], ◌∷◌, ◌++◌, length, get_or}
use Rattle.std.proofs.Common.{slice_set, Some, None, refl, sym, ap, subst, ◌∙◌, inl, inr, arith}
use Rattle.std.proofs.lemmas.Bool.{cases_Bool}
use Rattle.std.proofs.lemmas.List.{map-append}
use Rattle.std.proofs.lemmas.List.Quantifiers.{position-Some}
use Rattle.std.proofs.lemmas.Map.Keys.{IsDistinct-push}
use Rattle.std.proofs.lemmas.Map.Made.{is_some-lookup}
use Rattle.std.specs.Cmp.{IsEquivalence}
use Rattle.std.specs.List.{IsDistinct, list_any, position}
use Rattle.std.specs.Map.{keys_of, lookup}
use Rattle.std.specs.Option.{is_some}
use Rattle.goal_paths.specs.Below.{PathsToNested, union}
use Rattle.goal_paths.specs.Words.{joined_paths, JoinsPaths, NestedPaths, paths_at}
use Rattle.goal_paths.proofs.StackIndex.{list_any_from_position}

module _ {I V : Type 0} (test : I → Bool) where
  -- the first entry whose key passes is found
  lookup_at : (es : List (I × V)) (i : ℕ) (d : I × V) → i < length es → test (get_or es i d).0 ≡ true
      → ((k : ℕ) → k < i → test (get_or es k d).0 ≡ false) → lookup test es ≡ Some (get_or es i d).1
  lookup_at [] i d inside passes before = absurd (omega arith)
  lookup_at (e ∷ es) zero d inside passes before = ap (λ b. cond b (Some e.1) (lookup test es)) passes
  lookup_at (e ∷ es) (suc i) d inside passes before =
      ap (λ b. cond b (Some e.1) (lookup test es)) (before zero (omega arith))
      ∙ lookup_at es i d (omega arith) passes (λ k below. before (suc k) (omega arith))

  -- where no key passes, nothing is found
  lookup_none : (es : List (I × V)) → list_any (λ e. test e.0) es ≡ false → lookup test es ≡ None
  lookup_none [] none = refl
  lookup_none (e ∷ es) none = elim (cases_Bool (test e.0)) [
    | inl passes ↦ absurd (let there : list_any (λ e. test e.0) (e ∷ es) ≡ true = rw passes refl in cc)
    | inr fails ↦
        ap (λ b. cond b (Some e.1) (lookup test es)) fails
        ∙ lookup_none es
        (let rest : list_any (λ e. test e.0) (e ∷ es) ≡ list_any (λ e. test e.0) es = rw fails refl in sym rest ∙ none)
  ]

  -- another value for the first entry whose key passes
  set_here : (es : List (I × V)) (i : ℕ) (d : I × V) (key : I) (value : V) → i < length es
      → key ≡ (get_or es i d).0 → test key ≡ true
      → ((k : ℕ) → k < i → test (get_or es k d).0 ≡ false) → lookup test (slice_set es i (key, value)) ≡ Some value
  set_here [] i d key value inside is passes before = absurd (omega arith)
  set_here (e ∷ es) zero d key value inside is passes before = ap (λ b. cond b (Some value) (lookup test es)) passes
  set_here (e ∷ es) (suc i) d key value inside is passes before =
      ap (λ b. cond b (Some e.1) (lookup test (slice_set es i (key, value)))) (before zero (omega arith))
      ∙ set_here es i d key value (omega arith) is passes (λ k below. before (suc k) (omega arith))

  -- a key that does not pass is passed over, whatever its value
  set_other : (es : List (I × V)) (i : ℕ) (d : I × V) (key : I) (value : V) → i < length es
      → key ≡ (get_or es i d).0 → test key ≡ false
      → lookup test (slice_set es i (key, value)) ≡ lookup test es
  set_other [] i d key value inside is fails = absurd (omega arith)
  set_other (e ∷ es) zero d key value inside is fails =
      ap (λ b. cond b (Some value) (lookup test es)) fails
      ∙ sym (ap (λ b. cond b (Some e.1) (lookup test es)) (ap test (sym is) ∙ fails))
  set_other (e ∷ es) (suc i) d key value inside is fails =
      ap (cond (test e.0) (Some e.1)) (set_other es i d key value (omega arith) is fails)

  -- one more entry at the end
  push_here : (es : List (I × V)) (key : I) (value : V) → test key ≡ true → lookup test es ≡ None
      → lookup test (es ++ (key, value) ∷ []) ≡ Some value
  push_here [] key value passes none = ap (λ b. cond b (Some value) None) passes
  push_here (e ∷ es) key value passes none = elim (cases_Bool (test e.0)) [
    | inl found ↦ absurd (let there : lookup test (e ∷ es) ≡ Some e.1 = rw found refl in cc)
    | inr fails ↦
        ap (λ b. cond b (Some e.1) (lookup test (es ++ (key, value) ∷ []))) fails
        ∙ push_here es key value passes
        (let rest : lookup test (e ∷ es) ≡ lookup test es = rw fails refl in sym rest ∙ none)
  ]

  push_other : (es : List (I × V)) (key : I) (value : V) → test key ≡ false
      → lookup test (es ++ (key, value) ∷ []) ≡ lookup test es
  push_other [] key value fails = ap (λ b. cond b (Some value) None) fails
  push_other (e ∷ es) key value fails = ap (cond (test e.0) (Some e.1)) (push_other es key value fails)

-- the keys stay where a value changes
pub keys_of-set : {I V : Type 0} (es : List (I × V)) (i : ℕ) (d : I × V) (key : I) (value : V)
    → i < length es → key ≡ (get_or es i d).0
    → keys_of (slice_set es i (key, value)) ≡ keys_of es
keys_of-set [] i d key value inside is = absurd (omega arith)
keys_of-set (e ∷ es) zero d key value inside is = ap (λ k. k ∷ keys_of es) is
keys_of-set (e ∷ es) (suc i) d key value inside is = ap (λ ks. e.0 ∷ ks) (keys_of-set es i d key value (omega arith) is)

module _ {I : Type 0} (same : I → I → Bool) where
  -- what is found at the place of a goal
  pub paths_at-place : (goals : NestedPaths I) (input : I) (i : ℕ) (d : I × PathsToNested)
      → position (λ goal. same input goal.0) goals ≡ Some i
      → paths_at same goals input ≡ Some (get_or goals i d).1
  paths_at-place goals input i d at =
      let found = position-Some (λ goal. same input goal.0) goals i d at in
      lookup_at (same input) goals i d found.0 found.1 found.2

  pub paths_at-no_place : (goals : NestedPaths I) (input : I)
      → position (λ goal. same input goal.0) goals ≡ None → paths_at same goals input ≡ None
  paths_at-no_place goals input none =
      lookup_none (same input) goals (list_any_from_position (λ goal. same input goal.0) goals none)

  module _ (laws : IsEquivalence same) where
    -- paths are joined to a goal of the list
    pub joins_at-place : (goals : NestedPaths I) (input : I) (paths : PathsToNested) (i : ℕ)
        (d : I × PathsToNested) (key : I) (after : PathsToNested)
        → position (λ goal. same input goal.0) goals ≡ Some i → key ≡ (get_or goals i d).0
        → after ≡ union (get_or goals i d).1 paths
        → JoinsPaths same goals (slice_set goals i (key, after)) input paths
    joins_at-place goals input paths i d key after at is_key is_after =
        let found = position-Some (λ goal. same input goal.0) goals i d at in
        let passes : same input key ≡ true = ap (same input) is_key ∙ found.1 in
        record {
          here =
              set_here (same input) goals i d key after found.0 is_key passes found.2
              ∙ ap Some is_after
              ∙ sym (ap (λ p. joined_paths p (Some paths)) (paths_at-place goals input i d at));
          others = λ other apart. set_other (same other) goals i d key after found.0 is_key
              (laws.symm other key ∙ sym (laws.congr input key other passes) ∙ apart);
        }

    -- a goal that is new comes last
    pub joins_at-end : (goals : NestedPaths I) (input : I) (paths : PathsToNested) → paths_at same goals input ≡ None
        → JoinsPaths same goals (goals ++ (input, paths) ∷ []) input paths
    joins_at-end goals input paths none = record {
      here =
          push_here (same input) goals input paths (laws.refl input) none
          ∙ sym (ap (λ p. joined_paths p (Some paths)) none);
      others = λ other apart. push_other (same other) goals input paths (laws.symm other input ∙ apart);
    }

    pub distinct-end : (goals : NestedPaths I) (input : I) (paths : PathsToNested) → paths_at same goals input ≡ None
        → IsDistinct same (keys_of goals) → IsDistinct same (keys_of (goals ++ (input, paths) ∷ []))
    distinct-end goals input paths none distinct =
        subst (IsDistinct same) (sym (map-append (λ e. e.0) goals ((input, paths) ∷ [])))
        (IsDistinct-push laws (keys_of goals) input distinct
        (sym (is_some-lookup (same input) goals) ∙ ap is_some none))
