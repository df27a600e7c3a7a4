-- The stored results, as calls rely on them and change them.
use Rattle.std.specs.Prelude.{◌≡◌, ◌≤◌, ◌⊎◌, ℕ, Bool, true, ◌||◌, if◌then◌else◌, List, [], ◌∷◌, Option, None}
use Rattle.std.specs.Prelude.{Some, IsSomeAnd}
use Rattle.search_rules.specs.Below.{NodeId, Place, Success, WithOverflow, StoredResult, Request, Reply}
use Rattle.search_rules.specs.Below.{EvaluationResult, OpenGoal, IsDefinite, Store, stored_at, place_of, stored_from}
use Rattle.search_rules.specs.Below.{Puts, IsPlainTo, IsPlainAt, Verdicts}
use Rattle.run_records.specs.declared.runs.Fate.TheVariants as becomes
use Rattle.search_rules.specs.Claims.{ComesTo}

-- no result is stored that met overflow
abbrev pub HaveNoOverflow : {I S : Type 0} → (I → I → Bool) → Store I S → Type 0
HaveNoOverflow {I} same results = (goal : I) (depth : ℕ) → stored_at same results goal (WithOverflow depth) ≡ None

-- none of a goal of which this holds
abbrev pub HaveNoOverflowOf : {I S : Type 0} → (I → Type 0) → (I → I → Bool) → Store I S → Type 0
HaveNoOverflowOf {I} of same results =
    (goal : I) → of goal → (depth : ℕ) → stored_at same results goal (WithOverflow depth) ≡ None

-- each stored result is yes or no
abbrev pub AreDefinite : {I R T : Type 0} → Verdicts R → (I → I → Bool) → Store I (StoredResult I R T) → Type 0
AreDefinite {I} {R} {T} says same results =
    (goal : I) (place : Place) (s : StoredResult I R T)
    → stored_at same results goal place ≡ Some s → IsDefinite says s.result.result

-- each stored result requires no more than the depth, or as much as one is known to have required
-- that stood in its place
abbrev pub RequireWithin : {I R T : Type 0} → (I → I → Bool) → ℕ → (I → Place → ℕ → Bool)
    → Store I (StoredResult I R T) → Type 0
RequireWithin {I} {R} {T} same depth stood results =
    (goal : I) (place : Place) (s : StoredResult I R T)
    → stored_at same results goal place ≡ Some s
    → (s.required_depth ≤ depth) ⊎ (stood goal place s.required_depth ≡ true)

-- each stored result requires no more than the depth, or as much as the one that stood in its place before
abbrev pub StoresWithin : {I R T : Type 0} → (I → I → Bool) → ℕ
    → (old new : Store I (StoredResult I R T)) → Type 0
StoresWithin {I} {R} {T} same depth old new =
    (goal : I) (place : Place) (s : StoredResult I R T)
    → stored_at same new goal place ≡ Some s
    → (s.required_depth ≤ depth) ⊎ IsSomeAnd (stored_at same old goal place) (λ t. t.required_depth ≡ s.required_depth)

-- the goal's answer is stored in its place, with the goal's token
abbrev pub IsStored : {X I R A T : Type 0} → (I → I → Bool) → (I → T) → Store I (StoredResult I R T) → I
    → EvaluationResult X I R A T → Type 0
IsStored same token results goal answer =
    stored_at same results goal (place_of answer) ≡ Some (stored_from answer (token goal))

-- the answer was stored, which has no heads, or nothing was
pub data StoresAnswer {X I R A T : Type 0} (same : I → I → Bool) (old new : Store I (StoredResult I R T)) (goal : I)
    (answer : EvaluationResult X I R A T) : Type 0 where
  NotStored : new ≡ old → StoresAnswer same old new goal answer
  Put : (token : T) → answer.heads ≡ [] → Puts same old new goal (place_of answer) (stored_from answer token)
      → StoresAnswer same old new goal answer

-- the new store has this result of the goal, which requires the depth, at the place besides what the old one
-- has, or is the old one
pub data MayPut {I R T : Type 0} (same : I → I → Bool) (old new : Store I (StoredResult I R T)) (goal : I)
    (place : Place) (depth : ℕ) (r : R) : Type 0 where
  Same : new ≡ old → MayPut same old new goal place depth r
  WithResult :
      (s : StoredResult I R T) → s.result.result ≡ r → s.required_depth ≡ depth → Puts same old new goal place s
      → MayPut same old new goal place depth r

module _ {X F I R A T : Type 0} where
  -- where the result of a goal that is done belongs
  abbrev pub place_of_item : OpenGoal X F I R A T → Place
  place_of_item s = if s.0.state.encountered_overflow || s.1.met_overflow_before
      then WithOverflow s.0.state.required_depth else Success

  -- the answer of a goal that is done, with its result and the node of that
  abbrev pub final_answer : OpenGoal X F I R A T → R → Option NodeId → EvaluationResult X I R A T
  final_answer s r node = record {
    encountered_overflow = s.0.state.encountered_overflow || s.1.met_overflow_before;
    required_depth = s.0.state.required_depth;
    heads = s.0.state.heads;
    nested_goals = s.0.state.nested_goals;
    result = r;
    node = node;
  }

  -- the newest goal came to this result
  abbrev pub NewestComesTo : (I → List (Reply R) → Request I R) → (I → R) → List (OpenGoal X F I R A T) → R → Type 0
  NewestComesTo scripts limit_result [] r = ⊥
  NewestComesTo scripts limit_result (s ∷ below) r = ComesTo scripts limit_result s.0.input r

  -- the newest goal's result may be stored as far as ranks go
  abbrev pub NewestIsPlain : (I → List (Reply R) → Request I R) → List (OpenGoal X F I R A T) → R → Type 0
  NewestIsPlain scripts [] r = ⊥
  NewestIsPlain scripts (s ∷ below) r = IsPlainAt scripts s.0.input (place_of_item s) r

  -- the newest goal has a rank, which fits its depth, and its result is a success
  abbrev pub IsNewestPlainTo : (I → List (Reply R) → Request I R) → ℕ → List (OpenGoal X F I R A T) → Type 0
  IsNewestPlainTo scripts n [] = ⊥
  IsNewestPlainTo scripts n (s ∷ below) =
      IsPlainTo scripts n s.0.input × (place_of_item s ≡ Success) × (n ≤ s.0.available_depth.0)

  -- the newest goal's answer, with this result and node, is stored, if it is to be and rests on no goal
  abbrev pub IsNewestStored : (I → I → Bool) → (I → T) → List (OpenGoal X F I R A T) → R → Option NodeId
      → Store I (StoredResult I R T) → Type 0
  IsNewestStored same token [] r target results = ⊥
  IsNewestStored same token (s ∷ below) r target results =
      s.1.fate ≡ becomes.Stored → s.0.state.heads ≡ [] → IsStored same token results s.0.input (final_answer s r target)

  -- the newest goal's answer, with this result and node, was stored, or nothing was
  abbrev pub StoresNewest : (I → I → Bool) → List (OpenGoal X F I R A T) → R → Option NodeId
      → (old new : Store I (StoredResult I R T)) → Type 0
  StoresNewest same [] r target old new = ⊥
  StoresNewest same (s ∷ below) r target old new = StoresAnswer same old new s.0.input (final_answer s r target)

  -- the newest goal's result was stored, or nothing was
  abbrev pub MayPutNewest : (I → I → Bool) → List (OpenGoal X F I R A T) → R
      → (old new : Store I (StoredResult I R T)) → Type 0
  MayPutNewest same [] r old new = ⊥
  MayPutNewest same (s ∷ below) r old new = MayPut same old new s.0.input (place_of_item s) s.0.state.required_depth r
