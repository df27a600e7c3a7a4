-- The results that a cache stores: of each goal at most one success, and for each depth at most one overflow result.
use Rattle.std.specs.Prelude.{◌≡◌, ℕ, ◌==◌, ◌&&◌, Bool, true, false, if◌then◌else◌, List, Option, None, Some, Result}
use Rattle.std.specs.Prelude.{Ok, Err, IfErr, []}
use Rattle.std.specs.Hash.{HashWrites, usize}
use Rattle.std.specs.Map.{lookup}
use Rattle.std.specs.Option.{IsSomeAnd}
use Rattle.search_context.specs.declared.context.Fault.{Fault}
use Rattle.search_context.specs.declared.context.Fault.TheVariants.{Memory, Conflict}
use Rattle.global_cache.specs.declared.results.Place.{Place}
use Rattle.global_cache.specs.declared.results.Place.TheVariants.{Success, WithOverflow}
use Rattle.global_cache.specs.declared.results.StoredResult.{StoredResult}
use Rattle.search_stack.specs.declared.result.EvaluationResult.{EvaluationResult}

-- both are the success, or overflow results under the same depth
abbrev pub same_place : Place → Place → Bool
same_place Success Success = true
same_place (WithOverflow depth) (WithOverflow other) = depth == other
same_place _ _ = false

-- whether results that met overflow have their place there
abbrev pub is_of_overflow : Place → Bool
is_of_overflow Success = false
is_of_overflow (WithOverflow depth) = true

-- what the hash of a place is made of
abbrev pub hashed_of : Place → HashWrites
hashed_of Success = []
hashed_of (WithOverflow depth) = usize depth

-- both are the same place of the same goal
abbrev pub same_key : {I : Type 0} → (I → I → Bool) → I × Place → I × Place → Bool
same_key same key other = same key.0 other.0 && same_place key.1 other.1

-- what is stored by goal and place, in some order
abbrev pub Store : Type 0 → Type 0 → Type 0
Store I S = List ((I × Place) × S)

-- what is stored of a goal at a place
abbrev pub stored_at : {I S : Type 0} → (I → I → Bool) → Store I S → I → Place → Option S
stored_at same store input place = lookup (same_key same (input, place)) store

-- where it is not said that a result that met overflow was stored, there is none
abbrev pub TellsOverflow : {I S : Type 0} → (I → I → Bool) → Bool → Store I S → Type 0
TellsOverflow {I} same is_said store =
    is_said ≡ false → (input : I) (depth : ℕ) → stored_at same store input (WithOverflow depth) ≡ None

-- the new store has this at the place of the goal, and everywhere else what the old one has
pub record Puts {I S : Type 0} (same : I → I → Bool) (old new : Store I S) (input : I)
    (place : Place) (stored : S) : Type 0 where
  pub here : stored_at same new input place ≡ Some stored
  pub others : (other : I) (at : Place) → same_key same (input, place) (other, at) ≡ false
      → stored_at same new other at ≡ stored_at same old other at

-- each stored result is still in its place, or an equal one is
abbrev pub KeepsResults : {I R T : Type 0} → (I → I → Bool) → Store I (StoredResult I R T)
    → Store I (StoredResult I R T) → Type 0
KeepsResults {I} {R} {T} same old new =
    (input : I) (place : Place) (s : StoredResult I R T)
    → stored_at same old input place ≡ Some s
    → IsSomeAnd (stored_at same new input place) (λ t. t.result.result ≡ s.result.result)

-- where a result of a goal belongs
abbrev pub place_of : {X I R A T : Type 0} → EvaluationResult X I R A T → Place
place_of evaluated = if evaluated.encountered_overflow then WithOverflow evaluated.required_depth else Success

-- what is stored of a result
abbrev pub stored_from : {X I R A T : Type 0} → EvaluationResult X I R A T → T → StoredResult I R T
stored_from evaluated token = record {
  required_depth = evaluated.required_depth;
  nested_goals = evaluated.nested_goals;
  result = record { result = evaluated.result; token = token };
  node = evaluated.node;
}

-- The answer of storing a result of a goal, by what is stored in its place: where that is an equal result, `Ok`; where
-- it is another one, the conflict of the two; where nothing is, `Ok` or that memory is out.
abbrev pub AnswersStoring : {I R T : Type 0} → (R → R → Bool) → I → Option (StoredResult I R T) → R
    → Result (Unit {0}) (Fault I R) → Type 0
AnswersStoring same input (Some s) found answer =
    answer ≡ (if same s.result.result found then Ok tt else Err (Conflict input s.result.result found))
AnswersStoring same input None found answer = IfErr answer (λ fault. fault ≡ Memory)
