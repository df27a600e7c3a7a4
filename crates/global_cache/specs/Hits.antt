-- What a look-up in the store gives: the first result that may be used and whose nested goals a test accepts.
use Rattle.std.specs.Prelude.{ℕ, nat_le, Bool, true, false, if◌then◌else◌, List, [], ◌∷◌, ◌++◌, Option, None, Some}
use Rattle.std.specs.List.{find}
use Rattle.global_cache.specs.declared.results.Place.TheVariants.{Success, WithOverflow}
use Rattle.global_cache.specs.declared.results.StoredResult.{StoredResult}
use Rattle.search_stack.specs.Hit.{Hit}
use Rattle.goal_paths.specs.Nested.{NestedPaths}
use Rattle.global_cache.specs.Store.{Store, stored_at}

module _ {I R T : Type 0} where
  -- a stored result that is used at this required depth
  abbrev pub hit_at : ℕ → Bool → StoredResult I R T → Hit I R T
  hit_at depth overflow s = record {
    result = s.result.result;
    token = s.result.token;
    required_depth = depth;
    encountered_overflow = overflow;
    nested_goals = s.nested_goals;
    node = s.node;
  }

  -- a success may be used where the available depth is at least what it requires
  abbrev pub successes : ℕ → Option (StoredResult I R T) → List (Hit I R T)
  successes available None = []
  successes available (Some s) =
      if nat_le s.required_depth available then hit_at s.required_depth false s ∷ [] else []

  -- an overflow result may be used where the available depth is its key
  abbrev pub overflows : ℕ → Option (StoredResult I R T) → List (Hit I R T)
  overflows available None = []
  overflows available (Some s) = hit_at available true s ∷ []

  -- the results of a goal that may be used at an available depth, the success first
  abbrev pub usable : (I → I → Bool) → Store I (StoredResult I R T) → I → ℕ → List (Hit I R T)
  usable same store input available =
      successes available (stored_at same store input Success)
      ++ overflows available (stored_at same store input (WithOverflow available))

-- the first hit whose nested goals the test accepts
abbrev pub first_accepted : {I R T : Type 0} → (NestedPaths I → Bool) → List (Hit I R T) → Option (Hit I R T)
first_accepted accepts hits = find (λ hit. accepts hit.nested_goals) hits
