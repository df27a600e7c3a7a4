-- What is left of a store when the results of some goals are forgotten.
use Rattle.std.proofs.Common.{◌≡◌, Bool, true, false, not, cond, if◌then◌else◌, ◌&&◌, Option, None, Some, List, []}
use Rattle.std.proofs.Common.{◌∷◌, ◌++◌, refl, sym, ap, ◌∙◌, subst}
use Rattle.std.proofs.Math.Bool.{◌||◌}
use Rattle.std.specs.Cmp.{IsEquivalence}
use Rattle.std.specs.List.{filter}
use Rattle.std.specs.Map.{lookup}
use Rattle.std.proofs.lemmas.Bool.{and_parts}
use Rattle.std.proofs.lemmas.List.Folds.{list_any-append}
use Rattle.std.proofs.lemmas.Map.Entries.{lookup-filter-keys}
use Rattle.global_cache.specs.Words.{ForgetsSuccesses, is_among, KeepsOtherResults, Place, same_key, same_place, Store}
use Rattle.global_cache.specs.Words.{stored_at, Success, TellsOverflow, WithOverflow}
use Rattle.global_cache.specs.contracts.results.PlacePartialEq.TheImpl as derived
use Rattle.global_cache.proofs.Stores.{found_at, same_by_value}

by_test : {A : Type 0} (b : Bool) (o : Option A) → cond (not b) o None ≡ (if b then None else o)
by_test true o = refl
by_test false o = refl

none_left : {A : Type 0} (b : Bool) (o : Option A) → o ≡ None → (if b then None else o) ≡ None
none_left true o is = refl
none_left false o is = is

pub left_there : {A : Type 0} (b : Bool) (o : Option A) (x : A) → (if b then None else o) ≡ Some x
    → (b ≡ false) × (o ≡ Some x)
left_there true o x is = absurd cc
left_there false o x is = (refl, is)

module _ {I S : Type 0} (same : I → I → Bool) (is_gone : I → Bool)
    (respects : (x y : I) → same x y ≡ true → is_gone x ≡ is_gone y) where
  results_left : (store : Store I S)
      → KeepsOtherResults same is_gone store (filter (λ e. not (is_gone e.0.0)) store)
  results_left store goal place =
      lookup-filter-keys (same_key same (goal, place)) (λ key. not (is_gone key.0)) (not (is_gone goal))
      (λ key at. ap not
      (sym (respects goal key.0 (and_parts (same goal key.0) (same_place place key.1) at).0))) store
      ∙ by_test (is_gone goal) (stored_at same store goal place)

  -- what is left of results that these are
  pub others_are_stored : (store old new : Store I S) → store ≡ old → new ≡ filter (λ e. not (is_gone e.0.0)) store
      → KeepsOtherResults same is_gone old new
  others_are_stored store old new view is =
      subst (KeepsOtherResults same is_gone old) (sym is)
      (subst (λ (was : Store I S). KeepsOtherResults same is_gone was (filter (λ e. not (is_gone e.0.0)) store)) view
      (results_left store))

  pub TellsOverflow-left : (is_said : Bool) (store new : Store I S) → KeepsOtherResults same is_gone store new
      → TellsOverflow same is_said store → TellsOverflow same is_said new
  TellsOverflow-left is_said store new left tells unsaid input depth =
      left input (WithOverflow depth)
      ∙ none_left (is_gone input) (stored_at same store input (WithOverflow depth)) (tells unsaid input depth)

-- where no goal is gone, all stays
pub none_goes : {I S : Type 0} (same : I → I → Bool) (goals : List I) (store : Store I S) → goals ≡ []
    → KeepsOtherResults same (is_among same goals) store store
none_goes same goals store none goal place =
    ap (λ l. if is_among same l goal then None else stored_at same store goal place) (sym none)

-- ---- goals are gone one by one

forgets_both : {A : Type 0} (before now place : Bool) (o : Option A)
    → cond (now && place) None (if before && place then None else o)
    ≡ (if (before || (now || false)) && place then None else o)
forgets_both true true true o = refl
forgets_both true true false o = refl
forgets_both true false true o = refl
forgets_both true false false o = refl
forgets_both false true true o = refl
forgets_both false true false o = refl
forgets_both false false true o = refl
forgets_both false false false o = refl

module _ {I S : Type 0} {same : I → I → Bool} (laws : IsEquivalence same) where
  pub none_forgotten : (store : Store I S) → ForgetsSuccesses same (is_among same []) store store
  none_forgotten store goal place = refl

  -- the success of one more goal is forgotten
  pub one_forgotten : (goals : List I) (goal : I) (old mid new : Store I S)
      → ForgetsSuccesses same (is_among same goals) old mid
      → ((key : I × Place) → lookup (λ other. same key.0 other.0 && derived.ghosts.eq key.1 other.1) new
      ≡ cond (same goal key.0 && derived.ghosts.eq Success key.1) None
      (lookup (λ other. same key.0 other.0 && derived.ghosts.eq key.1 other.1) mid))
      → ForgetsSuccesses same (is_among same (goals ++ goal ∷ [])) old new
  one_forgotten goals goal old mid new before updates other place =
      sym (found_at same new other place)
      ∙ updates (other, place)
      ∙ ap (λ b. cond (same goal other && b) None
      (lookup (λ key. same other key.0 && derived.ghosts.eq place key.1) mid)) (same_by_value Success place)
      ∙ ap (cond (same goal other && same_place Success place) None)
      (found_at same mid other place ∙ before other place)
      ∙ ap (λ b. cond (b && same_place Success place) None
      (if is_among same goals other && same_place Success place then None else stored_at same old other place))
      (laws.symm goal other)
      ∙ forgets_both (is_among same goals other) (same other goal) (same_place Success place)
      (stored_at same old other place)
      ∙ ap (λ b. if b && same_place Success place then None else stored_at same old other place)
      (sym (list_any-append (same other) goals (goal ∷ [])))
