-- A map by goal and place as a store, and that what is stored in it stays.
use Rattle.std.proofs.Common.{◌≡◌, ℕ, Bool, true, false, ◌&&◌, if◌then◌else◌, Option, None, Some, Result, Ok, Err, ◌⊎◌}
use Rattle.std.proofs.Common.{inl, inr, refl, sym, ap, ap₂, ◌∙◌, subst}
use Rattle.std.proofs.Math.Bool.{◌||◌}
use Rattle.std.specs.Prelude.{OnErr, OnOk}
use Rattle.std.proofs.lemmas.Bool.{and_parts, cases_Bool, eqb-true, or_parts}
use Rattle.std.specs.Map.{lookup}
use Rattle.std.specs.Option.{IsSomeAnd, IfSome}
use Rattle.global_cache.specs.Below.{Fault, Conflict}
use Rattle.global_cache.specs.Words.{Place, Success, WithOverflow, StoredResult, is_of_overflow, same_place, same_key}
use Rattle.global_cache.specs.Words.{Store, stored_at, Puts, AnswersStoring, KeepsResults, TellsOverflow}
use Rattle.global_cache.specs.contracts.results.PlacePartialEq.TheImpl as derived

-- derived equality of places
pub same_by_value : (place other : Place) → derived.ghosts.eq place other ≡ same_place place other
same_by_value Success Success = refl
same_by_value Success (WithOverflow other) = refl
same_by_value (WithOverflow depth) Success = refl
same_by_value (WithOverflow depth) (WithOverflow other) = refl

module _ {I S : Type 0} (same : I → I → Bool) where
  -- what a map finds at a goal's place
  pub found_at : (store : Store I S) (input : I) (place : Place)
      → lookup (λ key. same input key.0 && derived.ghosts.eq place key.1) store ≡ stored_at same store input place
  found_at store input place = λ i. lookup (λ key. same input key.0 && same_by_value place key.1 i) store

  -- a map where one key has a new value
  pub puts : (old new : Store I S) (input : I) (place : Place) (stored : S)
      → lookup (λ key. same input key.0 && derived.ghosts.eq place key.1) new ≡ Some stored
      → ((key : I × Place) → same input key.0 && derived.ghosts.eq place key.1 ≡ false
      → lookup (λ other. same key.0 other.0 && derived.ghosts.eq key.1 other.1) new
      ≡ lookup (λ other. same key.0 other.0 && derived.ghosts.eq key.1 other.1) old)
      → Puts same old new input place stored
  puts old new input place stored here others = record {
    here = sym (found_at new input place) ∙ here;
    others = λ other at apart.
        sym (found_at new other at)
        ∙ others (other, at) (ap (λ b. same input other && b) (same_by_value place at) ∙ apart)
        ∙ found_at old other at;
  }

same_place_by_value : (place other : Place) → same_place place other ≡ true → place ≡ other
same_place_by_value Success Success e = refl
same_place_by_value (WithOverflow depth) (WithOverflow other) e = ap WithOverflow (eqb-true depth other e)
same_place_by_value _ _ e = absurd cc

-- A put leaves the new result at its own place, and what was there at each other one.
pub put_cases : {I S : Type 0} (same : I → I → Bool) (by_value : (x y : I) → same x y ≡ true → x ≡ y)
    (old new : Store I S) (input : I) (place : Place) (stored : S) → Puts same old new input place stored
    → (other : I) (at : Place)
    → ((input ≡ other) × (place ≡ at)) ⊎ (stored_at same new other at ≡ stored_at same old other at)
put_cases same by_value old new input place stored puts other at =
    elim (cases_Bool (same_key same (input, place) (other, at))) [
      | inl e ↦
          let w = and_parts (same input other) (same_place place at) e in
          inl (by_value input other w.0, same_place_by_value place at w.1)
      | inr e ↦ inr (puts.others other at e)
    ]

off_success : (b : Bool) (place : Place) (depth : ℕ) → is_of_overflow place ≡ false
    → b && same_place place (WithOverflow depth) ≡ false
off_success true Success depth is = refl
off_success false Success depth is = refl
off_success b (WithOverflow other) depth is = absurd cc

-- a put says that a result that met overflow is stored, where it is one
pub TellsOverflow-put : {I S : Type 0} (same : I → I → Bool) (is_said : Bool) (old new : Store I S) (input : I)
    (place : Place) (stored : S) → Puts same old new input place stored → TellsOverflow same is_said old
    → TellsOverflow same (is_said || is_of_overflow place) new
TellsOverflow-put same is_said old new input place stored put tells not_said other depth =
    let unsaid = or_parts is_said (is_of_overflow place) not_said in
    put.others other (WithOverflow depth) (off_success (same input other) place depth unsaid.1)
    ∙ tells unsaid.0 other depth

agreed : {E : Type 0} (b : Bool) (fault : E) (answer : Result (Unit {0}) E) → answer ≡ Ok tt
    → answer ≡ (if b then Ok tt else Err fault) → b ≡ true
agreed true fault answer ok h = refl
agreed false fault answer ok h = absurd cc

-- where no conflict was found, what is stored in the place is equal
pub no_conflict : {I R T : Type 0} (same : R → R → Bool) → ((x y : R) → same x y ≡ true → x ≡ y)
    → (input : I) (o : Option (StoredResult I R T)) (found : R)
    → (answer : Result (Unit {0}) (Fault I R)) → answer ≡ Ok tt → AnswersStoring same input o found answer
    → IfSome o (λ s. s.result.result ≡ found)
no_conflict same by_value input None found answer ok is = tt
no_conflict same by_value input (Some s) found answer ok is =
    by_value s.result.result found
    (agreed (same s.result.result found) (Conflict input s.result.result found) answer ok is)

module _ {I R T : Type 0} (same : I → I → Bool) where
  -- a stored result stays where its place does
  stays : (old new : Store I (StoredResult I R T)) (input : I) (place : Place) (s : StoredResult I R T)
      → stored_at same new input place ≡ stored_at same old input place → stored_at same old input place ≡ Some s
      → IsSomeAnd (stored_at same new input place) (λ t. t.result.result ≡ s.result.result)
  stays old new input place s unchanged is =
      subst (λ o. IsSomeAnd o (λ t. t.result.result ≡ s.result.result)) (sym (unchanged ∙ is)) refl

  pub KeepsResults-same : (old new : Store I (StoredResult I R T)) → new ≡ old → KeepsResults same old new
  KeepsResults-same old new unchanged input place s is =
      stays old new input place s (ap (λ store. stored_at same store input place) unchanged) is

  then_kept : (later : Store I (StoredResult I R T)) (input : I) (place : Place) (r : R)
      (o : Option (StoredResult I R T))
      → IsSomeAnd o (λ t. t.result.result ≡ r)
      → ((t : StoredResult I R T) → o ≡ Some t
      → IsSomeAnd (stored_at same later input place) (λ u. u.result.result ≡ t.result.result))
      → IsSomeAnd (stored_at same later input place) (λ u. u.result.result ≡ r)
  then_kept later input place r None first second = absurd first
  then_kept later input place r (Some t) first second =
      subst (λ x. IsSomeAnd (stored_at same later input place) (λ u. u.result.result ≡ x)) first (second t refl)

  pub KeepsResults-then : (old new later : Store I (StoredResult I R T)) → KeepsResults same old new
      → KeepsResults same new later → KeepsResults same old later
  KeepsResults-then old new later first second input place s is =
      then_kept later input place s.result.result (stored_at same new input place)
      (first input place s is) (second input place)

  -- a result is put where nothing is stored, or an equal one
  pub KeepsResults-put : ((x y : I) → same x y ≡ true → x ≡ y)
      → (old new : Store I (StoredResult I R T)) (input : I) (place : Place) (stored : StoredResult I R T)
      → Puts same old new input place stored
      → IfSome (stored_at same old input place) (λ s. s.result.result ≡ stored.result.result)
      → KeepsResults same old new
  KeepsResults-put by_value old new input place stored puts equal other at s is =
      elim (put_cases same by_value old new input place stored puts other at) [
        | inl w ↦
            let here : stored_at same new other at ≡ Some stored =
            ap₂ (stored_at same new) (sym w.0) (sym w.1) ∙ puts.here in
            let was : stored_at same old input place ≡ Some s = ap₂ (stored_at same old) w.0 w.1 ∙ is in
            let e : s.result.result ≡ stored.result.result =
            subst (λ o. IfSome o (λ t. t.result.result ≡ stored.result.result)) was equal in
            subst (λ o. IsSomeAnd o (λ t. t.result.result ≡ s.result.result)) (sym here) (sym e)
        | inr unchanged ↦ stays old new other at s unchanged is
      ]

  -- what is stored stays, whatever storing is answered with
  pub KeepsResults-answered : ((x y : I) → same x y ≡ true → x ≡ y) → (equal : R → R → Bool)
      → ((x y : R) → equal x y ≡ true → x ≡ y) → (answer : Result (Unit {0}) (Fault I R))
      → (old new : Store I (StoredResult I R T)) (input : I) (place : Place) (stored : StoredResult I R T)
      → OnOk answer (Puts same old new input place stored) → OnErr answer (new ≡ old)
      → AnswersStoring equal input (stored_at same old input place) stored.result.result answer
      → KeepsResults same old new
  KeepsResults-answered by_value equal equal_by_value (Ok u) old new input place stored puts unchanged answers =
      KeepsResults-put by_value old new input place stored puts
      (no_conflict equal equal_by_value input (stored_at same old input place) stored.result.result (Ok u) refl answers)
  KeepsResults-answered by_value equal equal_by_value (Err e) old new input place stored puts unchanged answers =
      KeepsResults-same old new unchanged
