-- What the provisional cache has after a goal is done.
use Rattle.std.proofs.Common.{◌≡◌, ◌&&◌, ◌++◌, if◌then◌else◌, Bool, true, false, List, [], ◌∷◌, Option, None, Some}
use Rattle.std.proofs.Common.{OnErr, OnOk, IfErr, Result, Ok, Err, map, reverse, option_map, refl, sym, ap, ◌∙◌, subst}
use Rattle.cycle_heads.specs.Heads.{Heads}
use Rattle.cycle_heads.specs.declared.depth.StackDepth.{StackDepth}
use Rattle.cycle_heads.specs.declared.heads.CycleHead.{CycleHead}
use Rattle.provisional_cache.specs.Provisional.{AppendsEntry}
use Rattle.run_records.specs.declared.runs.Fate.{Fate}
use Rattle.run_records.specs.declared.runs.Fate.TheVariants as becomes
use Rattle.global_cache.proofs.Stores.{KeepsResults-same}
use Rattle.search_rules.specs.Fates.{Untouched}
use Rattle.search_rules.proofs.moves.Fates.{storing_changes}
use Rattle.search_rules.specs.Results.{NotStored, StoresAnswer}
use Rattle.search_ends.specs.Storing.{ChangesResults, PutsAnswer, Stores}
use Rattle.search_state.specs.declared.evaluation.Evaluation.{Evaluation}
use Rattle.search_ends.specs.Below.{Cache, CxOf, DelegateOf, entries_at, entries_for, entry_of, EvaluationResult}
use Rattle.search_ends.specs.Below.{highest, IsStored, Lists, PathKind, ProvisionalCacheEntry, StackEntry}
use Rattle.std.proofs.lemmas.List.{append-nil}

module _ {X I R A T : Type 0} (same : I → I → Bool) (by_value : (x y : I) → same x y ≡ true → x ≡ y)
    (stack : List (StackEntry X I R A T)) (step : PathKind) (input : I) (answer : EvaluationResult X I R A T)
    (old new : Lists I (ProvisionalCacheEntry X I R A T)) where
  -- the entry of an answer whose highest head this is
  entry_is : (head : StackDepth) (o : Option (StackDepth × CycleHead)) → highest answer.heads ≡ o
      → Some head ≡ option_map (λ e. e.0) o → entries_for stack step answer ≡ entry_of stack head.0 step answer ∷ []
  entry_is head None at is = absurd cc
  entry_is head (Some top) at is =
      let one : head ≡ top.0 = cc in
      rw (at, entries_for) (ap (λ h. entry_of stack h.0 step answer ∷ []) (sym one))

  -- it was added
  pub entry_added : (head : StackDepth) → Some head ≡ option_map (λ e. e.0) (highest answer.heads)
      → AppendsEntry same old new input (entry_of stack head.0 step answer) → (other : I) → entries_at same new other
      ≡ entries_at same old other ++ (if same input other then entries_for stack step answer else [])
  entry_added head is added other = at (same input other) refl
    where
      at : (b : Bool) → same input other ≡ b
          → entries_at same new other ≡ entries_at same old other ++ (if b then entries_for stack step answer else [])
      at true one =
          subst (λ i. entries_at same new i ≡ entries_at same old i ++ entries_for stack step answer)
          (by_value input other one)
          (added.here ∙ ap (λ l. entries_at same old input ++ l) (sym (entry_is head (highest answer.heads) refl is)))
      at false apart = added.others other apart ∙ sym (append-nil (entries_at same old other))

-- what has a highest head has heads
pub has_heads : (heads : Heads) (head : StackDepth) → Some head ≡ option_map (λ e. e.0) (highest heads) → heads ≡ [] → ⊥
has_heads heads head is none =
    let clash : Some head ≡ None = is ∙ ap (λ l. option_map (λ e. e.0) (highest l)) none in absurd cc

module _ {D C V P F I R A T : Type 0} (G : DelegateOf D C V P F I R A T) (X : CxOf C I R A T) (same : I → I → Bool)
    (by_value : (x y : I) → same x y ≡ true → x ≡ y) (step : PathKind) (goal : I) (answer : EvaluationResult C I R A T)
    (fate : Fate R) (old new : Evaluation D C V P F I R A T) (cache : Cache C I R T) (head : StackDepth)
    (rests : Some head ≡ option_map (λ e. e.0) (highest answer.heads)) where
  -- an answer that rests on goals is a provisional entry,
  pub stores_entry : G.ENABLE_PROVISIONAL_CACHE ≡ true → AppendsEntry same old.provisional new.provisional goal
      (entry_of (reverse (map (λ s. s.0) old.goals)) head.0 step answer)
      → Stores G X same step goal answer fate old new cache
  stores_entry enabled added = record {
    stored = λ stores none. absurd (has_heads answer.heads head rests none);
    compared = λ stored is none. absurd (has_heads answer.heads head rests none);
    entry = λ other.
        subst (λ on. entries_at same new.provisional other ≡ entries_at same old.provisional other
        ++ (if on && same goal other then entries_for (reverse (map (λ s. s.0) old.goals)) step answer else []))
        (sym enabled)
        (entry_added same by_value (reverse (map (λ s. s.0) old.goals)) step goal answer old.provisional
        new.provisional head rests added other);
  }

  -- unless the delegate lets none be used
  pub stores_none : G.ENABLE_PROVISIONAL_CACHE ≡ false → new ≡ old → Stores G X same step goal answer fate old new cache
  stores_none disabled unchanged = record {
    stored = λ stores none. absurd (has_heads answer.heads head rests none);
    compared = λ stored is none. absurd (has_heads answer.heads head rests none);
    entry = λ other.
        subst (λ on. entries_at same new.provisional other ≡ entries_at same old.provisional other
        ++ (if on && same goal other then entries_for (reverse (map (λ s. s.0) old.goals)) step answer else []))
        (sym disabled)
        (ap (λ e. entries_at same e.provisional other) unchanged
        ∙ sym (append-nil (entries_at same old.provisional other)));
  }

-- an answer without heads: nothing is stored of one that is compared, and it has no entry
module _ {D C V P F I R A T : Type 0} (G : DelegateOf D C V P F I R A T) (X : CxOf C I R A T) (same : I → I → Bool)
    (step : PathKind) (goal : I) (answer : EvaluationResult C I R A T) (fate : Fate R)
    (evaluation : Evaluation D C V P F I R A T) (cache : Cache C I R T) where
  no_entry : (stack : List (StackEntry C I R A T)) → highest answer.heads ≡ None → (b : Bool)
      → entries_for stack step answer ≡ [] → (if b then entries_for stack step answer else []) ≡ []
  no_entry stack none true is = is
  no_entry stack none false is = refl

  pub stores_compared : {U E : Type 0} (result : Result U E) (after : Evaluation D C V P F I R A T)
      → after.provisional ≡ evaluation.provisional → (stored : R) → fate ≡ becomes.Compared stored
      → highest answer.heads ≡ None → OnOk result (answer.result ≡ stored)
      → OnOk result (Stores G X same step goal answer fate evaluation after cache)
  stores_compared (Err e) after entries stored is none equal = tt
  stores_compared (Ok u) after entries stored is none equal = record {
    stored = λ stores rests. let clash : becomes.Compared stored ≡ becomes.Stored = sym is ∙ stores in absurd cc;
    compared = λ other also rests. let both : becomes.Compared stored ≡ becomes.Compared other = sym is ∙ also in
        let one : stored ≡ other = cc in equal ∙ one;
    entry = λ other.
        let stack = reverse (map (λ s. s.0) evaluation.goals) in
        ap (λ lists. entries_at same lists other) entries
        ∙ sym (ap (λ l. entries_at same evaluation.provisional other ++ l)
        (no_entry stack none (G.ENABLE_PROVISIONAL_CACHE && same goal other) (rw (none, entries_for) refl))
        ∙ append-nil (entries_at same evaluation.provisional other));
  }

  -- it is stored, and has no entry, either
  pub stores_result : {U E : Type 0} (result : Result U E) (after : Evaluation D C V P F I R A T)
      → after.provisional ≡ evaluation.provisional → fate ≡ becomes.Stored → highest answer.heads ≡ None
      → OnOk result (IsStored same (X.token cache.cx) cache.results goal answer)
      → OnOk result (Stores G X same step goal answer fate evaluation after cache)
  stores_result (Err e) after entries kept none is = tt
  stores_result (Ok u) after entries kept none is = record {
    stored = λ stores rests. is;
    compared = λ stored also rests. let clash : becomes.Stored ≡ becomes.Compared stored = sym kept ∙ also in absurd cc;
    entry = λ other.
        let stack = reverse (map (λ s. s.0) evaluation.goals) in
        ap (λ lists. entries_at same lists other) entries
        ∙ sym (ap (λ l. entries_at same evaluation.provisional other ++ l)
        (no_entry stack none (G.ENABLE_PROVISIONAL_CACHE && same goal other) (rw (none, entries_for) refl))
        ∙ append-nil (entries_at same evaluation.provisional other));
  }

-- a comparison of equal results does not fail
pub equal_results : {U E R : Type 0} (r : Result U E) (memory : E) (found stored : R) → found ≡ stored
    → OnErr r (found ≡ stored → ⊥) → IfErr r (λ fault. fault ≡ memory)
equal_results (Ok u) memory found stored equal differs = tt
equal_results (Err e) memory found stored equal differs = absurd (differs equal)

-- nothing is stored
pub puts_nothing : {C I R A T : Type 0} (same : I → I → Bool) (goal : I) (answer : EvaluationResult C I R A T)
    (fate : Fate R) (cache : Cache C I R T) → PutsAnswer same goal answer fate cache cache
puts_nothing same goal answer fate cache = record {
  cache = record { rest = refl; kept = KeepsResults-same same cache.results cache.results refl };
  stored = NotStored refl;
  changes = λ depth. Untouched refl;
}

-- where its answer is to be stored, that was, or nothing was
pub puts_for_good : {C I R A T : Type 0} (same : I → I → Bool) (goal : I) (answer : EvaluationResult C I R A T)
    (old new : Cache C I R T) → ChangesResults same old new → StoresAnswer same old.results new.results goal answer
    → PutsAnswer same goal answer becomes.Stored old new
puts_for_good same goal answer old new cache stored = record {
  cache = cache;
  stored = stored;
  changes = λ depth. storing_changes same old.results new.results goal depth answer stored;
}
