-- What is known where a goal's result could not be stored, or its goal not be popped.
use Rattle.std.proofs.Common.{◌≡◌, if◌then◌else◌, Bool, true, false, List, ◌∷◌, None, Option, option_map, Some, Result}
use Rattle.std.proofs.Common.{Ok, Err, IfErr, OnErr, ap, refl, sym, ◌∙◌, subst}
use Rattle.std.specs.Result.{IsErrAnd}
use Rattle.global_cache.specs.Store.{AnswersStoring}
use Rattle.search_context.specs.declared.context.Fault.TheVariants.{Conflict}
use Rattle.search_rules.proofs.moves.Questions.{if_err_and}
use Rattle.search_rules.specs.Results.{place_of_item}
use Rattle.search_rules.proofs.answers.Differing.{differs_then}
use Rattle.search_rules.specs.Claims.{IfDiffers}
use Rattle.search_ends.specs.Below.{Cache, CxOf, DelegateOf, Fault, Memory, OpenGoal, Place, Store}
use Rattle.search_ends.specs.Below.{stored_at, StoredResult}
use Rattle.search_ends.specs.Popped.{NewestFailsToStore}
use Rattle.search_ends.specs.Storing.{Fails, FailsToStore, HasLastingCause, StoresNothing}
use Rattle.search_state.specs.declared.drafts.Drafts.{Drafts}
use Rattle.search_ends.proofs.results.Causes.{memory_lasts}

-- what holds whether there is a fault or not
pub if_err_then : {V E P : Type 0} (r : Result V E) → P → OnErr r P
if_err_then (Ok v) h = tt
if_err_then (Err fault) h = h

-- memory is out, and nothing was stored
pub memory_stores : {D C V P F I R A T W : Type 0} (G : DelegateOf D C V P F I R A T) (X : CxOf C I R A T)
    (same : I → I → Bool) (old new : Cache C I R T) (after : Drafts) (r : Result W (Fault I R))
    → IsErrAnd r (λ fault. fault ≡ Memory) → new.results ≡ old.results → IfErr r (StoresNothing G X same old new after)
memory_stores G X same old new after (Ok w) is unstored = tt
memory_stores G X same old new after (Err fault) is unstored =
    record { caused = memory_lasts G X same new after fault is; unstored = unstored }

module _ {D C V P F I R A T : Type 0} (G : DelegateOf D C V P F I R A T) (X : CxOf C I R A T) (same : I → I → Bool)
    (came_to : R) (old new : Cache C I R T) (after : Drafts) where
  memory_is : (fault : Fault I R) → fault ≡ Memory → new.results ≡ old.results
      → Fails G X same came_to old new after fault
  memory_is fault is unstored = record {
    stores = record { caused = memory_lasts G X same new after fault is; unstored = unstored };
    differs = subst (λ f. IfDiffers f (λ found. found ≡ came_to)) (sym is) tt;
  }

  -- memory is out
  pub memory_fails : {W : Type 0} (r : Result W (Fault I R)) → IsErrAnd r (λ fault. fault ≡ Memory)
      → new.results ≡ old.results → IfErr r (Fails G X same came_to old new after)
  memory_fails (Ok w) is unstored = tt
  memory_fails (Err fault) is unstored = memory_is fault is unstored

  -- storing failed for want of memory
  pub refused_fails : (r : Result (Unit {0}) (Fault I R)) → r ≡ Err Memory → OnErr r (new.results ≡ old.results)
      → IfErr r (Fails G X same came_to old new after)
  refused_fails (Ok u) is unstored = tt
  refused_fails (Err fault) is unstored = let memory : fault ≡ Memory = cc in memory_is fault memory unstored

  -- or for another cause
  pub storing_fails : {W : Type 0} (r : Result W (Fault I R)) → IfErr r (HasLastingCause G X same new after)
      → IfErr r (λ fault. IfDiffers fault (λ found. found ≡ came_to)) → OnErr r (new.results ≡ old.results)
      → IfErr r (Fails G X same came_to old new after)
  storing_fails (Ok w) caused differs unstored = tt
  storing_fails (Err fault) caused differs unstored =
      record { stores = record { caused = caused; unstored = unstored }; differs = differs }

  -- what was done before stored nothing either
  pub fails_after : (mid : Cache C I R T) (answer : R) (fault : Fault I R) → answer ≡ came_to
      → mid.results ≡ old.results → Fails G X same answer mid new after fault
      → Fails G X same came_to old new after fault
  fails_after mid answer fault is before fails = record {
    stores = record { caused = fails.stores.caused; unstored = fails.stores.unstored ∙ before };
    differs = differs_then fault (λ found. found ≡ answer) (λ found. found ≡ came_to)
        (λ found same_one. same_one ∙ is) fails.differs;
  }

-- ---- whose fault it is

module _ {I R T : Type 0} (same : I → I → Bool)
    (results : Store I (StoredResult I R T)) (goal : I) (place : Place) where
  -- memory is out
  pub wants_memory : (fault : Fault I R) → fault ≡ Memory → FailsToStore same results goal place fault
  wants_memory fault is = subst (FailsToStore same results goal place) (sym is) tt

  -- storing finds the goal's own result, in its place
  found_there : (o : Option (StoredResult I R T)) → stored_at same results goal place ≡ o
      → (equal : R → R → Bool) (found : R) (r : Result (Unit {0}) (Fault I R)) → AnswersStoring equal goal o found r
      → IfErr r (FailsToStore same results goal place)
  found_there None at equal found (Ok u) answers = tt
  found_there None at equal found (Err fault) answers = wants_memory fault answers
  found_there (Some s) at equal found r answers = by (equal s.result.result found) answers
    where
      by : (b : Bool) → r ≡ (if b then Ok tt else Err (Conflict goal s.result.result found))
          → IfErr r (FailsToStore same results goal place)
      by true is = subst (λ x. IfErr x (FailsToStore same results goal place)) (sym is) tt
      by false is = subst (λ x. IfErr x (FailsToStore same results goal place)) (sym is)
          (refl, ap (option_map (λ (t : StoredResult I R T). t.result.result)) at)

  pub storing_finds : (equal : R → R → Bool) (found : R) (r : Result (Unit {0}) (Fault I R))
      → AnswersStoring equal goal (stored_at same results goal place) found r
      → IfErr r (FailsToStore same results goal place)
  storing_finds = found_there (stored_at same results goal place) refl

-- the newest goal failed: for want of memory,
pub newest_wants_memory : {X F I R A T W : Type 0} (same : I → I → Bool) (results : Store I (StoredResult I R T))
    {goals below : List (OpenGoal X F I R A T)} {s : OpenGoal X F I R A T} (r : Result W (Fault I R))
    → goals ≡ s ∷ below → IsErrAnd r (λ fault. fault ≡ Memory) → IfErr r (NewestFailsToStore same results goals)
newest_wants_memory same results {s = s} r was is = subst (λ l. IfErr r (NewestFailsToStore same results l)) (sym was)
    (if_err_and r _ _ is (wants_memory same results s.0.input (place_of_item s)))

-- or as its answer was stored
pub newest_fails_to_store : {X F I R A T : Type 0} (same : I → I → Bool)
    {before results : Store I (StoredResult I R T)} {goals below : List (OpenGoal X F I R A T)}
    {s : OpenGoal X F I R A T} {goal : I} {place : Place} (fault : Fault I R)
    → goals ≡ s ∷ below → results ≡ before → goal ≡ s.0.input → place ≡ place_of_item s
    → FailsToStore same results goal place fault → NewestFailsToStore same before goals fault
newest_fails_to_store same {before = before} {s = s} {goal = goal} {place = place} fault was unstored one there h =
    subst (λ l. NewestFailsToStore same before l fault) (sym was)
    (subst (λ p. FailsToStore same before s.0.input p fault) there
    (subst (λ g. FailsToStore same before g place fault) one
    (subst (λ rs. FailsToStore same rs goal place fault) unstored h)))
