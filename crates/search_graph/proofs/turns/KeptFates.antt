-- What becomes of the goals' results, and which stored results stay, after each move.
use Rattle.std.proofs.Common.{◌≡◌, Bool, false, List, ◌∷◌, [], refl, sym, ap, ◌∙◌, subst}
use Rattle.global_cache.specs.Store.{KeepsResults}
use Rattle.run_records.specs.declared.runs.Fate.{Fate}
use Rattle.run_records.specs.declared.runs.Fate.TheVariants as becomes
use Rattle.search_graph.specs.Below.{ChangesNewest, fates_of, HasOldest, HaveExpected, IsFated, IsNewestToStore}
use Rattle.search_graph.specs.Below.{MeetsNewest, MovesFates, NoneStored, Place, Reply, Request, Store, OpenGoal}
use Rattle.search_graph.specs.Below.{stored_at, StoredResult}
use Rattle.search_graph.specs.Fates.{KeepsFates}
use Rattle.search_rules.proofs.moves.Fates.{expected_kept, expected_moves, none_stored_moves, oldest_moves}
use Rattle.search_rules.proofs.moves.Fates.{spared_stays, unstored_stay}

pub not_stored : {R : Type 0} (fate : Fate R) → fate ≡ becomes.NotStored → fate ≡ becomes.Stored → ⊥
not_stored fate unstored stored = let clash : becomes.NotStored ≡ becomes.Stored = sym unstored ∙ stored in absurd cc

module _ {C F I R A T : Type 0} (scopes : I → Bool) (scripts : I → List (Reply R) → Request I R) (same : I → I → Bool)
    (noop : Bool) (input : I) (fate : Fate R) (old : Store I (StoredResult I R T)) where
  -- the goal is the first one
  pub first_fates : (depth : _) (none goals : List (OpenGoal C F I R A T)) (new : Store I (StoredResult I R T))
      → none ≡ [] → fates_of goals ≡ record { goal = input; depth = depth; fate = fate } ∷ fates_of none
      → IsFated scopes scripts same old noop (record { goal = input; depth = depth; fate = fate }) → new ≡ old
      → KeepsFates scopes scripts same noop input fate old goals new
  first_fates depth none goals new empty is fated unchanged =
      let only : fates_of goals ≡ record { goal = input; depth = depth; fate = fate } ∷ [] =
      is ∙ ap (λ l. record { goal = input; depth = depth; fate = fate } ∷ fates_of l) empty in
      record {
        recording = λ records. subst NoneStored (sym only) (fated.recorded records, tt);
        recorded = λ records. unchanged;
        expected = subst (λ results. HaveExpected scopes scripts same results (fates_of goals)) (sym unchanged)
            (subst (HaveExpected scopes scripts same old) (sym only) (fated.expected, tt));
        oldest = subst (HasOldest same input fate) (sym only) (refl, refl);
        spared = λ unstored place. ap (λ l. stored_at same l input place) unchanged;
      }

  -- the newest of the goals is the first one, if there is no other
  pub only_stores : (goals : List (OpenGoal C F I R A T)) (s : OpenGoal C F I R A T) → goals ≡ s ∷ []
      → fate ≡ becomes.Stored → HasOldest same input fate (fates_of goals) → IsNewestToStore (fates_of goals)
  only_stores goals s is stores h = subst (λ l. IsNewestToStore (fates_of l)) (sym is)
      ((subst (λ l. HasOldest same input fate (fates_of l)) is h).1 ∙ stores)

  -- what it is to be compared with is what the first one is to be, then
  pub only_meets : (goals : List (OpenGoal C F I R A T)) (s : OpenGoal C F I R A T) → goals ≡ s ∷ [] → (r stored : R)
      → fate ≡ becomes.Compared stored → HasOldest same input fate (fates_of goals)
      → MeetsNewest (fates_of goals) r → r ≡ stored
  only_meets goals s is r stored compared h meets = (subst (λ l. MeetsNewest (fates_of l) r) is meets) stored
      ((subst (λ l. HasOldest same input fate (fates_of l)) is h).1 ∙ compared)

  module _ (goals : List (OpenGoal C F I R A T)) (mid new : Store I (StoredResult I R T))
      (h : KeepsFates scopes scripts same noop input fate old goals mid)
      (changes : ChangesNewest same (fates_of goals) mid new) where
    -- no result changed that isn't to be stored,
    pub then_recorded : noop ≡ false → new ≡ old
    then_recorded records =
        unstored_stay same (fates_of goals) mid new changes (h.recording records) ∙ h.recorded records

    pub then_spared : (fate ≡ becomes.Stored → ⊥) → (place : Place)
        → stored_at same new input place ≡ stored_at same old input place
    then_spared unstored place =
        spared_stays same (fates_of goals) mid new input fate unstored changes h.oldest place ∙ h.spared unstored place

    -- and the goals have their fates
    pub then_fates : KeepsResults same mid new → (later : List (OpenGoal C F I R A T))
        → MovesFates same (IsFated scopes scripts same mid noop) (fates_of goals) (fates_of later)
        → KeepsFates scopes scripts same noop input fate old later new
    then_fates kept later moves = record {
      recording = λ records. none_stored_moves same (IsFated scopes scripts same mid noop)
          (λ s suited. suited.recorded records) (fates_of goals) (fates_of later) moves (h.recording records);
      recorded = then_recorded;
      expected = expected_kept scopes scripts same mid new kept (fates_of later)
          (expected_moves scopes scripts same mid noop (fates_of goals) (fates_of later) moves h.expected);
      oldest = oldest_moves same (IsFated scopes scripts same mid noop) input fate
          (fates_of goals) (fates_of later) moves h.oldest;
      spared = then_spared;
    }
