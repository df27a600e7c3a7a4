-- What becomes of the results of the goals under evaluation, through the moves, and which stored results stay.
use Rattle.std.proofs.Common.{◌≡◌, ◌||◌, ℕ, Bool, true, false, List, [], ◌∷◌, Option, None, Some, refl, sym, ap}
use Rattle.std.proofs.Common.{◌∙◌, subst}
use Rattle.std.specs.List.{list_any}
use Rattle.std.specs.Option.{IsSomeAnd, option_map}
use Rattle.run_records.specs.declared.runs.Fate.{Fate}
use Rattle.run_records.specs.declared.runs.Fate.TheVariants as becomes
use Rattle.search_rules.specs.Below.{AnswersNewest, Reply, CxOf, DelegateOf, Done, EnterCandidate, Evaluate}
use Rattle.search_rules.specs.Below.{FinishCandidate, HasStepped, Heads, Hit, Ignore, Next, NotesCandidate}
use Rattle.search_rules.specs.Below.{NotesOverflow, PathKind, Place, Received, Request, Store, OpenGoal, stored_at}
use Rattle.search_rules.specs.Below.{TakesStored, change_newest, enters, finishes, EvaluationResult, StoredResult}
use Rattle.global_cache.specs.Store.{KeepsResults}
use Rattle.search_rules.specs.Fates.{Stay, Push, Pop, Untouched, OfNewest}
use Rattle.search_rules.specs.Results.{NotStored}
use Rattle.search_rules.specs.Words.{ChangesNewest, Fated, fates_of, HasOldest, HaveExpected, IfCompared, IsExpected}
use Rattle.search_rules.specs.Words.{IsFated, MovesFates, NewestLeaves, NoneStored, Put, Reruns, StoresAnswer}

-- ---- what moves change of the goals

-- a goal under evaluation, with what becomes of its result
abbrev fated : {X F I R A T : Type 0} → OpenGoal X F I R A T → Fated I R
fated s = record { goal = s.0.input; depth = s.0.available_depth.0; fate = s.1.fate }

module _ {X F I R A T : Type 0} (old new : List (OpenGoal X F I R A T)) where
  pub fates_taken : (step : PathKind) (required : ℕ) (overflow : Bool) (answer : Heads)
      → AnswersNewest step required overflow answer old new → fates_of new ≡ fates_of old
  fates_taken step required overflow answer a = ap (λ l. fates_of l) a.is ∙ sym (ap (λ l. fates_of l) a.was)

  pub fates_noted : (same : I → I → Bool) → NotesOverflow same old new → fates_of new ≡ fates_of old
  fates_noted same a = ap (λ l. fates_of l) a.is ∙ sym (ap (λ l. fates_of l) a.was)

  pub fates_stored : (same : I → I → Bool) (step : PathKind) (hit : Hit I R T)
      → TakesStored same step hit old new → fates_of new ≡ fates_of old
  fates_stored same step hit a = ap (λ l. fates_of l) a.is ∙ sym (ap (λ l. fates_of l) a.was)

module _ {X F I R A T : Type 0} where
  -- the newest goal is gone
  pub fates_left : (r : R) (old new : List (OpenGoal X F I R A T)) (next : Next R) → NewestLeaves r old next new
      → (s : Fated I R) × (fates_of old ≡ s ∷ fates_of new)
  fates_left r [] new next l = absurd l
  fates_left r (s ∷ []) new next l = (fated s, ap (λ fs. fated s ∷ fs) (sym (ap (λ gs. fates_of gs) l.2)))
  fates_left r (s ∷ p ∷ below) new next l =
      (fated s, ap (λ fs. fated s ∷ fs) (sym (fates_taken (p ∷ below) new _ _ _ _ l.2)))

  entered : (old : List (OpenGoal X F I R A T)) → fates_of (change_newest enters old) ≡ fates_of old
  entered [] = refl
  entered (s ∷ below) = refl

  finished : (old : List (OpenGoal X F I R A T)) → fates_of (change_newest finishes old) ≡ fates_of old
  finished [] = refl
  finished (s ∷ below) = refl

  pub fates_of_candidates : (request : Request I R) (old new : List (OpenGoal X F I R A T))
      → NotesCandidate request old new → fates_of new ≡ fates_of old
  fates_of_candidates EnterCandidate old new is = ap (λ l. fates_of l) is ∙ entered old
  fates_of_candidates FinishCandidate old new is = ap (λ l. fates_of l) is ∙ finished old
  fates_of_candidates (Ignore number) old new a = ap (λ l. fates_of l) a.is ∙ sym (ap (λ l. fates_of l) a.was)
  fates_of_candidates (Evaluate kind goal) old new is = ap (λ l. fates_of l) is
  fates_of_candidates (Done r) old new is = ap (λ l. fates_of l) is

module _ {D C V P F I R A T : Type 0} (G : DelegateOf D C V P F I R A T) (X : CxOf C I R A T) (cx : C)
    (old new : List (OpenGoal C F I R A T)) where
  pub fates_stepped : (given : Received R) (request : Request I R)
      → HasStepped G X cx given request old new → fates_of new ≡ fates_of old
  fates_stepped given request stepped = ap (λ l. fates_of l) stepped.is ∙ sym (ap (λ l. fates_of l) stepped.was)

  pub fates_rerun : (r : R) → Reruns G X cx r old new → fates_of new ≡ fates_of old
  fates_rerun r again = ap (λ l. fates_of l) again.is ∙ sym (ap (λ l. fates_of l) again.was)

-- ---- what holds of all goals, and of the oldest

or_left : (a b : Bool) → (a || b) ≡ false → a ≡ false
or_left true b none = absurd cc
or_left false b none = refl

or_right : (a b : Bool) → (a || b) ≡ false → b ≡ false
or_right true b none = absurd cc
or_right false b none = none

module _ {I R : Type 0} (same : I → I → Bool) (suits : Fated I R → Type 0) where
  -- where no goal's result is stored, none is after a move
  pub none_stored_moves : ((s : Fated I R) → suits s → s.fate ≡ becomes.NotStored) → (old new : List (Fated I R))
      → MovesFates same suits old new → NoneStored old → NoneStored new
  none_stored_moves none old new (Stay is) h = subst NoneStored (sym is) h
  none_stored_moves none old new (Push s p below was absent suited is) h = subst NoneStored (sym is) (none s suited, h)
  none_stored_moves none old new (Pop s was) h = (subst NoneStored was h).1

  -- a goal that isn't there isn't the oldest
  apart_from : (goal pushed : I) (fate : Fate R) (p : Fated I R) (below : List (Fated I R))
      → HasOldest same goal fate (p ∷ below)
      → list_any (λ s. same pushed s.goal) (p ∷ below) ≡ false → same pushed goal ≡ false
  apart_from goal pushed fate p [] h none =
      subst (λ g. same pushed g ≡ false) h.0 (or_left (same pushed p.goal) false none)
  apart_from goal pushed fate p (q ∷ below) h none = apart_from goal pushed fate q below h.1
      (or_right (same pushed p.goal) (list_any (λ s. same pushed s.goal) (q ∷ below)) none)

  oldest_below : (goal : I) (fate : Fate R) (s : Fated I R) (below : List (Fated I R))
      → HasOldest same goal fate (s ∷ below) → HasOldest same goal fate below
  oldest_below goal fate s [] h = tt
  oldest_below goal fate s (p ∷ below) h = h.1

  -- the oldest goal stays
  pub oldest_moves : (goal : I) (fate : Fate R) (old new : List (Fated I R)) → MovesFates same suits old new
      → HasOldest same goal fate old → HasOldest same goal fate new
  oldest_moves goal fate old new (Stay is) h = subst (HasOldest same goal fate) (sym is) h
  oldest_moves goal fate old new (Push pushed p below was none suited is) h =
      let there = subst (HasOldest same goal fate) was h in
      subst (HasOldest same goal fate) (sym (is ∙ ap (λ l. pushed ∷ l) was)) (
        apart_from goal pushed.goal fate p below there
            (subst (λ l. list_any (λ s. same pushed.goal s.goal) l ≡ false) was none),
        there,
      )
  oldest_moves goal fate old new (Pop s was) h = oldest_below goal fate s new (subst (HasOldest same goal fate) was h)

module _ {I R : Type 0} (same : I → I → Bool) where
  -- ---- stored results that stay

  module _ {S : Type 0} (goals : List (Fated I R)) (old new : Store I S) where
    pub unstored_stay : ChangesNewest same goals old new → NoneStored goals → new ≡ old
    unstored_stay (Untouched is) h = is
    unstored_stay (OfNewest s below at stored others) h =
        let clash : becomes.Stored ≡ becomes.NotStored = sym stored ∙ (subst NoneStored at h).0 in absurd cc

    apart_at : (goal : I) (fate : Fate R) → (fate ≡ becomes.Stored → ⊥) → (s : Fated I R) (below : List (Fated I R))
        → s.fate ≡ becomes.Stored → HasOldest same goal fate (s ∷ below) → same s.goal goal ≡ false
    apart_at goal fate unstored s [] stored h = absurd (unstored (sym h.1 ∙ stored))
    apart_at goal fate unstored s (p ∷ below) stored h = h.0

    pub spared_stays : (goal : I) (fate : Fate R) → (fate ≡ becomes.Stored → ⊥) → ChangesNewest same goals old new
        → HasOldest same goal fate goals → (place : Place)
        → stored_at same new goal place ≡ stored_at same old goal place
    spared_stays goal fate unstored (Untouched is) h place = ap (λ l. stored_at same l goal place) is
    spared_stays goal fate unstored (OfNewest s below at stored others) h place =
        others goal place (apart_at goal fate unstored s below stored (subst (HasOldest same goal fate) at h))

  -- what changed of the only goal changed of the newest
  pub newest_changes : {S : Type 0} (s : Fated I R) (below : List (Fated I R)) (old new : Store I S)
      → ChangesNewest same (s ∷ []) old new → ChangesNewest same (s ∷ below) old new
  newest_changes s below old new (Untouched is) = Untouched is
  newest_changes s below old new (OfNewest t none at stored others) =
      let first : s ≡ t = cc in
      OfNewest t below (ap (λ x. x ∷ below) first) stored others

-- an answer that is stored changes the results of its goal alone
pub storing_changes : {X I R A T : Type 0} (same : I → I → Bool) (old new : Store I (StoredResult I R T)) (goal : I)
    (depth : ℕ) (answer : EvaluationResult X I R A T) → StoresAnswer same old new goal answer
    → ChangesNewest {R = R} same (record { goal = goal; depth = depth; fate = becomes.Stored } ∷ []) old new
storing_changes same old new goal depth answer (NotStored is) = Untouched is
storing_changes same old new goal depth answer (Put token none puts) =
    OfNewest _ [] refl refl (λ other place apart. puts.others other place (rw apart refl))

-- ---- what results are compared with

module _ {I R T : Type 0} (scopes : I → Bool)
    (scripts : I → List (Reply R) → Request I R) (same : I → I → Bool) where
  module _ (old new : Store I (StoredResult I R T)) (kept : KeepsResults same old new) where
    still_expected : (goal : I) (r : R) → IsExpected scopes same old goal r → IsExpected scopes same new goal r
    still_expected goal r h = record {
      in_scope = h.in_scope;
      place = h.place;
      is_stored = at (stored_at same old goal h.place) refl h.is_stored;
    }
      where
        at : (o : Option (StoredResult I R T)) → stored_at same old goal h.place ≡ o
            → option_map (λ s. s.result.result) o ≡ Some r
            → option_map (λ s. s.result.result) (stored_at same new goal h.place) ≡ Some r
        at None is none = absurd cc
        at (Some s) is some = there (stored_at same new goal h.place) s.result.result (kept goal h.place s is) ∙ some
          where
            there : (o : Option (StoredResult I R T)) (r : R) → IsSomeAnd o (λ t. t.result.result ≡ r)
                → option_map (λ s. s.result.result) o ≡ Some r
            there None r none = absurd none
            there (Some t) r is = ap Some is

    if_still : (goal : I) (fate : Fate R) → IfCompared fate (IsExpected scopes same old goal)
        → IfCompared fate (IsExpected scopes same new goal)
    if_still goal becomes.Stored h = tt
    if_still goal becomes.NotStored h = tt
    if_still goal (becomes.Compared r) h = still_expected goal r h

    -- what is kept of the stored results is still to be compared with
    pub expected_kept : (goals : List (Fated I R)) → HaveExpected scopes scripts same old goals
        → HaveExpected scopes scripts same new goals
    expected_kept [] h = tt
    expected_kept (s ∷ below) h =
        (record { expected = if_still s.goal s.fate h.0.expected; plain = h.0.plain }, expected_kept below h.1)

  -- the goals after a move have what they are to be compared with
  pub expected_moves : (results : Store I (StoredResult I R T)) (noop : Bool) (old new : List (Fated I R))
      → MovesFates same (IsFated scopes scripts same results noop) old new
      → HaveExpected scopes scripts same results old → HaveExpected scopes scripts same results new
  expected_moves results noop old new (Stay is) h = subst (HaveExpected scopes scripts same results) (sym is) h
  expected_moves results noop old new (Push s p below was absent suited is) h =
      subst (HaveExpected scopes scripts same results) (sym is) (suited.expected, h)
  expected_moves results noop old new (Pop s was) h = (subst (HaveExpected scopes scripts same results) was h).1
