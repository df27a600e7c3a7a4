-- What becomes of the results of the goals under evaluation, and what moves change of that and of the stored results.
use Rattle.std.specs.Prelude.{◌≡◌, ℕ, ◌≤◌, Bool, true, false, List, [], ◌∷◌, map, Option, None, Some}
use Rattle.std.specs.List.{list_any}
use Rattle.std.specs.Option.{option_map}
use Rattle.search_rules.specs.Below.{Hit, IsPlainTo, IsPlainValue, Place, Reply, Request, Store, OpenGoal}
use Rattle.search_rules.specs.Below.{stored_at, StoredResult}
use Rattle.run_records.specs.declared.runs.Fate.{Fate}
use Rattle.run_records.specs.declared.runs.Fate.TheVariants as becomes

-- The stored result answers the goal, unless the builder records, or the goal is in a scope.
abbrev pub answered_by : {H : Type 0} → (noop in_scope : Bool) → Option H → Option H
answered_by false in_scope found = None
answered_by true true found = None
answered_by true false found = found

-- What becomes of the result of a goal that is asked: with a builder that records it isn't stored; in a scope it is
-- compared with the stored result, if one is found; else it is stored.
abbrev pub fate_for : {I R T : Type 0} → (noop in_scope : Bool) → Option (Hit I R T) → Fate R
fate_for false in_scope found = becomes.NotStored
fate_for true false found = becomes.Stored
fate_for true true None = becomes.Stored
fate_for true true (Some hit) = becomes.Compared hit.result

-- what is found is consulted: it answers the goal, or the goal's result meets this fate
pub record Consults {I R T : Type 0} (noop in_scope : Bool)
    (found answer : Option (Hit I R T)) (meets : Fate R) : Type 0 where
  pub stored : answer ≡ answered_by noop in_scope found
  pub fate : meets ≡ fate_for noop in_scope found

-- whether a result is compared with the goal's
abbrev pub is_compared : {R : Type 0} → Fate R → Bool
is_compared (becomes.Compared r) = true
is_compared _ = false

-- the result that is compared with, if there is one, is so
abbrev pub IfCompared : {R : Type 0} → Fate R → (R → Type 0) → Type 0
IfCompared (becomes.Compared r) P = P r
IfCompared _ P = Unit {0}

-- a goal under evaluation, with its depth and what becomes of its result
pub record Fated (I R : Type 0) : Type 0 where
  pub goal : I
  pub depth : ℕ
  pub fate : Fate R

-- the goals under evaluation, the newest first
abbrev pub fates_of : {X F I R A T : Type 0} → List (OpenGoal X F I R A T) → List (Fated I R)
fates_of goals = map (λ s. record { goal = s.0.input; depth = s.0.available_depth.0; fate = s.1.fate }) goals

-- no result is stored
abbrev pub NoneStored : {I R : Type 0} → List (Fated I R) → Type 0
NoneStored [] = Unit {0}
NoneStored (s ∷ below) = (s.fate ≡ becomes.NotStored) × NoneStored below

-- the newest goal's result is to be stored
abbrev pub IsNewestToStore : {I R : Type 0} → List (Fated I R) → Type 0
IsNewestToStore [] = Unit {0}
IsNewestToStore (s ∷ below) = s.fate ≡ becomes.Stored

-- a result is the one that the newest goal's is to be compared with, if that is its fate
abbrev pub MeetsNewest : {I R : Type 0} → List (Fated I R) → R → Type 0
MeetsNewest [] r = Unit {0}
MeetsNewest (s ∷ below) r = (stored : _) → s.fate ≡ becomes.Compared stored → r ≡ stored

-- the result is stored of the goal, which is in a scope
pub record IsExpected {I R T : Type 0} (scopes : I → Bool) (same : I → I → Bool)
    (results : Store I (StoredResult I R T)) (goal : I) (r : R) : Type 0 where
  pub in_scope : scopes goal ≡ true
  pub place : Place
  pub is_stored : option_map (λ s. s.result.result) (stored_at same results goal place) ≡ Some r

module _ {I R T : Type 0} (scopes : I → Bool) (scripts : I → List (Reply R) → Request I R) (same : I → I → Bool)
    (results : Store I (StoredResult I R T)) where
  -- What the goal's result is to be compared with is stored of it; and is its plain value, if its rank fits its depth.
  pub record HasExpected (s : Fated I R) : Type 0 where
    pub expected : IfCompared s.fate (IsExpected scopes same results s.goal)
    pub plain : (n : ℕ) → IsPlainTo scripts n s.goal → n ≤ s.depth → IfCompared s.fate (IsPlainValue scripts n s.goal)

  -- this is so of all goals
  abbrev pub HaveExpected : List (Fated I R) → Type 0
  HaveExpected [] = Unit {0}
  HaveExpected (s ∷ below) = HasExpected s × HaveExpected below

  -- what becomes of the result of a goal that is asked with this builder
  pub record IsFated (noop : Bool) (s : Fated I R) : Type 0 where
    pub recorded : noop ≡ false → s.fate ≡ becomes.NotStored
    pub expected : HasExpected s

module _ {I R : Type 0} (same : I → I → Bool) where
  -- the oldest is this goal, of whose result this becomes, and no other is this goal
  abbrev pub HasOldest : I → Fate R → List (Fated I R) → Type 0
  HasOldest goal fate [] = Unit {0}
  HasOldest goal fate (s ∷ []) = (s.goal ≡ goal) × (s.fate ≡ fate)
  HasOldest goal fate (s ∷ p ∷ below) = (same s.goal goal ≡ false) × HasOldest goal fate (p ∷ below)

  -- A move leaves the goals with their fates, or pushes a goal that is none of them, with a fate that suits it,
  -- or pops the newest one.
  pub data MovesFates (suits : Fated I R → Type 0) (old new : List (Fated I R)) : Type 0 where
    Stay : new ≡ old → MovesFates suits old new
    Push : (s p : Fated I R) (below : List (Fated I R)) → old ≡ p ∷ below
        → list_any (λ t. same s.goal t.goal) old ≡ false → suits s → new ≡ s ∷ old → MovesFates suits old new
    Pop : (s : Fated I R) → old ≡ s ∷ new → MovesFates suits old new

  -- the stored results are the same, or the newest goal's are others, which are to be stored
  pub data ChangesNewest {S : Type 0} (goals : List (Fated I R)) (old new : Store I S) : Type 0 where
    Untouched : new ≡ old → ChangesNewest goals old new
    OfNewest :
        (s : Fated I R) (below : List (Fated I R))
        → goals ≡ s ∷ below → s.fate ≡ becomes.Stored → ((other : I) (place : Place) → same s.goal other ≡ false
        → stored_at same new other place ≡ stored_at same old other place)
        → ChangesNewest goals old new
