-- What stays of a table as it changes.
use Rattle.std.specs.Prelude.{◌≡◌, ℕ, List, [], ◌∷◌, ◌++◌, Contains, Some, length}
use Rattle.rule_tables.specs.Candidate.{Candidate}
use Rattle.rule_tables.specs.declared.rules.Goal.{Goal}
use Rattle.open_tables.specs.Table.{Table, candidates_at, candidates_of, name_of}

-- a goal that had a name has it
abbrev pub KeepsNames : Table → Table → Type 0
KeepsNames old new = (goal : Goal) (name : List ℕ) → name_of old goal ≡ Some name → name_of new goal ≡ Some name

-- each goal has the candidates that it had
abbrev pub KeepsCandidates : Table → Table → Type 0
KeepsCandidates old new = (goal : Goal) → candidates_of new goal ≡ candidates_of old goal

-- each goal but one has
abbrev pub KeepsOtherCandidates : Goal → Table → Table → Type 0
KeepsOtherCandidates changed old new =
    (goal : Goal) → (goal ≡ changed → ⊥) → candidates_of new goal ≡ candidates_of old goal

-- each goal but these has
abbrev pub KeepsAllOtherCandidates : List Goal → Table → Table → Type 0
KeepsAllOtherCandidates changed old new =
    (goal : Goal) → (Contains changed goal → ⊥) → candidates_of new goal ≡ candidates_of old goal

-- the goal has one more candidate, behind the others, and nothing else is another
pub record AddsCandidate (goal : Goal) (candidate : Candidate) (old new : Table) : Type 0 where
  pub names : new.names ≡ old.names
  pub here : candidates_of new goal ≡ candidates_of old goal ++ candidate ∷ []
  pub others : KeepsOtherCandidates goal old new

-- at the place stand no candidates, and elsewhere what stood there
pub record ClearsAt (place : ℕ) (old new : List (List Candidate)) : Type 0 where
  pub as_many : length new ≡ length old
  pub here : candidates_at new place ≡ []
  pub others : (other : ℕ) → (other ≡ place → ⊥) → candidates_at new other ≡ candidates_at old other

-- the goal has no candidates, and nothing else is another
pub record ClearsCandidates (goal : Goal) (old new : Table) : Type 0 where
  pub names : new.names ≡ old.names
  pub here : candidates_of new goal ≡ []
  pub others : KeepsOtherCandidates goal old new
