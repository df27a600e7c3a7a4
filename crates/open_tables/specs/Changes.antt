-- What a table of rules has once it was changed.
use Rattle.std.specs.Prelude.{◌≡◌, ◌⊎◌, ℕ, Bool, if◌then◌else◌, List, [], ◌∷◌, ◌++◌, fold, Some}
use Rattle.std.specs.List.{AllZip}
use Rattle.std.specs.Str.{bytes_eq}
use Rattle.rule_tables.specs.Grammar.{NamedQuestion}
use Rattle.rule_tables.specs.Table.{IsCandidate, NamedCandidate}
use Rattle.rule_tables.specs.declared.rules.Goal.{Goal}
use Rattle.open_tables.specs.Table.{Table, candidates_of, name_of, names_of}

-- one change
pub data Change : Type 0 where
  -- one more rule of the name
  Add : Bool → List ℕ → List NamedQuestion → Change
  -- the rules of the name go
  Clear : List ℕ → Change

-- the candidates of a name after one more change
abbrev pub candidates_with : List ℕ → List NamedCandidate → Change → List NamedCandidate
candidates_with name before (Add is_marked head questions) =
    if bytes_eq head name then before ++ record { is_marked = is_marked; questions = questions } ∷ [] else before
candidates_with name before (Clear head) = if bytes_eq head name then [] else before

-- after all of these: those of its rules since it was cleared last, in order
abbrev pub candidates_after : List Change → List ℕ → List NamedCandidate
candidates_after changes name = fold (candidates_with name) [] changes

-- The table has these changes: a name is that of one goal, which has the candidates of the name, and no other name has
-- any.
pub record IsOpenTableOf (changes : List Change) (table : Table) : Type 0 where
  pub once : (goal other : Goal) (name : List ℕ) → name_of table goal ≡ Some name → name_of table other ≡ Some name
      → goal ≡ other
  pub known : (name : List ℕ)
      → (candidates_after changes name ≡ []) ⊎ ((goal : Goal) × (name_of table goal ≡ Some name))
  pub candidates : (goal : Goal) (name : List ℕ) → name_of table goal ≡ Some name
      → AllZip (IsCandidate (names_of table)) (candidates_of table goal) (candidates_after changes name)

-- the new table has one more change than the old one
abbrev pub HasChange : Change → Table → Table → Type 0
HasChange change old new =
    (changes : List Change) → IsOpenTableOf changes old → IsOpenTableOf (changes ++ change ∷ []) new

-- the new table has the changes that the old one had
abbrev pub HasNoChange : Table → Table → Type 0
HasNoChange old new = (changes : List Change) → IsOpenTableOf changes old → IsOpenTableOf changes new
