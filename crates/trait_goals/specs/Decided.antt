-- Tables of which each question can be answered yes or no.
use Rattle.std.specs.Prelude.{◌≡◌, ◌<◌, ℕ, All, List, [], length, Contains, get_or, slice_get, slice_index, Option}
use Rattle.std.specs.Prelude.{Some, None}
use Rattle.std.specs.List.{flat_map}
use Rattle.search_context.specs.Decisive.{IsDecidedKind}
use Rattle.trait_goals.specs.Known.{IsKnown, Table, candidates_at, kind_at}
use Rattle.trait_goals.specs.declared.asked.Candidate.{Candidate}
use Rattle.trait_goals.specs.declared.asked.Candidates.{Candidates}

-- some known candidate of the goal asks the other one
pub record AsksGoal (table : Table) (goal other : ℕ) : Type 0 where
  pub known : Candidates
  pub is_known : candidates_at table goal ≡ Some known
  pub candidate : Candidate
  pub is_candidate : Contains known.all.items candidate
  pub is_question : Contains candidate.questions.items other

-- questions lead from the goal to the other one, or the two are one
pub data LeadsTo (table : Table) : ℕ → ℕ → Type 0 where
  here : {goal : ℕ} → LeadsTo table goal goal
  on : {goal asked other : ℕ} → AsksGoal table goal asked → LeadsTo table asked other → LeadsTo table goal other

-- goals that lead to each other ask by one kind
abbrev pub AskByOneKind : Table → Type 0
AskByOneKind table = (goal other : ℕ) → LeadsTo table goal other → LeadsTo table other goal →
    kind_at table goal ≡ kind_at table other

-- all goals are known, each asks inductively or coinductively, and goals that lead to each other ask by one kind
pub record AreAllDecided (table : Table) : Type 0 where
  pub known : (goal : ℕ) → goal < length table.asked → IsKnown table goal
  pub decided : (goal : ℕ) → goal < length table.asked → IsDecidedKind (kind_at table goal)
  pub one_kind : AskByOneKind table

-- each goal asks by a kind whose cycles are yes or no
abbrev pub HaveDecidedKinds : Table → Type 0
HaveDecidedKinds table = (goal : ℕ) → goal < length table.asked → IsDecidedKind (kind_at table goal)

-- the goals that candidates ask, if they are known
abbrev pub questions_at : Option Candidates → List ℕ
questions_at None = []
questions_at (Some known) = flat_map (λ c. c.questions.items) known.all.items

-- the list has what each goal asks, as far as so many goals
pub record IsGraphTo (table : Table) (graph : List (List ℕ)) (count : ℕ) : Type 0 where
  pub each : length graph ≡ count
  pub at : (goal : ℕ) → goal < count → slice_get graph goal ≡ Some (questions_at (candidates_at table goal))

abbrev pub IsGraphOf : Table → List (List ℕ) → Type 0
IsGraphOf table graph = IsGraphTo table graph (length table.asked)

-- the two ask by one kind, if the same number stands at their places
abbrev pub AreAlike : Table → List ℕ → ℕ → ℕ → Type 0
AreAlike table numbers goal asked =
    slice_index numbers goal ≡ slice_index numbers asked → kind_at table goal ≡ kind_at table asked

-- each goal and those that it asks do
abbrev pub AreAllAlike : Table → List (List ℕ) → List ℕ → Type 0
AreAllAlike table graph numbers =
    (goal : ℕ) → goal < length graph → All (AreAlike table numbers goal) (get_or graph goal [])
