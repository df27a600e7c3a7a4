-- Goals that rest on nothing but results like their own. Among goals that no question leads out of, with depth enough
-- for all of them, such a goal is answered by what is stored wherever it is asked, so it is never worked out again.
use Rattle.std.specs.Prelude.{◌≡◌, ◌≢◌, ◌+◌, ℕ, Bool, All, Contains, List, [], ◌∷◌, length, Some}
use Rattle.std.specs.Option.{IsSomeAnd}
use Rattle.two_runs.specs.Below.{OpenGoal, Store, stored_at, StoredResult, Success}

module _ {I R T : Type 0} (same : I → I → Bool) (results : Store I (StoredResult I R T)) where
  -- a success of the goal is stored that has no nested goals
  abbrev pub IsLone : I → Type 0
  IsLone goal = IsSomeAnd (stored_at same results goal Success) (λ s. s.nested_goals ≡ [])

  -- these are different goals of the list, and each is lone
  abbrev pub AreLone : (goals : List I) → List I → Type 0
  AreLone goals [] = Unit {0}
  AreLone goals (goal ∷ others) =
      Contains goals goal × IsLone goal × All (λ other. other ≢ goal) others × AreLone goals others

  -- there are so many lone goals among these
  pub record HasLone (goals : List I) (many : ℕ) : Type 0 where
    pub lone : List I
    pub long : length lone ≡ many
    pub are_lone : AreLone goals lone

  -- each lone goal of the list requires no more depth than there are other lone goals
  abbrev pub LoneRequire : List I → Type 0
  LoneRequire goals = (goal : I) (s : StoredResult I R T) → Contains goals goal
      → stored_at same results goal Success ≡ Some s → s.nested_goals ≡ [] → HasLone goals (s.required_depth + 1)

  -- no goal under evaluation is lone; and one without nested goals requires no more depth than there are lone goals
  abbrev pub NoneIsLone : {F X A : Type 0} → List I → List (OpenGoal X F I R A T) → Type 0
  NoneIsLone goals [] = Unit {0}
  NoneIsLone goals (s ∷ below) = (IsLone s.0.input → ⊥)
      × (s.0.state.nested_goals ≡ [] → HasLone goals s.0.state.required_depth) × NoneIsLone goals below
