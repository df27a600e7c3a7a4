-- What is kept of the kinds of questions while goals are under evaluation: the stack is a walk of questions, what a
-- goal rests on it reaches, and the paths on record are those of walks of questions.
use Rattle.std.specs.Prelude.{◌≡◌, ◌⊎◌, ℕ, Bool, true, false, All, Contains, IsSome, length, List, [], ◌∷◌, Some}
use Rattle.path_kinds.specs.Paths.{has_empty}
use Rattle.search_graph.specs.Reaching.{AsksNewest, MayAsk, MayReach}
use Rattle.two_runs.specs.Below.{at_depth, entries_at, has_kind, Heads, Lists, NestedPaths, OpenGoal, PathKind}
use Rattle.two_runs.specs.Below.{paths_at, PathsToNested, ProvisionalCacheEntry, Reply, Request, StackDepth, Store}
use Rattle.two_runs.specs.Below.{stored_at, StoredResult, Success}
use Rattle.two_runs.specs.OneKind.{AsksByOneKind, MayLeadTo}

-- no provisional entry is used, or goals that reach each other ask by one kind
abbrev pub EntriesSuit : {I R : Type 0} → (enabled : Bool) → (I → List (Reply R) → Request I R) → Type 0
EntriesSuit enabled scripts = (enabled ≡ false) ⊎ AsksByOneKind scripts

-- The paths have the one of no step, and it is the same goal; or they have one whose kind is that of a walk of
-- questions from the goal to the other.
abbrev pub IsReachedBy : {I R : Type 0} → (I → List (Reply R) → Request I R) → I → PathsToNested → I → Type 0
IsReachedBy scripts goal paths other = ((has_empty paths ≡ true) × (other ≡ goal))
    ⊎ ((kind : PathKind) × (has_kind paths kind ≡ true) × MayLeadTo scripts goal kind other)

module _ {I R : Type 0} (scripts : I → List (Reply R) → Request I R) (same : I → I → Bool) where
  -- each nested goal is reached by its paths
  abbrev pub ReachesNested : I → NestedPaths I → Type 0
  ReachesNested goal nested = (other : I) (paths : PathsToNested) → paths_at same nested other ≡ Some paths
      → IsReachedBy scripts goal paths other

  -- the goals that are nested in the stored success of each of these are reached so
  abbrev pub StoredReachNested : {T : Type 0} → List I → Store I (StoredResult I R T) → Type 0
  StoredReachNested {T} goals results = (goal : I) (s : StoredResult I R T) → Contains goals goal
      → stored_at same results goal Success ≡ Some s → ReachesNested goal s.nested_goals

-- No provisional entry is used, or the goals that are nested in the stored successes of these goals are reached by
-- questions, as their paths tell.
abbrev pub StoredSuit : {I R T : Type 0} → (enabled : Bool) → (I → List (Reply R) → Request I R) → (I → I → Bool)
    → List I → Store I (StoredResult I R T) → Type 0
StoredSuit enabled scripts same goals results = (enabled ≡ false) ⊎ StoredReachNested scripts same goals results

-- each question on a closed walk of questions over the goal is of this kind
abbrev pub AskedByKind : {I R : Type 0} → (I → List (Reply R) → Request I R) → I → PathKind → Type 0
AskedByKind {I} scripts goal kind =
    (other : I) (other_kind : PathKind) (asked : I) → MayAsk scripts other other_kind asked
    → MayReach scripts asked goal → MayReach scripts goal other → other_kind ≡ kind

-- the goal under evaluation at this place, counted from below, is this one
abbrev pub IsGoalAt : {X F I R A T : Type 0} → List (OpenGoal X F I R A T) → ℕ → I → Type 0
IsGoalAt [] place goal = ⊥
IsGoalAt (s ∷ below) place goal = ((place ≡ length below) × (goal ≡ s.0.input)) ⊎ IsGoalAt below place goal

module _ {X F I R A T : Type 0} (scripts : I → List (Reply R) → Request I R) where
  -- the goal and the one at the place reach each other
  pub record IsJoinedTo (goals : List (OpenGoal X F I R A T)) (goal : I) (place : ℕ) : Type 0 where
    pub head : I
    pub is_at : IsGoalAt goals place head
    pub there : MayReach scripts goal head
    pub back : MayReach scripts head goal

  -- the goal and each of the heads reach each other
  abbrev pub AreJoined : List (OpenGoal X F I R A T) → I → Heads → Type 0
  AreJoined goals goal heads = (depth : StackDepth) → IsSome (at_depth heads depth) → IsJoinedTo goals goal depth.0

  module _ (same : I → I → Bool) where
    -- the goal was asked by the one below it, is joined to its heads, and reaches its nested goals
    pub record IsLinked (s : OpenGoal X F I R A T) (below : List (OpenGoal X F I R A T)) : Type 0 where
      pub asked : AsksNewest scripts below s.0.step_kind_from_parent s.0.input
      pub heads : AreJoined below s.0.input s.0.state.heads
      pub nested : ReachesNested scripts same s.0.input s.0.state.nested_goals

    -- the same of all goals
    abbrev pub AreLinked : List (OpenGoal X F I R A T) → Type 0
    AreLinked [] = Unit {0}
    AreLinked (s ∷ below) = IsLinked s below × AreLinked below

    -- the entry's goal is joined to its heads, and its path kind is that of all closed walks over the goal
    pub record EntryIsLinked (goals : List (OpenGoal X F I R A T)) (goal : I)
        (entry : ProvisionalCacheEntry X I R A T) : Type 0 where
      pub heads : AreJoined goals goal entry.heads
      pub kind : AskedByKind scripts goal entry.path_from_head

    -- what holds between two moves
    pub record KeepsKinds (enabled : Bool) (goals : List (OpenGoal X F I R A T))
        (entries : Lists I (ProvisionalCacheEntry X I R A T)) : Type 0 where
      pub goals_are : AreLinked goals
      pub entries_are : (goal : I) → All (EntryIsLinked goals goal) (entries_at same entries goal)
      pub disabled : enabled ≡ false → (goal : I) → entries_at same entries goal ≡ []
