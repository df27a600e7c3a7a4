-- Which goals are nested in a goal once it took over those of an answer.
use Rattle.std.proofs.Common.{◌≡◌, ◌||◌, Bool, true, false, [], Option, None, Some, IsSome, option_map, sym, ap₂, ◌∙◌}
use Rattle.std.proofs.Common.{subst, ◌⊎◌, inl, inr, refl}
use Rattle.std.proofs.lemmas.Bool.{cases_Bool, false≢true}
use Rattle.goal_changes.specs.NestedGoals.{Joined, Nothing, TakesHeadGoal, TakesNestedGoals}
use Rattle.two_runs.specs.Below.{extended, Heads, NestedPaths, path_of_no_step, PathKind, paths_at}
use Rattle.two_runs.specs.Below.{PathsToNested, some_heads}
use Rattle.goal_paths.specs.Nested.{joined_paths, JoinsPaths}

joined_some : (o : Option PathsToNested) (more : PathsToNested) → IsSome (joined_paths o (Some more))
joined_some None more = refl
joined_some (Some paths) more = refl

joined_left : (o q : Option PathsToNested) → IsSome o → IsSome (joined_paths o q)
joined_left None q some = absurd (false≢true some)
joined_left (Some paths) None some = refl
joined_left (Some paths) (Some more) some = refl

joined_right : (o : Option PathsToNested) (q : Option PathsToNested) (f : PathsToNested → PathsToNested) → IsSome q
    → IsSome (joined_paths o (option_map f q))
joined_right o None f some = absurd (false≢true some)
joined_right o (Some more) f some = joined_some o (f more)

module _ {I : Type 0} (same : I → I → Bool) (by_value : (x y : I) → same x y ≡ true → x ≡ y) where
  -- goals that were nested stay so, and the joined one is nested
  pub joins_some : (old new : NestedPaths I) (input : I) (paths : PathsToNested) → JoinsPaths same old new input paths
      → (goal : I) → IsSome (paths_at same old goal) → IsSome (paths_at same new goal)
  joins_some old new input paths joins goal there = elim (cases_Bool (same input goal)) [
    | inl one ↦ subst (λ g. IsSome (paths_at same new g)) (by_value input goal one)
        (subst IsSome (sym joins.here) (joined_some (paths_at same old input) paths))
    | inr other ↦ subst IsSome (sym (joins.others goal other)) there
  ]

  pub joins_here : (old new : NestedPaths I) (input : I) (paths : PathsToNested)
      → JoinsPaths same old new input paths → IsSome (paths_at same new input)
  joins_here old new input paths joins = subst IsSome (sym joins.here) (joined_some (paths_at same old input) paths)

  module _ (own : I) (step : PathKind) (answer old new : NestedPaths I) where
    pub taken_stay : TakesNestedGoals same own step answer old new → (goal : I)
        → IsSome (paths_at same old goal) → IsSome (paths_at same new goal)
    taken_stay (Nothing empty is) goal there = subst (λ n. IsSome (paths_at same n goal)) (sym is) there
    taken_stay (Joined between some each itself) goal there =
        joins_some between new own path_of_no_step itself goal (subst IsSome (sym (each goal)) (joined_left
        (paths_at same old goal) (option_map (λ paths. extended paths step) (paths_at same answer goal)) there))

    pub taken_come : TakesNestedGoals same own step answer old new → (goal : I)
        → IsSome (paths_at same answer goal) → IsSome (paths_at same new goal)
    taken_come (Nothing empty is) goal there =
        absurd (false≢true (subst (λ n. IsSome (paths_at same n goal)) empty there))
    taken_come (Joined between some each itself) goal there =
        joins_some between new own path_of_no_step itself goal (subst IsSome (sym (each goal))
        (joined_right (paths_at same old goal) (paths_at same answer goal) (λ paths. extended paths step) there))

    -- The goal itself is nested then, or nothing is and it rests on no goal, if that was so before
    -- and is so of the answer.
    pub taken_itself :
        (heads : Heads) (was now : Bool) → (answer ≡ [] → heads ≡ []) → now ≡ (was || some_heads heads)
        → TakesNestedGoals same own step answer old new
        → IsSome (paths_at same old own) ⊎ ((old ≡ []) × (was ≡ false))
        → IsSome (paths_at same new own) ⊎ ((new ≡ []) × (now ≡ false))
    taken_itself heads was now none in_cycle (Nothing empty is) (inl there) =
        inl (subst (λ n. IsSome (paths_at same n own)) (sym is) there)
    taken_itself heads was now none in_cycle (Nothing empty is) (inr before) =
        inr (is ∙ before.0, in_cycle ∙ ap₂ (λ b (hs : Heads). b || some_heads hs) before.1 (none empty))
    taken_itself heads was now none in_cycle (Joined between some each itself) before =
        inl (joins_here between new own path_of_no_step itself)

  module _ (own : I) (step : PathKind) (goal : I) (old new : NestedPaths I)
      (takes : TakesHeadGoal same own step goal old new) where
    pub head_stay : (other : I) → IsSome (paths_at same old other) → IsSome (paths_at same new other)
    head_stay other there = joins_some takes.between new own path_of_no_step takes.itself other
        (joins_some old takes.between goal _ takes.head other there)

    pub head_itself : IsSome (paths_at same new own)
    head_itself = joins_here takes.between new own path_of_no_step takes.itself
