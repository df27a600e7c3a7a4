-- The stack as a walk of questions: the kind of the path from a place on it is that of such a walk.
use Rattle.std.proofs.Common.{◌≡◌, ℕ, ◌+◌, ◌<◌, Bool, List, [], ◌∷◌, ◌++◌, map, reverse, length, drop, Some, slice_get}
use Rattle.std.proofs.Common.{sym, ap, ◌∙◌, subst, inl, inr, arith}
use Rattle.std.proofs.lemmas.Grind.{reverse_onto}
use Rattle.std.proofs.lemmas.List.{drop-append-le, drop_all, length-map, length-reverse, map-append}
use Rattle.list_lemmas.proofs.Lists.{get_cases}
use Rattle.search_graph.specs.Reaching.{AsksNewest, here, MayReach}
use Rattle.two_runs.specs.Below.{greater_kind, greatest_kind, OpenGoal, path_kind_from, PathKind, Reply}
use Rattle.two_runs.specs.Below.{Request, StackEntry}
use Rattle.two_runs.specs.OneKind.{last, MayLeadTo}
use Rattle.two_runs.specs.Kinds.{AreLinked, IsGoalAt}
use Rattle.goal_paths.proofs.Cycles.{greatest-push}
use Rattle.two_runs.proofs.kinds.Questions.{greater_least, greater_swapped, leads_on, leads_reaches}

module _ {X F I R A T : Type 0} where
  -- the stack of the goals
  abbrev pub stack_of : List (OpenGoal X F I R A T) → List (StackEntry X I R A T)
  stack_of goals = reverse (map (λ s. s.0) goals)

  pub many : (goals : List (OpenGoal X F I R A T)) → length (stack_of goals) ≡ length goals
  many goals = length-reverse (map (λ s. s.0) goals) ∙ length-map goals (λ s. s.0)

  stack_push : (s : OpenGoal X F I R A T) (below : List (OpenGoal X F I R A T))
      → stack_of (s ∷ below) ≡ stack_of below ++ s.0 ∷ []
  stack_push s below = reverse_onto (map (λ t. t.0) below) s.0 []

  -- ---- the goal at a place

  pub at_lies_below : (goals : List (OpenGoal X F I R A T)) (place : ℕ) (goal : I)
      → IsGoalAt goals place goal → place < length goals
  at_lies_below [] place goal at = absurd at
  at_lies_below (s ∷ below) place goal (inl at) = let is = at.0 in omega (arith, is)
  at_lies_below (s ∷ below) place goal (inr at) = let less = at_lies_below below place goal at in omega (arith, less)

  -- at the place of the newest goal it is that
  pub at_newest : (s : OpenGoal X F I R A T) (below : List (OpenGoal X F I R A T)) (place : ℕ) (goal : I)
      → IsGoalAt (s ∷ below) place goal → place ≡ length below → goal ≡ s.0.input
  at_newest s below place goal (inl at) is = at.1
  at_newest s below place goal (inr at) is =
      let less = at_lies_below below place goal at in absurd (omega (arith, less, is))

  -- and at another place one below
  pub at_below : (s : OpenGoal X F I R A T) (below : List (OpenGoal X F I R A T)) (place : ℕ) (goal : I)
      → IsGoalAt (s ∷ below) place goal → (place ≡ length below → ⊥) → IsGoalAt below place goal
  at_below s below place goal (inl at) other = absurd (other at.0)
  at_below s below place goal (inr at) other = at

  -- the entry that is read at a place is that of the goal there
  pub at_read : (goals : List (OpenGoal X F I R A T)) (place : ℕ) (entry : StackEntry X I R A T)
      → slice_get (stack_of goals) place ≡ Some entry → IsGoalAt goals place entry.input
  at_read [] place entry is = absurd cc
  at_read (s ∷ below) place entry is =
      elim (get_cases (stack_of below) s.0 place entry (ap (λ l. slice_get l place) (sym (stack_push s below)) ∙ is)) [
        | inl lower ↦ inr (at_read below place entry lower)
        | inr newest ↦ inl (newest.0 ∙ many below, sym (ap (λ (e : StackEntry X I R A T). e.input) newest.1))
      ]

  -- ---- the kind of a path

  -- from the newest goal it is that of the step
  pub path_from_newest : (s : OpenGoal X F I R A T) (below : List (OpenGoal X F I R A T)) (place : ℕ) (step : PathKind)
      → place ≡ length below → path_kind_from (stack_of (s ∷ below)) place step ≡ step
  path_from_newest s below place step is =
      let all = many (s ∷ below) in
      ap (λ (l : List (StackEntry X I R A T)). greatest_kind (step ∷ map (λ e. e.step_kind_from_parent) l))
      (drop_all (place + 1) (stack_of (s ∷ below)) (omega (arith, all, is)))
      ∙ greater_least step

  -- from a goal below it is the greater of the step and the path to the newest goal
  pub path_from_below : (s : OpenGoal X F I R A T) (below : List (OpenGoal X F I R A T)) (place : ℕ) (step : PathKind)
      → place < length below → path_kind_from (stack_of (s ∷ below)) place step
      ≡ greater_kind step (path_kind_from (stack_of below) place s.0.step_kind_from_parent)
  path_from_below s below place step less =
      let all = many below in
      let kinds = map (λ (e : StackEntry X I R A T). e.step_kind_from_parent) (drop (place + 1) (stack_of below)) in
      ap (λ (l : List (StackEntry X I R A T)).
      greatest_kind (step ∷ map (λ e. e.step_kind_from_parent) (drop (place + 1) l))) (stack_push s below)
      ∙ ap (λ (l : List (StackEntry X I R A T)). greatest_kind (step ∷ map (λ e. e.step_kind_from_parent) l))
      (drop-append-le (place + 1) (stack_of below) (s.0 ∷ []) (omega (arith, all, less)))
      ∙ ap (λ l. greatest_kind (step ∷ l)) (map-append (λ (e : StackEntry X I R A T). e.step_kind_from_parent)
      (drop (place + 1) (stack_of below)) (s.0 ∷ []))
      ∙ ap (greater_kind step)
      (greatest-push kinds s.0.step_kind_from_parent ∙ greater_swapped (greatest_kind kinds) s.0.step_kind_from_parent)

  module _ (scripts : I → List (Reply R) → Request I R) (same : I → I → Bool) where
    -- a question of the newest goal ends a walk of questions from each goal on the stack, whose
    -- kind is that of the path
    pub stack_leads : (goals : List (OpenGoal X F I R A T)) (place : ℕ) (head : I) (step : PathKind) (goal : I)
        → AreLinked scripts same goals → AsksNewest scripts goals step goal → IsGoalAt goals place head
        → MayLeadTo scripts head (path_kind_from (stack_of goals) place step) goal
    stack_leads [] place head step goal linked asks at = absurd at
    stack_leads (s ∷ below) place head step goal linked asks (inl at) =
        subst (λ k. MayLeadTo scripts head k goal) (sym (path_from_newest s below place step at.0))
        (subst (λ h. MayLeadTo scripts h step goal) (sym at.1) (last asks))
    stack_leads (s ∷ below) place head step goal linked asks (inr at) =
        subst (λ k. MayLeadTo scripts head k goal)
        (sym (path_from_below s below place step (at_lies_below below place head at)))
        (leads_on scripts
        (stack_leads below place head s.0.step_kind_from_parent s.0.input linked.1 linked.0.asked at) asks)

    -- each goal on the stack reaches the newest one
    pub stack_reaches : (s : OpenGoal X F I R A T) (below : List (OpenGoal X F I R A T)) (place : ℕ) (head : I)
        → AreLinked scripts same (s ∷ below) → IsGoalAt (s ∷ below) place head → MayReach scripts head s.0.input
    stack_reaches s below place head linked (inl at) = subst (λ h. MayReach scripts h s.0.input) (sym at.1) here
    stack_reaches s below place head linked (inr at) = leads_reaches scripts
        (stack_leads below place head s.0.step_kind_from_parent s.0.input linked.1 linked.0.asked at)
