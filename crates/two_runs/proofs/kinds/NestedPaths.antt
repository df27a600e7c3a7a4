-- The paths to nested goals are those of walks of questions, also once a goal took over those of an answer.
use Rattle.std.proofs.Common.{◌≡◌, ℕ, zero, suc, ◌+◌, ◌*◌, ◌/◌, ◌%◌, ◌^◌, ◌<◌, ◌==◌, Bool, true, false, if◌then◌else◌}
use Rattle.std.proofs.Common.{List, [], ◌∷◌, ◌++◌, map, Contains, Option, None, Some, option_map, refl, sym, ap, ◌∙◌}
use Rattle.std.proofs.Common.{subst, inl, inr, arith}
use Rattle.std.specs.Int.RustNames.{bit_and, bit_or}
use Rattle.std.proofs.lemmas.Bool.{cases_Bool, or_left}
use Rattle.std.proofs.lemmas.Nat.{and_block, and_le_r, or_mod}
use Rattle.path_kinds.specs.Paths.{has_empty}
use Rattle.path_kinds.proofs.PathLaws.{extended-kinds, has_kind-union}
use Rattle.path_kinds.proofs.PathMembers.{extended-has}
use Rattle.path_kinds.proofs.PathRanks.{each_kind}
use Rattle.goal_changes.specs.NestedGoals.{Joined, Nothing, TakesHeadGoal, TakesNestedGoals}
use Rattle.search_graph.specs.Reaching.{MayAsk}
use Rattle.two_runs.specs.Below.{extended, greater_kind, has_kind, Inductive, kinds_in, NestedPaths, path_of_no_step}
use Rattle.two_runs.specs.Below.{PathKind, paths_at, paths_of, PathsToNested, Reply, Request, union}
use Rattle.two_runs.specs.Kinds.{IsReachedBy, ReachesNested}
use Rattle.two_runs.specs.OneKind.{first, last, MayLeadTo}
use Rattle.goal_paths.specs.Nested.{joined_paths, JoinsPaths}
use Rattle.two_runs.proofs.kinds.Questions.{greater_least}

-- ---- sets of paths

-- the path of no step is the lowest flag
lowest_flag : (n : ℕ) → bit_and n 1 ≡ bit_and (n % 2) 1
lowest_flag n =
    let split : n ≡ n / 2 * 2 ^ 1 + n % 2 = omega arith in
    let none : 1 ≡ 0 * 2 ^ 1 + 1 = omega arith in
    let above : bit_and (n / 2) 0 * 2 ^ 1 + bit_and (n % 2) 1 ≡ bit_and (n % 2) 1 = omega (arith, and_le_r (n / 2) 0) in
    (λ i. bit_and (split i) (none i)) ∙ and_block 1 (n / 2) 0 (n % 2) 1 (omega arith) (omega arith) ∙ above

keeps_lowest : (a b : ℕ) → a < 2 → b < 2 → (bit_and a 1 == 1) ≡ true → (bit_and (bit_or a b) 1 == 1) ≡ true
keeps_lowest zero b less other has = absurd cc
keeps_lowest (suc zero) zero less other has = refl
keeps_lowest (suc zero) (suc zero) less other has = refl
keeps_lowest (suc zero) (suc (suc b)) less other has = absurd (omega (arith, other))
keeps_lowest (suc (suc a)) b less other has = absurd (omega (arith, less))

has_empty_union : (paths more : PathsToNested) → has_empty paths ≡ true → has_empty (union paths more) ≡ true
has_empty_union paths more has =
    ap (λ n. n == 1) (lowest_flag (bit_or paths.0 more.0) ∙ ap (λ n. bit_and n 1) (or_mod paths.0 more.0 1))
    ∙ keeps_lowest (paths.0 % 2) (more.0 % 2) (omega arith) (omega arith)
    (ap (λ n. n == 1) (sym (lowest_flag paths.0)) ∙ has)

-- after a step the path of no step is of its kind
pub extended_empty : (paths : PathsToNested) (step : PathKind) → has_empty paths ≡ true
    → has_kind (extended paths step) step ≡ true
extended_empty paths step has = (extended-kinds paths step step).1 (by (has_empty paths) has)
  where
    by : (b : Bool) → b ≡ true
        → Contains (map (greater_kind step) ((if b then Inductive ∷ [] else []) ++ kinds_in paths)) step
    by true is = (0, omega arith, greater_least step)
    by false is = absurd cc

own_kind : (kind : PathKind) → has_kind (paths_of kind) kind ≡ true
own_kind = each_kind (λ kind. has_kind (paths_of kind) kind ≡ true) refl refl refl refl

-- ---- goals that are reached by paths

module _ {I R : Type 0} (scripts : I → List (Reply R) → Request I R) where
  reached_left : (goal other : I) (paths more : PathsToNested) → IsReachedBy scripts goal paths other
      → IsReachedBy scripts goal (union paths more) other
  reached_left goal other paths more (inl itself) = inl (has_empty_union paths more itself.0, itself.1)
  reached_left goal other paths more (inr walk) = inr
      (walk.0, has_kind-union paths more walk.0 ∙ or_left (has_kind paths walk.0) (has_kind more walk.0) walk.1, walk.2)

  -- paths after a question
  pub reached_after : (own goal other : I) (step : PathKind) (paths : PathsToNested) → MayAsk scripts own step goal
      → IsReachedBy scripts goal paths other → IsReachedBy scripts own (extended paths step) other
  reached_after own goal other step paths asks (inl itself) =
      inr (step, extended_empty paths step itself.0, subst (MayLeadTo scripts own step) (sym itself.1) (last asks))
  reached_after own goal other step paths asks (inr walk) =
      inr (greater_kind step walk.0, extended-has paths step walk.0 walk.1, first asks walk.2)

  -- paths that were joined
  reached_joined : (goal other : I) (old : Option PathsToNested) (more : Option PathsToNested) (paths : PathsToNested)
      → joined_paths old more ≡ Some paths
      → ((p : PathsToNested) → old ≡ Some p → IsReachedBy scripts goal p other)
      → ((p : PathsToNested) → more ≡ Some p → IsReachedBy scripts goal p other) → IsReachedBy scripts goal paths other
  reached_joined goal other None more paths is was new = new paths is
  reached_joined goal other (Some p) None paths is was new = was paths is
  reached_joined goal other (Some p) (Some q) paths is was new =
      let same_paths : union p q ≡ paths = cc in
      subst (λ x. IsReachedBy scripts goal x other) same_paths (reached_left goal other p q (was p refl))

  module _ (same : I → I → Bool) (by_value : (x y : I) → same x y ≡ true → x ≡ y) where
    -- one more goal is reached
    pub nested_joined : (own input : I) (paths : PathsToNested) (old new : NestedPaths I)
        → JoinsPaths same old new input paths → IsReachedBy scripts own paths input → ReachesNested scripts same own old
        → ReachesNested scripts same own new
    nested_joined own input paths old new joins reached h other now at = elim (cases_Bool (same input other)) [
      | inl one ↦
          let is : input ≡ other = by_value input other one in
          reached_joined own other (paths_at same old other) (Some paths) now
          (sym (subst (λ g. paths_at same new g ≡ joined_paths (paths_at same old g) (Some paths)) is joins.here) ∙ at)
          (h other) (λ p found. let one_more : paths ≡ p = cc in
          subst (λ x. IsReachedBy scripts own x other) one_more (subst (IsReachedBy scripts own paths) is reached))
      | inr apart ↦ h other now (sym (joins.others other apart) ∙ at)
    ]

    -- the goal itself is
    pub nested_itself : (own : I) (old new : NestedPaths I) → JoinsPaths same old new own path_of_no_step
        → ReachesNested scripts same own old → ReachesNested scripts same own new
    nested_itself own old new joins h = nested_joined own own path_of_no_step old new joins (inl (refl, refl)) h

    -- the goals of an answer to a question are
    pub nested_taken : (own goal : I) (step : PathKind) (answer old new : NestedPaths I) → MayAsk scripts own step goal
        → ReachesNested scripts same goal answer → TakesNestedGoals same own step answer old new
        → ReachesNested scripts same own old → ReachesNested scripts same own new
    nested_taken own goal step answer old new asks reached (Nothing empty is) h =
        subst (ReachesNested scripts same own) (sym is) h
    nested_taken own goal step answer old new asks reached (Joined between some each itself) h =
        nested_itself own between new itself
        (λ other now at.
        reached_joined own other (paths_at same old other)
        (option_map (λ paths. extended paths step) (paths_at same answer other)) now (sym (each other) ∙ at) (h other)
        (extended_at other (paths_at same answer other) refl))
      where
        extended_at : (other : I) (found : Option PathsToNested)
            → paths_at same answer other ≡ found → (p : PathsToNested)
            → option_map (λ paths. extended paths step) found ≡ Some p → IsReachedBy scripts own p other
        extended_at other None found p is = absurd cc
        extended_at other (Some q) found p is =
            let one : extended q step ≡ p = cc in
            subst (λ x. IsReachedBy scripts own x other) one
            (reached_after own goal other step q asks (reached other q found))

    -- the head of a cycle is
    pub nested_head : (own goal : I) (step : PathKind) (old new : NestedPaths I) → MayAsk scripts own step goal
        → TakesHeadGoal same own step goal old new → ReachesNested scripts same own old
        → ReachesNested scripts same own new
    nested_head own goal step old new asks takes h = nested_itself own takes.between new takes.itself
        (nested_joined own goal (paths_of step) old takes.between takes.head (inr (step, own_kind step, last asks)) h)
