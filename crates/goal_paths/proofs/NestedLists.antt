-- Lists of goals with the paths to them.
use Rattle.std.proofs.Common.{◌≡◌, ℕ, ◌+◌, ◌≤◌, length, arith, Bool, true, false, List, [], ◌∷◌, cond, Option, Some}
use Rattle.std.proofs.Common.{None, refl, sym, ap, ◌∙◌, subst, inl, inr}
use Rattle.std.proofs.lemmas.Bool.{cases_Bool}
use Rattle.std.proofs.lemmas.Nat.{or_comm}
use Rattle.std.proofs.lemmas.Map.Keys.{IsDistinct-head, IsDistinct-tail}
use Rattle.std.specs.Cmp.{IsEquivalence}
use Rattle.std.specs.List.{AllByRecursion, IsDistinct}
use Rattle.std.specs.Map.{keys_of, lookup}
use Rattle.std.specs.Option.{option_map}
use Rattle.goal_paths.specs.Below.{PathKind, PathsToNested, extended}
use Rattle.goal_paths.specs.Words.{after_step, NestedPaths, paths_at, joined_paths, JoinsPaths}

-- paths may be joined in either order
joined-swapped : (some more : Option PathsToNested) → joined_paths some more ≡ joined_paths more some
joined-swapped None None = refl
joined-swapped None (Some more) = refl
joined-swapped (Some some) None = refl
joined-swapped (Some some) (Some more) = λ i. Some (record { 0 = or_comm some.0 more.0 i })

without_step : (paths : Option PathsToNested) → option_map (after_step None) paths ≡ paths
without_step None = refl
without_step (Some paths) = refl

-- own paths joined to those of a child, which were extended
pub joined-taken : (step : PathKind) (own child extended_child : Option PathsToNested)
    → extended_child ≡ option_map (λ paths. extended paths step) child
    → joined_paths extended_child (option_map (after_step None) own)
    ≡ joined_paths own (option_map (λ paths. extended paths step) child)
joined-taken step own child extended_child is =
    ap (joined_paths extended_child) (without_step own) ∙ ap (λ paths. joined_paths paths own) is
    ∙ joined-swapped (option_map (λ paths. extended paths step) child) own

joined-joined : (paths : Option PathsToNested) (more : PathsToNested)
    → joined_paths (joined_paths paths (Some more)) None ≡ joined_paths paths (Some more)
joined-joined None more = refl
joined-joined (Some paths) more = refl

pub joined-None : (paths : Option PathsToNested) → joined_paths paths None ≡ paths
joined-None None = refl
joined-None (Some paths) = refl

pub no_goals : {E : Type 0} (goals : List E) → length goals ≤ 0 → goals ≡ []
no_goals [] none = refl
no_goals (goal ∷ goals) none = absurd (omega (arith, none))

-- goals that are the same are found alike
pub same_test : {I : Type 0} {same : I → I → Bool} → IsEquivalence same → (x y : I) → same x y ≡ true → same x ≡ same y
same_test laws x y is = λ i z. laws.congr x y z is i

module _ {I : Type 0} (same : I → I → Bool) where
  absent_apart : (goals : NestedPaths I) (input : I)
      → AllByRecursion (λ other. same input other ≡ false) (keys_of goals)
      → paths_at same goals input ≡ None
  absent_apart [] input apart = refl
  absent_apart (g ∷ goals) input apart = rw apart.0 (absent_apart goals input apart.1)

  -- the first goal is no other one
  pub absent_later : (input : I) (paths : PathsToNested) (rest : NestedPaths I)
      → IsDistinct same (keys_of ((input, paths) ∷ rest)) → paths_at same rest input ≡ None
  absent_later input paths rest distinct = absent_apart rest input (IsDistinct-head same input (keys_of rest) distinct)

  pub distinct_later : (input : I) (paths : PathsToNested) (rest : NestedPaths I)
      → IsDistinct same (keys_of ((input, paths) ∷ rest)) → IsDistinct same (keys_of rest)
  distinct_later input paths rest distinct = IsDistinct-tail same input (keys_of rest) distinct

  module _ (laws : IsEquivalence same) where
    -- one goal less is left to be joined
    pub joined-rest : (old new rest : NestedPaths I) (input : I)
        (paths : PathsToNested) (f : PathsToNested → PathsToNested)
        → IsDistinct same (keys_of ((input, paths) ∷ rest)) → JoinsPaths same old new input (f paths) → (other : I)
        → joined_paths (paths_at same new other) (option_map f (paths_at same rest other))
        ≡ joined_paths (paths_at same old other) (option_map f (paths_at same ((input, paths) ∷ rest) other))
    joined-rest old new rest input paths f distinct joins other = elim (cases_Bool (same other input)) [
      | inl here ↦
          subst (λ test. joined_paths (lookup test new) (option_map f (lookup test rest))
          ≡ joined_paths (lookup test old) (option_map f (lookup test ((input, paths) ∷ rest))))
          (sym (same_test laws other input here))
          (ap (λ p. joined_paths p (option_map f (paths_at same rest input))) joins.here
          ∙ ap (λ p. joined_paths (joined_paths (paths_at same old input) (Some (f paths))) (option_map f p))
          (absent_later input paths rest distinct)
          ∙ joined-joined (paths_at same old input) (f paths)
          ∙ ap (λ b. joined_paths (paths_at same old input)
          (option_map f (cond b (Some paths) (paths_at same rest input)))) (sym (laws.refl input)))
      | inr apart ↦
          ap (λ p. joined_paths p (option_map f (paths_at same rest other)))
          (joins.others other (laws.symm input other ∙ apart))
          ∙ ap (λ b. joined_paths (paths_at same old other)
          (option_map f (cond b (Some paths) (paths_at same rest other)))) (sym apart)
    ]

-- the rest of the goals of a child is still to be joined, and there is room for it
pub record IsJoining {I : Type 0} (same : I → I → Bool) (f : PathsToNested → PathsToNested)
    (start goals all rest : NestedPaths I) (room : ℕ) : Type 0 where
  pub agrees : (input : I)
      → joined_paths (paths_at same goals input) (option_map f (paths_at same rest input))
      ≡ joined_paths (paths_at same start input) (option_map f (paths_at same all input))
  pub fits : length rest ≤ room
  pub distinct : IsDistinct same (keys_of rest)

pub IsJoining-start : {I : Type 0} {same : I → I → Bool} (f : PathsToNested → PathsToNested)
    (start all : NestedPaths I) (room : ℕ)
    → length all ≤ room → IsDistinct same (keys_of all) → IsJoining same f start start all all room
IsJoining-start f start all room fits distinct = record { agrees = λ input. refl; fits = fits; distinct = distinct }

pub IsJoining-more : {I : Type 0} {same : I → I → Bool} (laws : IsEquivalence same)
    (f : PathsToNested → PathsToNested) (start goals new all left rest : NestedPaths I) (input : I)
    (paths after : PathsToNested) (room more : ℕ)
    → left ≡ (input, paths) ∷ rest → after ≡ f paths → JoinsPaths same goals new input after → room ≤ more + 1
    → IsJoining same f start goals all left room → IsJoining same f start new all rest more
IsJoining-more {same = same} laws f start goals new all left rest input paths after room more
    first stepped joins_after fewer so_far =
    let joins = subst (JoinsPaths same goals new input) stepped joins_after in
    let distinct = subst (λ l. IsDistinct same (keys_of l)) first so_far.distinct in
    let size : length left ≡ length rest + 1 = ap length first ∙ omega arith in
    record {
      agrees = λ other.
          joined-rest same laws goals new rest input paths f distinct joins other
          ∙ ap (λ l. joined_paths (paths_at same goals other) (option_map f (paths_at same l other))) (sym first)
          ∙ so_far.agrees other;
      fits = omega (arith, so_far.fits);
      distinct = distinct_later same input paths rest distinct;
    }

pub IsJoining-end : {I : Type 0} {same : I → I → Bool} (f : PathsToNested → PathsToNested)
    (old start goals child all rest : NestedPaths I) (room : ℕ)
    → rest ≡ [] → IsJoining same f start goals all rest room → (input : I)
    → paths_at same start input ≡ paths_at same old input → all ≡ child
    → paths_at same goals input ≡ joined_paths (paths_at same old input) (option_map f (paths_at same child input))
IsJoining-end {same = same} f old start goals child all rest room none so_far input kept whole =
    sym (joined-None (paths_at same goals input))
    ∙ ap (λ l. joined_paths (paths_at same goals input) (option_map f (paths_at same l input))) (sym none)
    ∙ so_far.agrees input
    ∙ (λ i. joined_paths (kept i) (option_map f (paths_at same (whole i) input)))
