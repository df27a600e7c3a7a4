-- The own goal, to which the path of no step leads already.
use Rattle.std.proofs.Common.{◌≡◌, ◌==◌, ℕ, Bool, true, max, Option, Some, None, refl, sym, ap, ◌∙◌, subst, inl}
use Rattle.std.proofs.Common.{inr, arith}
use Rattle.std.proofs.lemmas.Bool.{cases_Bool, eqb-true}
use Rattle.std.proofs.lemmas.Nat.Bits.{bit_at_or, same_from_bits}
use Rattle.std.specs.Int.{bit_at}
use Rattle.std.specs.Int.RustNames.{bit_or}
use Rattle.std.specs.Cmp.{IsEquivalence}
use Rattle.std.specs.Map.{lookup}
use Rattle.std.specs.Option.{option_eq, option_map}
use Rattle.goal_paths.specs.Below.{PathsToNested, path_of_no_step}
use Rattle.goal_paths.specs.Words.{HasNoStep, HasOwn, joined_paths, JoinsEach, JoinsPaths, NestedPaths, paths_at}
use Rattle.goal_paths.proofs.NestedLists.{same_test}

max_swapped : (a b c : ℕ) → max (max a b) c ≡ max (max a c) b
max_swapped a b c = omega arith

max_twice : (a b : ℕ) → max (max a b) b ≡ max a b
max_twice a b = omega arith

-- of three sets of bits the last two may be joined in either order
or_swapped : (a b c : ℕ) → bit_or (bit_or a b) c ≡ bit_or (bit_or a c) b
or_swapped a b c = same_from_bits _ _ (λ i.
    bit_at_or (bit_or a b) c i ∙ ap (λ n. max n (bit_at c i)) (bit_at_or a b i)
    ∙ max_swapped (bit_at a i) (bit_at b i) (bit_at c i)
    ∙ sym (bit_at_or (bit_or a c) b i ∙ ap (λ n. max n (bit_at b i)) (bit_at_or a c i)))

-- more paths leave the path of no step there
no_step-more : (paths more : Option PathsToNested) → HasNoStep paths → HasNoStep (joined_paths paths more)
no_step-more None None there = there
no_step-more None (Some more) there = absurd cc
no_step-more (Some paths) None there = there
no_step-more (Some paths) (Some more) there =
    (λ i. Some (record { 0 = or_swapped paths.0 more.0 path_of_no_step.0 i }))
    ∙ ap (λ own. joined_paths own (Some more)) there

or_twice : (a b : ℕ) → bit_or (bit_or a b) b ≡ bit_or a b
or_twice a b = same_from_bits _ _ (λ i.
    bit_at_or (bit_or a b) b i ∙ ap (λ n. max n (bit_at b i)) (bit_at_or a b i)
    ∙ max_twice (bit_at a i) (bit_at b i)
    ∙ sym (bit_at_or a b i))

-- the path of no step is there once it is joined
no_step-joined : (paths : Option PathsToNested) → HasNoStep (joined_paths paths (Some path_of_no_step))
no_step-joined None = refl
no_step-joined (Some paths) = λ i. Some (record { 0 = or_twice paths.0 1 i })

-- the test of the path of no step
pub is_no_step : (paths : PathsToNested) → (paths.0 == 1) ≡ true → paths ≡ path_of_no_step
is_no_step paths is = λ i. record { 0 = eqb-true _ _ is i }

module _ {I : Type 0} (same : I → I → Bool) (laws : IsEquivalence same) where
  -- the goal to which the path of no step was joined is the own one
  pub own-new : (old new : NestedPaths I) (input : I) (paths : PathsToNested) (own : Option I)
      → paths ≡ path_of_no_step → own ≡ Some input → JoinsPaths same old new input paths → HasOwn same new own
  own-new old new input paths own is is_own joins =
      subst (HasOwn same new) (sym is_own)
      (subst HasNoStep (sym (joins.here ∙ ap (λ p. joined_paths (paths_at same old input) (Some p)) is))
      (no_step-joined (paths_at same old input)))

  -- it is there at each goal that is the same as the own one
  own_there : (goals : NestedPaths I) (input : I) (own : Option I) → option_eq same own (Some input) ≡ true
      → HasOwn same goals own → HasNoStep (paths_at same goals input)
  own_there goals input None is there = absurd cc
  own_there goals input (Some own) is there =
      subst (λ test. HasNoStep (lookup test goals)) (same_test laws own input is) there

  -- the path of no step to the own goal is joined already
  pub joins-own : (goals : NestedPaths I) (input : I) (paths : PathsToNested) (own : Option I)
      → paths ≡ path_of_no_step → option_eq same own (Some input) ≡ true → HasOwn same goals own
      → JoinsPaths same goals goals input paths
  joins-own goals input paths own is is_own there = record {
    here =
        sym (ap (λ p. joined_paths (paths_at same goals input) (Some p)) is ∙ own_there goals input own is_own there);
    others = λ other apart. refl;
  }

  -- it is there after goals were joined
  pub own-each : (f : PathsToNested → PathsToNested) (old more new : NestedPaths I) (own : Option I)
      → JoinsEach same f old more new → HasOwn same old own → HasOwn same new own
  own-each f old more new None joins there = tt
  own-each f old more new (Some own) joins there =
      subst HasNoStep (sym (joins own))
      (no_step-more (paths_at same old own) (option_map f (paths_at same more own)) there)

  -- it is there after paths were joined to any goal
  pub own-joined : (old new : NestedPaths I) (input : I) (paths : PathsToNested) (own : Option I)
      → JoinsPaths same old new input paths → HasOwn same old own → HasOwn same new own
  own-joined old new input paths None joins there = tt
  own-joined old new input paths (Some own) joins there = elim (cases_Bool (same input own)) [
    | inl here ↦
        let is : same input ≡ same own = same_test laws input own here in
        subst (λ test. HasNoStep (lookup test new)) is
        (subst HasNoStep (sym joins.here) (no_step-more (paths_at same old input) (Some paths)
        (subst (λ test. HasNoStep (lookup test old)) (sym is) there)))
    | inr apart ↦ subst HasNoStep (sym (joins.others own apart)) there
  ]
