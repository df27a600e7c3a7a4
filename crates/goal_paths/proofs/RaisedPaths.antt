-- Paths that are extended together.
use Rattle.std.proofs.Common.{◌≡◌, ◌+◌, ◌≤◌, nat_lt, Bool, true, false, List, Option, Some, None, refl, sym, ap, subst}
use Rattle.std.proofs.Common.{◌∙◌, inl, inr, arith}
use Rattle.std.proofs.lemmas.Bool.{cases_Bool}
use Rattle.std.proofs.lemmas.Bool.Decides.{nat_tests}
use Rattle.std.proofs.lemmas.Map.Made.{lookup-map_values}
use Rattle.std.specs.Cmp.{IsEquivalence}
use Rattle.std.specs.Map.{lookup}
use Rattle.std.specs.Option.{option_map, IfSome}
use Rattle.path_kinds.proofs.PathLaws.{extended-twice}
use Rattle.goal_paths.specs.Below.{PathKind, PathsToNested, Inductive, extended, greater_kind}
use Rattle.goal_paths.specs.declared.raises.NotedPaths.{NotedPaths}
use Rattle.goal_paths.specs.declared.raises.Raises.{Raises}
use Rattle.goal_paths.specs.Words.{AreNoted, joined_paths, JoinsPaths, NestedPaths, kind_past, noted_now, paths_at}
use Rattle.goal_paths.specs.Words.{paths_noted, paths_now, raised, with_step}
use Rattle.goal_paths.proofs.Cycles.{least-greater}
use Rattle.goal_paths.proofs.LastSteps.{past-joined}
use Rattle.goal_paths.proofs.NestedLists.{same_test}

-- what is noted now has not been extended
pub now-noted : (raises : Raises) (paths : PathsToNested) → paths_now raises (noted_now raises paths) ≡ paths
now-noted raises paths =
    let last : nat_lt raises.count raises.count ≡ false = grind (arith, nat_tests) in
    rw last refl

-- one raise extends noted paths by one step
now-raised : (raises : Raises) (step : PathKind) (noted : NotedPaths)
    → kind_past raises.steps raises.count ≡ Inductive → noted.raises ≤ raises.count
    → paths_now (raised raises step) noted ≡ extended (paths_now raises noted) step
now-raised raises step noted none within =
    let later : nat_lt noted.raises (raises.count + 1) ≡ true = grind (arith, nat_tests) in
    let kinds : kind_past (with_step raises.steps step raises.count) noted.raises
    ≡ greater_kind (kind_past raises.steps noted.raises) step =
    past-joined raises.steps step raises.count noted.raises within in
    let after : paths_now (raised raises step) noted
    ≡ extended noted.paths (greater_kind (kind_past raises.steps noted.raises) step) = rw (later, kinds) refl in
    after ∙ elim (cases_Bool (nat_lt noted.raises raises.count)) [
      | inl some ↦ rw some (sym (extended-twice noted.paths (kind_past raises.steps noted.raises) step))
      | inr last ↦
          let same : noted.raises ≡ raises.count = grind (arith, nat_tests) in
          rw last (ap (λ k. extended noted.paths (greater_kind k step)) (ap (kind_past raises.steps) same ∙ none)
          ∙ ap (extended noted.paths) (least-greater step))
    ]

module _ {I : Type 0} (same : I → I → Bool) where
  -- what is noted at a goal tells the paths to it
  pub paths_at-noted : (raises : Raises) (noted : List (I × NotedPaths)) (input : I)
      → paths_at same (paths_noted raises noted) input ≡ option_map (paths_now raises) (lookup (same input) noted)
  paths_at-noted raises noted input = lookup-map_values (paths_now raises) (same input) noted

  pub told_at : (raises : Raises) (noted : List (I × NotedPaths)) (goals : NestedPaths I)
      → paths_noted raises noted ≡ goals → (input : I)
      → paths_at same goals input ≡ option_map (paths_now raises) (lookup (same input) noted)
  told_at raises noted goals is input =
      ap (λ goals. paths_at same goals input) (sym is) ∙ paths_at-noted raises noted input

  -- the paths to a goal are the same where the same is noted at each goal
  pub same_noted : (raises : Raises) (new old : List (I × NotedPaths))
      → ((input : I) → lookup (same input) new ≡ lookup (same input) old) → (input : I)
      → paths_at same (paths_noted raises new) input ≡ paths_at same (paths_noted raises old) input
  same_noted raises new old kept input = paths_at-noted raises new input
      ∙ ap (option_map (paths_now raises)) (kept input) ∙ sym (paths_at-noted raises old input)

  pub AreNoted-same : (raises : Raises) (new old : List (I × NotedPaths))
      → ((input : I) → lookup (same input) new ≡ lookup (same input) old)
      → AreNoted same raises old → AreNoted same raises new
  AreNoted-same raises new old kept are = record {
    none_past = are.none_past;
    each = λ input.
        subst (λ noted. IfSome noted (λ paths. paths.raises ≤ raises.count)) (sym (kept input)) (are.each input);
  }

  -- what is noted now at one more goal was noted after each raise
  pub noted-joined : (laws : IsEquivalence same) (raises : Raises) (old new : List (I × NotedPaths)) (input : I)
      (noted : NotedPaths) → noted.raises ≡ raises.count
      → lookup (same input) new ≡ Some noted
      → ((other : I) → same input other ≡ false → lookup (same other) new ≡ lookup (same other) old)
      → AreNoted same raises old → AreNoted same raises new
  noted-joined laws raises old new input noted is found others are = record {
    none_past = are.none_past;
    each = λ other. elim (cases_Bool (same input other)) [
      | inl here ↦
          subst (λ noted. IfSome noted (λ paths. paths.raises ≤ raises.count))
          (sym (ap (λ test. lookup test new) (sym (same_test laws input other here)) ∙ found))
          (omega (arith, is))
      | inr apart ↦ subst (λ noted. IfSome noted (λ paths. paths.raises ≤ raises.count))
          (sym (others other apart)) (are.each other)
    ];
  }

  raised_at : (raises : Raises) (step : PathKind) (noted : Option NotedPaths)
      → kind_past raises.steps raises.count ≡ Inductive
      → IfSome noted (λ paths. paths.raises ≤ raises.count)
      → option_map (paths_now (raised raises step)) noted
      ≡ option_map (λ paths. extended paths step) (option_map (paths_now raises) noted)
  raised_at raises step None none within = refl
  raised_at raises step (Some noted) none within = ap Some (now-raised raises step noted none within)

  -- the raise extends the paths to each goal
  pub paths_at-raised : (raises : Raises) (step : PathKind) (noted : List (I × NotedPaths))
      → AreNoted same raises noted → (input : I)
      → paths_at same (paths_noted (raised raises step) noted) input
      ≡ option_map (λ paths. extended paths step) (paths_at same (paths_noted raises noted) input)
  paths_at-raised raises step noted are input =
      paths_at-noted (raised raises step) noted input
      ∙ raised_at raises step (lookup (same input) noted) are.none_past (are.each input)
      ∙ sym (ap (option_map (λ paths. extended paths step)) (paths_at-noted raises noted input))

  -- paths are joined by what is noted for them now
  pub joins_noted : (raises : Raises) (old new : List (I × NotedPaths)) (input : I)
      (paths after : PathsToNested) (noted : NotedPaths)
      → noted ≡ noted_now raises after
      → Some after ≡ joined_paths (option_map (paths_now raises) (lookup (same input) old)) (Some paths)
      → lookup (same input) new ≡ Some noted
      → ((other : I) → same input other ≡ false → lookup (same other) new ≡ lookup (same other) old)
      → JoinsPaths same (paths_noted raises old) (paths_noted raises new) input paths
  joins_noted raises old new input paths after noted is joined found others = record {
    here =
        paths_at-noted raises new input
        ∙ ap (option_map (paths_now raises)) (found ∙ ap Some is)
        ∙ ap Some (now-noted raises after)
        ∙ joined
        ∙ sym (ap (λ p. joined_paths p (Some paths)) (paths_at-noted raises old input));
    others = λ other apart.
        paths_at-noted raises new other
        ∙ ap (option_map (paths_now raises)) (others other apart)
        ∙ sym (paths_at-noted raises old other);
  }
