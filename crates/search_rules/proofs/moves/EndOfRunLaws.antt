-- What is known of a goal by what becomes of it.
use Rattle.std.proofs.Common.{◌≡◌, ℕ, ◌+◌, ◌<◌, ◌≤◌, max, Bool, true, is_some, IsSome, List, ◌∷◌, Option, None, Some}
use Rattle.std.proofs.Common.{Result, Err, option_map, refl, sym, ap, ◌∙◌, subst, arith, inl, inr}
use Rattle.std.proofs.lemmas.Bool.{cases_eq, or_left}
use Rattle.search_rules.specs.Below.{PathKind, Inductive, Unknown, Coinductive, ForcedAmbiguity, HeadUsages, count_of}
use Rattle.search_rules.specs.Below.{RebaseReason, OpenGoal, StackEntry, Run, is_in_cycle, some_heads, newest}
use Rattle.provisional_cache.specs.declared.RebaseReason.TheVariants as reason
use Rattle.search_rules.specs.Words.{Unstable, AtLimit, IsReason, IsEndOfRun, IsUsed, Repeated, Initial, Stable}
use Rattle.search_rules.specs.Words.{Limited, Repeats}
use Rattle.search_rules.specs.declared.end_of_run.Unstable.TheVariants.{Again}
use Rattle.search_rules.specs.EndOfRun.{ReachedFixpoint, Unused}

-- usages that are not none are some
pub used_somehow : (usages : HeadUsages) → (((kind : PathKind) → count_of usages kind ≡ 0) → ⊥) → IsUsed usages
used_somehow usages never = elim (cases_eq usages.inductive 0) [
  | inr some ↦ (Inductive, some)
  | inl a ↦ elim (cases_eq usages.unknown 0) [
    | inr some ↦ (Unknown, some)
    | inl b ↦ elim (cases_eq usages.coinductive 0) [
      | inr some ↦ (Coinductive, some)
      | inl c ↦ elim (cases_eq usages.forced_ambiguity 0) [
        | inr some ↦ (ForcedAmbiguity, some)
        | inl d ↦ absurd (never (λ kind. elim kind as (λ k. count_of usages k ≡ 0) [
          | Inductive ↦ a
          | Unknown ↦ b
          | Coinductive ↦ c
          | ForcedAmbiguity ↦ d
        ]))
      ]
    ]
  ]
]

module _ {X I R A T : Type 0} (same : R → R → Bool)
    (initial_kind : R → Option PathKind) (ambiguity : R → Option A) where
  -- a fixpoint is a reason, with the kind of its initial result where it is one of the first run
  pub fixpoint_reason : (earlier : Option R) (usages : HeadUsages) (r : R) (kind : Option PathKind)
      → (earlier ≡ None → kind ≡ initial_kind r) → (IsSome earlier → kind ≡ None)
      → ReachedFixpoint same initial_kind earlier usages r
      → IsReason same initial_kind ambiguity {X = X} {I = I} {T = T} earlier usages r (reason.ReachedFixpoint kind)
  fixpoint_reason (Some value) usages r kind first later reached =
      subst (λ k. IsReason same initial_kind ambiguity {X = X} {I = I} {T = T} (Some value) usages r
      (reason.ReachedFixpoint k)) (sym (later refl)) (Repeated value refl reached)
  fixpoint_reason None usages r kind first later reached =
      subst (λ k. IsReason same initial_kind ambiguity {X = X} {I = I} {T = T} None usages r (reason.ReachedFixpoint k))
      (sym (first refl ∙ reached.1)) (Initial reached.0 refl reached.1 reached.2)

module _ {X I R A T : Type 0} (same : R → R → Bool) (initial_kind : R → Option PathKind) (ambiguity : R → Option A)
    (limit : ℕ) (earlier : Option R) (usages : Option HeadUsages) (finished_runs : ℕ) (r : R) where
  -- a goal that had its most runs was used as a head,
  pub limited : (e : Result (Option (RebaseReason X I R A T)) Unstable)
      → IsEndOfRun same initial_kind ambiguity limit earlier usages finished_runs r e → e ≡ Err AtLimit
      → (is_some usages ≡ true) × (limit ≤ finished_runs + 1)
  limited e (Unused is) at = absurd cc
  limited e (Stable used why is stable) at = absurd cc
  limited e (Limited used is never many) at = (ap is_some is, many)
  limited e (Repeats used is never few) at = absurd cc

  -- and so was one that is run again
  pub unstable : (e : Result (Option (RebaseReason X I R A T)) Unstable)
      → IsEndOfRun same initial_kind ambiguity limit earlier usages finished_runs r e → e ≡ Err Again
      → (is_some usages ≡ true) × (finished_runs + 1 < limit)
  unstable e (Unused is) at = absurd cc
  unstable e (Stable used why is stable) at = absurd cc
  unstable e (Limited used is never many) at = absurd cc
  unstable e (Repeats used is never few) at = (ap is_some is, few)

-- what was read of the newest goal holds of it
module _ {X F I R A T : Type 0} (goals : List (OpenGoal X F I R A T)) (e : StackEntry X I R A T) (y : Run X F I R A T)
    (entry_is : option_map (λ s. s.0) (newest goals) ≡ Some e)
    (run_is : option_map (λ s. s.1) (newest goals) ≡ Some y) where
  of_newest : (P : StackEntry X I R A T → Run X F I R A T → Type 0) → P e y
      → (s : OpenGoal X F I R A T) (below : List (OpenGoal X F I R A T)) → goals ≡ s ∷ below → P s.0 s.1
  of_newest P holds s below is =
      let first : Some s.0 ≡ Some e =
      ap (λ l. option_map (λ (t : OpenGoal X F I R A T). t.0) (newest l)) (sym is) ∙ entry_is in
      let second : Some s.1 ≡ Some y =
      ap (λ l. option_map (λ (t : OpenGoal X F I R A T). t.1) (newest l)) (sym is) ∙ run_is in
      let same : s.0 ≡ e = cc in
      let other : s.1 ≡ y = cc in
      subst (λ d. P d s.1) (sym same) (subst (P e) (sym other) holds)

  pub newest_limited : (limit : ℕ) → (is_some e.state.usages ≡ true) × (limit ≤ y.finished_runs + 1)
      → (s : OpenGoal X F I R A T) (below : List (OpenGoal X F I R A T)) → goals ≡ s ∷ below
      → (is_in_cycle s.0.state ≡ true) × (max 1 limit ≤ s.1.finished_runs + 1)
  newest_limited limit is =
      let many : max 1 limit ≤ y.finished_runs + 1 = omega (arith, is.1) in
      of_newest (λ d r. (is_in_cycle d.state ≡ true) × (max 1 limit ≤ r.finished_runs + 1))
      (or_left (is_some e.state.usages) (some_heads e.state.heads) is.0, many)

  pub newest_unstable : (limit : ℕ) → (is_some e.state.usages ≡ true) × (y.finished_runs + 1 < limit)
      → (s : OpenGoal X F I R A T) (below : List (OpenGoal X F I R A T)) → goals ≡ s ∷ below
      → (is_in_cycle s.0.state ≡ true) × (s.1.finished_runs + 1 < max 1 limit)
  newest_unstable limit is =
      let few : y.finished_runs + 1 < max 1 limit = omega (arith, is.1) in
      of_newest (λ d r. (is_in_cycle d.state ≡ true) × (r.finished_runs + 1 < max 1 limit))
      (or_left (is_some e.state.usages) (some_heads e.state.heads) is.0, few)
