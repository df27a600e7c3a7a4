-- The reason why a goal's result stands is true of the goal, and a goal that rests on another one has no rank.
use Rattle.std.proofs.Common.{◌≡◌, ◌≢◌, ℕ, Bool, true, List, [], ◌∷◌, Option, None, Some, Result, Ok, option_map, sym}
use Rattle.std.proofs.Common.{ap, ◌∙◌, subst, refl, inl}
use Rattle.open_graphs.specs.Rebased as theory
use Rattle.search_rules.specs.Below.{PathKind, Inductive, Unknown, Coinductive, ForcedAmbiguity, HeadUsages, Heads}
use Rattle.search_rules.specs.Below.{rank_of, DelegateOf, CxOf, Done, RebaseReason, OpenGoal, StackEntry, IsCycleResult}
use Rattle.search_rules.specs.Below.{verdict_of, some_heads, newest, Stood, Verdicts}
use Rattle.evaluations.proofs.Mirrors.{leaves_safe}
use Rattle.search_rules.specs.Words.{Unstable, Call, limits, bound, IsCounted, seen, HasAsked, frame_of, reason_shape}
use Rattle.search_rules.specs.Words.{HasReason, IsNewestUnranked, IsReason, IsEndOfRun, Repeated, Initial}
use Rattle.search_rules.specs.Words.{WithoutUsages, Ambiguous, Stable, Limited, Repeats, run_of}
use Rattle.search_rules.specs.EndOfRun.{Unused}
use Rattle.search_rules.proofs.moves.Moves.{leaving, outcome_of}

-- ---- the reason

-- a result that is initial for a kind of cycles has the verdict of the initial result of that kind
initial_verdict : {R : Type 0} (says : Verdicts R) (kind : PathKind) (r : R)
    → IsCycleResult says.is_yes says.is_no kind r → theory.IsInitial (rank_of kind) (verdict_of says r)
initial_verdict says Inductive r is = let yes = is.yes in let no = is.no in rw (yes, no) theory.Inductive
initial_verdict says Unknown r is = let yes = is.yes in let no = is.no in rw (yes, no) theory.Unknown
initial_verdict says Coinductive r is = let yes = is.yes in rw yes theory.Coinductive
initial_verdict says ForcedAmbiguity r is = let yes = is.yes in let no = is.no in rw (yes, no) theory.ForcedAmbiguity

module _ {X F I R A T : Type 0} (says : Verdicts R) (same : R → R → Bool)
    (by_value : (x y : R) → same x y ≡ true → x ≡ y) (initial_kind : R → Option PathKind)
    (sorts : (r : R) (kind : PathKind) → initial_kind r ≡ Some kind → IsCycleResult says.is_yes says.is_no kind r)
    (ambiguity : R → Option A) where
  -- a reason for the result of a run is true of its goal,
  is_true : (s : OpenGoal X F I R A T) (usages : HeadUsages) (r : R) (why : RebaseReason X I R A T)
      → IsReason same initial_kind ambiguity s.0.state.provisional_result usages r why
      → theory.IsTrueReason (reason_shape why) (verdict_of says r) (frame_of says (run_of s)).entry
  is_true s usages r why (Repeated value is again) =
      ap (option_map (verdict_of says)) is ∙ ap (λ x. Some (verdict_of says x)) (by_value value r again)
  is_true s usages r why (Initial kind none is only) =
      (ap (option_map (verdict_of says)) none, initial_verdict says kind r (sorts r kind is))
  is_true s usages r why (WithoutUsages never none) = tt
  is_true s usages r why (Ambiguous info never used is) = tt

  -- so what becomes of the goal has a reason
  reason_at : (limit finished_runs : ℕ) (s : OpenGoal X F I R A T) (below : List (OpenGoal X F I R A T)) (r : R)
      (e : Result (Option (RebaseReason X I R A T)) Unstable) (why : Option (RebaseReason X I R A T))
      → IsEndOfRun same initial_kind ambiguity limit s.0.state.provisional_result s.0.state.usages finished_runs r e
      → e ≡ Ok why → HasReason says why (s ∷ below) r
  reason_at limit finished_runs s below r e why (Unused is) at =
      let found : None ≡ why = cc in subst (λ w. HasReason says w (s ∷ below) r) found is
  reason_at limit finished_runs s below r e why (Stable used reason is stable) at =
      let found : Some reason ≡ why = cc in
      subst (λ w. HasReason says w (s ∷ below) r) found (is_true s used r reason stable)
  reason_at limit finished_runs s below r e why (Limited used is never many) at = absurd cc
  reason_at limit finished_runs s below r e why (Repeats used is never few) at = absurd cc

  pub newest_reason : (limit finished_runs : ℕ) (goals : List (OpenGoal X F I R A T)) (d : StackEntry X I R A T) (r : R)
      (e : Result (Option (RebaseReason X I R A T)) Unstable) (why : Option (RebaseReason X I R A T))
      → option_map (λ s. s.0) (newest goals) ≡ Some d
      → IsEndOfRun same initial_kind ambiguity limit d.state.provisional_result d.state.usages finished_runs r e
      → e ≡ Ok why → HasReason says why goals r
  newest_reason limit finished_runs [] d r e why is end at = absurd cc
  newest_reason limit finished_runs (s ∷ below) d r e why is end at =
      let first : s.0 ≡ d = cc in
      reason_at limit finished_runs s below r e why (subst (λ (x : StackEntry X I R A T). IsEndOfRun same initial_kind
      ambiguity limit x.state.provisional_result x.state.usages finished_runs r e) (sym first) end) at

-- ---- the rank

heads_are_some : (heads : Heads) → heads ≢ [] → some_heads heads ≡ true
heads_are_some [] some = absurd (some refl)
heads_are_some (head ∷ heads) some = refl

-- the newest goal has no rank, if it rests on a goal below
pub newest_unranked : {D C V P F I R A T : Type 0} (G : DelegateOf D C V P F I R A T) (X : CxOf C I R A T) (cx : C)
    (call : Call I) (ahead : ℕ) (done : R) (starts : ℕ) (met : Bool) (goals : List (OpenGoal C F I R A T))
    → HasAsked G X cx call ahead (Done done) goals starts met → IsNewestUnranked (G.script cx) goals
newest_unranked G X cx call ahead done starts met [] h = absurd h.asked.mirror
newest_unranked G X cx call ahead done starts met (s ∷ below) h = λ some.
    let safe = leaves_safe (seen G X cx) (Stood G X cx) (G.script cx) (limits G X cx call) (IsCounted G X cx call)
    call.top (bound G X cx call) ahead done (outcome_of G X cx done s) s below starts met h.asked
    (leaving G X cx done done s (inl refl)) in
    safe.cycle (heads_are_some s.0.state.heads some)
