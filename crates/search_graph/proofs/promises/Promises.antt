-- What a call promises as it ends or stops.
use Rattle.std.proofs.Common.{◌≡◌, ℕ, ◌+◌, ◌≤◌, if◌then◌else◌, Bool, true, false, Option, inl, inr, refl, ap}
use Rattle.std.proofs.Common.{◌∙◌, subst}
use Rattle.open_graphs.specs.Graph as theory
use Rattle.search_graph.specs.Below.{Cache, Decides, IsDefinite, IsProved, IsRefuted, NodeId, verdicts, DelegateOf}
use Rattle.search_graph.specs.Below.{CxOf, Fault, IsPlainTo, IsPlainValue, frames_within, IsPaid, HasCounted, Call}
use Rattle.search_graph.specs.Below.{CallIsEnclosed, runs, HasEnded, HasStopped}

module _ {D C V P F I R A T : Type 0} (G : DelegateOf D C V P F I R A T) (X : CxOf C I R A T) (cx : C)
    (call : Call I) (now : ℕ) (met : Bool) where
  pub ended_plain : (r : R) → HasEnded G X cx call r now met → (n : ℕ) → IsPlainTo (G.script cx) n call.top
      → n ≤ call.root → IsPlainValue (G.script cx) n call.top r
  ended_plain r h n p fits = subst (IsPlainValue (G.script cx) n call.top) h.result_is (h.ends.plain n p fits).0

  pub ended_within : (r : R) → HasEnded G X cx call r now met
      → now ≤ call.starts + frames_within (runs G X cx) (G.width cx) call.root
  ended_within r h = h.ends.within

  pub ended_paid : (r : R) → HasEnded G X cx call r now met → G.counts ≡ true → call.without_overflow ≡ true
      → call.limits_met ≡ false → met ≡ true → IsPaid (runs G X cx) call.root G.last call.starts now
  ended_paid r h counted calm unmet is_met = h.ends.paid (counted, unmet, inl calm) is_met

  -- in an enclosed call a limit costs all runs of one goal
  pub ended_by_runs : (r : R) → HasEnded G X cx call r now met → CallIsEnclosed G X cx call → G.counts ≡ true
      → call.limits_met ≡ false → met ≡ true → HasCounted G.last call.starts now (runs G X cx)
  ended_by_runs r h enclosed counted unmet is_met = h.ends.by_runs (counted, unmet, inr enclosed) enclosed is_met

  pub stopped_by_runs : (fault : Fault I R) → HasStopped G X cx call fault now met → CallIsEnclosed G X cx call
      → G.counts ≡ true → call.limits_met ≡ false → met ≡ true → HasCounted G.last call.starts now (runs G X cx)
  stopped_by_runs fault h enclosed counted unmet is_met = h.stops.by_runs (counted, unmet, inr enclosed) enclosed is_met

  pub stopped_within : (fault : Fault I R) → HasStopped G X cx call fault now met
      → now ≤ call.starts + frames_within (runs G X cx) (G.width cx) call.root
  stopped_within fault h = h.stops.within

  pub stopped_paid : (fault : Fault I R) → HasStopped G X cx call fault now met → G.counts ≡ true
      → call.without_overflow ≡ true → call.limits_met ≡ false → met ≡ true
      → IsPaid (runs G X cx) call.root G.last call.starts now
  stopped_paid fault h counted calm unmet is_met = h.stops.paid (counted, unmet, inl calm) is_met

-- a definite result whose graph leaves no other decides its goal
pub definite_decides : {D C V P F I R A T : Type 0} (G : DelegateOf D C V P F I R A T) (X : CxOf C I R A T)
    (cache : Cache C I R T) (goal : I) (r : R) (node : Option NodeId)
    → (X.is_yes r ≡ true → IsProved X cache goal node) → (X.is_no r ≡ true → IsRefuted X cache goal node)
    → IsDefinite (verdicts X) r → Decides X cache.cx goal r
definite_decides G X cache goal r node proved refuted definite = record {
  proved = λ nodes root graph.
      yes_at (X.is_yes r) (X.is_no r) refl refl (λ fails. (refuted fails).never_proved nodes root graph);
  refuted = λ nodes root graph.
      no_at (X.is_yes r) (X.is_no r) refl refl (λ holds. (proved holds).never_refuted nodes root graph);
}
  where
    verdict_at : Bool → Bool → theory.Verdict
    verdict_at holds fails = if holds then theory.Yes else if fails then theory.No else theory.Neither

    yes_at : (holds fails : Bool) → X.is_yes r ≡ holds → X.is_no r ≡ fails → (X.is_no r ≡ true → ⊥) → X.is_yes r ≡ true
    yes_at true fails is_yes is_no never = is_yes
    yes_at false true is_yes is_no never = absurd (never is_no)
    yes_at false false is_yes is_no never =
        absurd (definite (ap (λ b. verdict_at b (X.is_no r)) is_yes ∙ ap (verdict_at false) is_no))

    no_at : (holds fails : Bool) → X.is_yes r ≡ holds → X.is_no r ≡ fails → (X.is_yes r ≡ true → ⊥) → X.is_no r ≡ true
    no_at true fails is_yes is_no never = absurd (never is_yes)
    no_at false true is_yes is_no never = is_no
    no_at false false is_yes is_no never =
        absurd (definite (ap (λ b. verdict_at b (X.is_no r)) is_yes ∙ ap (verdict_at false) is_no))
