-- A question that was asked anew, as it is told.
use Rattle.std.proofs.Common.{◌≡◌, ℕ, Bool, Err, None, Ok, Option, subst, sym}
use Rattle.sessions.specs.Below.{CxOf, DelegateOf, Fault, Outcome}
use Rattle.sessions.specs.Causes.{IsAskedAnew, IsToldAnew, told_of}
use Rattle.sessions.specs.declared.asking.Asked.{Asked}
use Rattle.sessions.specs.declared.causes.Caused.{Caused}
use Rattle.watched_runs.specs.declared.watch.Reason.{Reason}

module _ {D C V P F A T : Type 0} (G : DelegateOf D C V P F ℕ Outcome A T) (X : CxOf C ℕ Outcome A T)
    (same : ℕ → ℕ → Bool) (same_result : Outcome → Outcome → Bool) (from cx : C) (depth goal : ℕ) where
  pub told_anew : (asked : Asked) (caused : Caused) (reason : Option (Reason ℕ)) (is_unknown : Bool) → from ≡ cx
      → caused ≡ told_of asked reason is_unknown → IsAskedAnew G X same same_result from depth goal (Ok asked)
      → IsToldAnew G X same same_result cx depth goal (Ok caused)
  told_anew asked caused reason is_unknown about told anew =
      subst (λ it. IsToldAnew G X same same_result it depth goal (Ok caused)) about
      (subst (λ it. IsToldAnew G X same same_result from depth goal (Ok it)) (sym told)
      (record { node = asked.node; anew = anew }))

  pub fault_anew : (fault : Fault ℕ Outcome) → from ≡ cx
      → IsAskedAnew G X same same_result from depth goal (Err fault)
      → IsToldAnew G X same same_result cx depth goal (Err fault)
  fault_anew fault about anew =
      subst (λ it. IsToldAnew G X same same_result it depth goal (Err fault)) about
      (record { node = None; anew = anew })
